-- By the code of the alignment.
use Rattle.ops.proofs.Kit.{◌∙◌, sym, subst, ◌<◌, arith, row_bytes, kept_in, engine, view, CarriedOutBy}
use Rattle.ops.proofs.Kit.{Checked, called, carried_as, checked, refusing}
use Rattle.model.specs.declared.Refusal.TheVariants.{BadAlignment}
use Rattle.model.specs.Plans.{grants_aligned, grant_as}
use Rattle.frames.proofs.Calls.{refused_out, aligned-none, aligned-does}
use Rattle.mem.proofs.Prelude.{ap, not, ◌≡◌, Err}
use Rattle.mem.proofs.Tests.{nonzero_some, nonzero_none}
use Rattle.classes.specs.Alignments.{code_of}
use Rattle.classes.proofs.Alignments.{code_most}
use Rattle.model.proofs.Handed.{had, had_none, handed_on}
use Rattle.pool.proofs.grant_aligned.Goals as goal
use Rattle.pool.proofs.grant_aligned.Goals.{Else-not-sound, In_ok-code}

pub returns-then-not-sound : goal.returns-then-not-sound
returns-then-not-sound d = refusing _ _ d.sound.ensures (grants_aligned _ _) tt (ap not d.if-not-sound.true)

-- the tables are sound
lent : (c : Else-not-sound) → (let a = c.args in Checked row_bytes a.arena.now (kept_in a.room.now a.t.now))
lent c = checked _ _ c.sound.ensures (ap not c.if-not-sound.false)

pub returns-in_err-code : goal.returns-in_err-code
unfolding row_bytes
returns-in_err-code d =
    let a = d.args in
    let r = (lent (goal.at.returns-in_err-code d).Else-not-sound).form in
    let n = had_none d.ok_or.ensures.ok_part d.in_err-code.was in
    let e : d.from_residual.result ≡ Err d.in_err-code.field-0.0 = grind arith in
    rw (handed_on n d.ok_or.ensures.value d.in_err-code.was e)
    (carried_as (refused_out r BadAlignment)
    (called r (grants_aligned a.n a.align) _ (aligned-none r a.n a.align (nonzero_none (code_of a.align) (sym d.code_of.ensures.value ∙ n)))))

-- there is such an alignment
some : (c : In_ok-code) → (code_of c.args.align ≡ c.in_ok-code.code) × (0 < c.in_ok-code.code)
some c = nonzero_some (code_of c.args.align) c.in_ok-code.code (sym c.code_of.ensures.value ∙ had c.ok_or.ensures.ok_part c.in_ok-code.was)

pub grant_as-requires : goal.grant_as-requires
unfolding row_bytes
grant_as-requires c =
    let (k, h) = some (goal.at.grant_as-requires c).In_ok-code in
    record { totals_value = (lent (goal.at.grant_as-requires c).Else-not-sound).form.sound; code_in_range = (h, omega (arith, k, code_most c.args.align)) }

pub returns : goal.returns
unfolding row_bytes
returns c =
    let a = c.args in
    let r = c.grant_as in
    let (k, h) = some (goal.at.returns c).In_ok-code in
    let f = (lent (goal.at.returns c).Else-not-sound).form in
    carried_as (subst (λ v. CarriedOutBy (engine row_bytes) a.arena.now (grant_as row_bytes (view row_bytes a.room.now) v a.n) r.result
    r.new.arena (kept_in r.new.room r.new.t)) (sym k) r.ensures)
    (called f (grants_aligned a.n a.align) _ (aligned-does f a.n a.align (subst (λ v. 0 < v) (sym k) h)))
