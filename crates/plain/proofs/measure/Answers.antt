-- By what is located.
use Rattle.plain.proofs.Kit.{◌∙◌, ◌≡◌, sym, Err, arith, ap, refl, [], ◌∷◌, row_bytes, done, view_by, slots_layout, Sound, checked, refusing}
use Rattle.plain.proofs.Kit.{called_at, called_refused}
use Rattle.model.specs.Plans.{measures, measure_at}
use Rattle.frames.proofs.Calls.{measuring, kept_as}
use Rattle.mem.proofs.Prelude.{not}
use Rattle.plain.proofs.measure.Goals as goal
use Rattle.plain.proofs.measure.Goals.{Else-not-sound}

pub returns-then-not-sound : goal.returns-then-not-sound
returns-then-not-sound c = refusing _ _ c.sound.ensures (measures _) tt (ap not c.if-not-sound.true)

-- the tables are sound
lent : (c : Else-not-sound) → (let a = c.args in Sound a.arena.now a.room.now)
lent c = checked _ _ c.sound.ensures (ap not c.if-not-sound.false)

pub returns : goal.returns
unfolding row_bytes
returns c =
    let a = c.args in
    let b = called_at (lent (goal.at.returns c).Else-not-sound) a.handle (measure_at row_bytes (view_by slots_layout row_bytes a.room.now)) (λ p. refl) c.in_ok-b.b
    (sym c.in_ok-b.was ∙ c.locate.ensures) in
    kept_as (lent (goal.at.returns c).Else-not-sound) (ap (λ b. done (b.alloc.size ∷ [])) b.block) (measuring (lent (goal.at.returns c).Else-not-sound) a.handle ∙ b.result)

pub returns-in_err-b : goal.returns-in_err-b
unfolding row_bytes
returns-in_err-b c =
    let a = c.args in
    let e : c.from_residual.result ≡ Err c.in_err-b.field-0.0 = grind arith in
    rw e
    (sym (measuring (lent (goal.at.returns-in_err-b c).Else-not-sound) a.handle ∙ called_refused (lent (goal.at.returns-in_err-b c).Else-not-sound) a.handle (measure_at row_bytes (view_by slots_layout row_bytes a.room.now)) (λ p. refl)
    c.in_err-b.field-0.0 (sym c.in_err-b.was ∙ c.locate.ensures)))
