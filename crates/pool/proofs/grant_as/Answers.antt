-- By what is reserved.
use Rattle.ops.proofs.Kit.{◌∙◌, sym, ap, [], ◌∷◌, leb-true, leb-false, row_bytes, size_limit, enlarged, Askable, card_row, done, kept_in}
use Rattle.ops.proofs.Kit.{Checked, by_check}
use Rattle.mem.proofs.Prelude.{Err, arith, ◌≡◌}
use Rattle.model.proofs.Handed.{had, had_none, handed_on}
use Rattle.frames.proofs.Calls.{grant-too_large}
use Rattle.ops.proofs.Calls.{GrantedAt, granted_at, granted-none}
use Rattle.pool.proofs.grant_as.Goals as goal
use Rattle.pool.proofs.grant_as.Goals.{Else-too_large, In_ok-b, Start}

-- the tables are sound
lent : (s : Start) → Checked row_bytes s.args.arena.now (kept_in s.args.room.now s.args.t.now)
lent s = by_check s.args.arena.now (kept_in s.args.room.now s.args.t.now) s.requires.totals_value card_row

pub returns-then-too_large : goal.returns-then-too_large
returns-then-too_large c =
    (grant-too_large (lent (goal.at.returns-then-too_large c).Start).form c.args.code c.args.n
    (leb-true size_limit (enlarged c.args.code c.args.n) (sym c.too_large.ensures ∙ c.if-too_large.true)))

-- the size is one that can be asked for
small : (c : Else-too_large) → (let a = c.args in Askable a.code a.n)
small c =
    let h = leb-false size_limit (enlarged c.args.code c.args.n) (sym c.too_large.ensures ∙ c.if-too_large.false) in
    record { some_code = c.requires.code_in_range.0; last_code = c.requires.code_in_range.1; small = h }

pub reserve_slot-requires : goal.reserve_slot-requires
unfolding row_bytes
reserve_slot-requires c =
    let r = lent (goal.at.reserve_slot-requires c).Start in record { room_value = r.room.sound; askable = small (goal.at.reserve_slot-requires c).Else-too_large; totals_value = r.counts }

pub returns-in_err-b : goal.returns-in_err-b
unfolding row_bytes
returns-in_err-b d =
    let n = had_none d.ok_or.ensures.ok_part d.in_err-b.was in
    let e : d.from_residual.result ≡ Err d.in_err-b.field-0.0 = grind arith in
    let r = d.reserve_slot.ensures in
    rw (handed_on n d.ok_or.ensures.value d.in_err-b.was e)
    (granted-none (lent (goal.at.returns-in_err-b d).Start) d.args.code d.args.n (small (goal.at.returns-in_err-b d).Else-too_large) (sym r.value ∙ n) r.room_after r.totals_after)

-- the block that is granted
block : (c : In_ok-b) → (GrantedAt (lent (goal.at.In_ok-b c).Start) c.args.code c.args.n (small (goal.at.In_ok-b c).Else-too_large) c.in_ok-b.b c.reserve_slot.new.t c.reserve_slot.new.room)
unfolding row_bytes
block c =
    let r = c.reserve_slot.ensures in granted_at _ _ _ _ (sym r.value ∙ had c.ok_or.ensures.ok_part c.in_ok-b.was) r.room_after r.totals_after

pub lay_out-requires : goal.lay_out-requires
unfolding row_bytes
lay_out-requires c = record { standing = (block (goal.at.lay_out-requires c).In_ok-b).stands }

pub returns : goal.returns
unfolding row_bytes
returns c =
    let x = c.lay_out.ensures in
    let p = (block (goal.at.returns c).In_ok-b).result in
    record { answer = ap (λ v. done (v ∷ [])) x.value ∙ p.answer; arena = x.arena_after ∙ p.arena; kept = p.kept }
