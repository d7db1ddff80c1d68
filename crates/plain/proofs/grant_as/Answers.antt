-- By what is reserved.
use Rattle.plain.proofs.Kit.{◌∙◌, ◌≡◌, sym, ap, subst, Some, Err, arith, [], ◌∷◌, leb-true, leb-false, length, row_bytes, size_limit, enlarged, Askable}
use Rattle.plain.proofs.Kit.{card_row, done, view_by, slots_layout, by_slots, Sound, by_check}
use Rattle.std.specs.Result.{result_ok}
use Rattle.model.specs.declared.Refusal.TheVariants.{NoRoom}
use Rattle.model.specs.State.{Place}
use Rattle.model.specs.Plans.{reserve}
use Rattle.rows.specs.Rows.{block_of}
use Rattle.frames.specs.Blocks.{Standing, next_room_by}
use Rattle.frames.proofs.Places.{reserved_stands}
use Rattle.frames.proofs.Calls.{grant-too_large, granted-none, granted_at}
use Rattle.frames.proofs.Reserved.{reserved_place, reserved-none}
use Rattle.plain.proofs.grant_as.Goals as goal
use Rattle.plain.proofs.grant_as.Goals.{Else-too_large, In_ok-b, Start}

-- the tables are sound
lent : (s : Start) → Sound s.args.arena.now s.args.room.now
lent s = by_check _ _ s.requires.room_value

pub returns-then-too_large : goal.returns-then-too_large
returns-then-too_large c =
    grant-too_large (lent (goal.at.returns-then-too_large c).Start) _ _ (leb-true size_limit (enlarged c.args.code c.args.n) (sym c.too_large.ensures ∙ c.if-too_large.true))

-- the size is one that can be asked for
small : (c : Else-too_large) → (let a = c.args in Askable a.code a.n)
small c =
    let a = c.args in
    record {
      some_code = c.requires.code_in_range.0;
      last_code = c.requires.code_in_range.1;
      small = leb-false size_limit (enlarged a.code a.n) (sym c.too_large.ensures ∙ c.if-too_large.false);
    }

pub reserve_slot-requires : goal.reserve_slot-requires
unfolding row_bytes
reserve_slot-requires c = record { room_value = c.requires.room_value; askable = small (goal.at.reserve_slot-requires c).Else-too_large }

pub returns-in_err-b : goal.returns-in_err-b
unfolding row_bytes
returns-in_err-b c =
    let a = c.args in
    let P = view_by slots_layout row_bytes a.room.now in
    let q = reserved-none row_bytes (reserve row_bytes P a.code a.n) (sym c.reserve_slot.ensures.value ∙ c.ok_or.ensures.ok_part ∙ ap result_ok c.in_err-b.was) in
    let d = granted-none (lent (goal.at.returns-in_err-b c).Start) a.code a.n (small (goal.at.returns-in_err-b c).Else-too_large) q in
    let e : c.from_residual.result ≡ Err NoRoom = grind arith in
    record {
      answer = rw e d.answer;
      arena = d.arena;
      kept = c.reserve_slot.ensures.room_after ∙ ap (next_room_by slots_layout row_bytes a.room.now) q ∙ d.kept;
    }

-- the place that is reserved
place : (c : In_ok-b) → (let a = c.args in
    (q : Place) × (reserve row_bytes (view_by slots_layout row_bytes a.room.now) a.code a.n ≡ Some q) × (block_of row_bytes q ≡ c.in_ok-b.b))
unfolding row_bytes
place c =
    let r = c.reserve_slot in reserved_place row_bytes _ _ (sym r.ensures.value ∙ c.ok_or.ensures.ok_part ∙ ap result_ok c.in_ok-b.was)

pub lay_out-requires : goal.lay_out-requires
unfolding row_bytes
lay_out-requires c =
    let a = c.args in
    let (q, f, e) = place (goal.at.lay_out-requires c).In_ok-b in
    record { standing = subst (Standing row_bytes (length a.arena.now)) e (reserved_stands (by_slots c.requires.room_value card_row) a.code a.n (small (goal.at.lay_out-requires c).Else-too_large) q f) }

pub returns : goal.returns
unfolding row_bytes
returns c =
    let x = c.lay_out in
    let a = c.args in
    let (q, f, e) = place (goal.at.returns c).In_ok-b in
    let d = granted_at (lent (goal.at.returns c).Start) a.code a.n (small (goal.at.returns c).Else-too_large) q f c.in_ok-b.b (sym e) c.reserve_slot.new.room
    (c.reserve_slot.ensures.room_after ∙ ap (next_room_by slots_layout row_bytes a.room.now) f) in
    record { answer = ap (λ v. done (v ∷ [])) x.ensures.value ∙ d.answer; arena = x.ensures.arena_after ∙ d.arena; kept = d.kept }
