-- `ready_slot` meets its contract: where none is ready, the slots are turned.
use Rattle.mem.proofs.Prelude.{◌≡◌, sym, refl, ◌∷◌, ◌++◌, drop, ℕ, ◌+◌, ◌<◌, ◌≤◌, arith, length}
use Rattle.mem.specs.Lists.{first}
use Rattle.classes.specs.Classes.{slots_of}
use Rattle.model.specs.State.{group, is_ready}
use Rattle.model.specs.Plans.{Site, refill}
use Rattle.model.specs.Tables.{row_at, row_record_bytes, encode_by}
use Rattle.model.specs.Plain.{plain_group, slots_layout}
use Rattle.rows.specs.Rows.{Offers}
use Rattle.rows.proofs.Held.{offered_inside}
use Rattle.plain_changes.proofs.Changes.{ready_now, ready_then, ready_inside, some_found}
use Rattle.plain_changes.proofs.ready_slot.Goals as goal
use Rattle.plain_changes.proofs.ready_slot.Goals.{Start, After-turn_all}

-- the group's first row stands in the room, and has a class
inside : (s : Start) → ((s.args.i < 512) × (row_at s.args.i + row_record_bytes ≤ length s.args.room.now)) × (s.args.c < 48)
inside s = let q = s.requires in (offered_inside q.0 s.args.room.now s.args.i s.args.c q.1 q.2, q.2.class)

pub first_ready-requires : goal.first_ready-requires
first_ready-requires c = let h = inside (goal.at.first_ready-requires c).Start in record { i_lt_most_rows = h.0; c_bound = h.1 }

pub returns-in-Some : goal.returns-in-Some
returns-in-Some c row g o = let (e, h) = c.in-Some.ensures in ready_now o c.in-Some.j (slots_of c.args.c) e refl h

pub turn_all-requires : goal.turn_all-requires
turn_all-requires c = let h = inside (goal.at.turn_all-requires c).Start in record { i_lt_most_rows = h.0; c_bound = h.1 }

pub first_ready-requires-2 : goal.first_ready-requires-2
first_ready-requires-2 c =
    let h = inside (goal.at.first_ready-requires-2 c).Start in
    record { i_lt_most_rows = (h.0.0, omega (arith, h.0.1)); c_bound = h.1 }

-- after the turn
turned : (c : After-turn_all) (row : ℕ) (g : Site) → Offers slots_layout row c.args.room.now c.args.i c.args.c g
    → (k : ℕ) → k ≡ first is_ready (plain_group c.args.c (drop (row_at c.args.i) c.turn_all.new.room))
    → (k ≡ first is_ready (refill g.slots)) × (c.turn_all.new.room ≡ encode_by slots_layout row (g.before ++ (group c.args.c (refill g.slots) ∷ g.after)))
turned c row g o = ready_then o (slots_of c.args.c) (slots_of c.args.c) (sym c.in_default.ensures) refl (omega arith) c.turn_all.new.room c.turn_all.ensures

pub unwrap-requires : goal.unwrap-requires
unwrap-requires c =
    let q = c.requires in
    let k = first is_ready (plain_group c.args.c (drop (row_at c.args.i) c.turn_all.new.room)) in
    let h = ready_inside q.2 k (turned (goal.at.unwrap-requires c).After-turn_all q.0 q.1 q.2 k refl).0 in
    some_found _ c.first_ready-2.result c.first_ready-2.ensures (λ e. omega (arith, h, e))

pub returns : goal.returns
returns c row g o =
    let e = rw c.unwrap.ensures at c.first_ready-2.ensures in
    turned (goal.at.returns c).After-turn_all row g o c.unwrap.result e.0
