-- `give_slot` meets its contract.
use Rattle.mem.proofs.Prelude.{lit≤, ◌+◌, ◌<◌, ◌≤◌, arith, length}
use Rattle.mem.specs.Lists.{choose}
use Rattle.classes.specs.Classes.{rows_of}
use Rattle.rows.proofs.Held.{held_rows, held_inside}
use Rattle.model.specs.Tables.{row_at, row_record_bytes}
use Rattle.plain_changes.proofs.Changes.{given_last, given_back}
use Rattle.plain_changes.proofs.give_slot.Goals as goal
use Rattle.plain_changes.proofs.give_slot.Goals.{Start}

held : (s : Start) → (let b = s.args.b in let row = s.args.row.bytes in
    (b.class < 48) × (b.slot < 31) × (b.first + rows_of row b.class ≤ 512) × (row_at (b.first + rows_of row b.class) ≤ length s.args.room.now))
held s = held_rows s.args.row.bytes s.args.room.now s.args.b s.requires.holds.0 s.requires.holds.1

-- the group's first row stands in the room
inside : (s : Start) → (s.args.b.first < 512) × (row_at s.args.b.first + row_record_bytes ≤ length s.args.room.now)
inside s = held_inside s.args.row.bytes s.args.room.now s.args.b s.requires.holds.0 s.requires.holds.1

pub store-requires : goal.store-requires
unfolding choose
store-requires c =
    record { i_lt_most_rows = inside (goal.at.store-requires c).Start; j_lt_most_slots = ((held (goal.at.store-requires c).Start).1, lit≤ tt) }

pub live_in-requires : goal.live_in-requires
live_in-requires c =
    record { i_lt_most_rows = ((inside (goal.at.live_in-requires c).Start).0, omega (arith, (inside (goal.at.live_in-requires c).Start).1)); c_bound = (held (goal.at.live_in-requires c).Start).0 }

pub drop_rows-requires : goal.drop_rows-requires
drop_rows-requires c =
    let e = c.rows.ensures.value in
    (omega (arith, e, (held (goal.at.drop_rows-requires c).Start).2), omega (arith, e, (held (goal.at.drop_rows-requires c).Start).3))

pub returns-then-live_in-eq0 : goal.returns-then-live_in-eq0
returns-then-live_in-eq0 c p h =
    let a = c.args in
    given_last a.row.bytes a.room.now a.b p h c.store.new.room c.store.ensures c.live_in.result c.live_in.ensures c.if-live_in-eq0.true
    c.rows.result c.rows.ensures.value c.drop_rows.new.room c.drop_rows.ensures

pub returns : goal.returns
returns c p h =
    let a = c.args in
    given_back a.row.bytes a.room.now a.b p h c.store.new.room c.store.ensures c.live_in.result c.live_in.ensures c.if-live_in-eq0.false

pub rows-requires : goal.rows-requires
rows-requires c = record { c_bound = (held (goal.at.rows-requires c).Start).0 }
