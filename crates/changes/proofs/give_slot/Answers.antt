-- `give_slot` meets its contract.
use Rattle.mem.proofs.Prelude.{◌+◌, ◌<◌, ◌≤◌, arith, rules, length}
use lib.Count.{ones-le}
use Rattle.classes.specs.Classes.{rows_of}
use Rattle.model.specs.Tables.{row_at, row_record_bytes}
use Rattle.rows.proofs.Held.{held_rows, held_inside}
use Rattle.changes.proofs.Laws.{given-fits, given_few, given_last, given_back}
use Rattle.changes.proofs.give_slot.Goals as goal
use Rattle.changes.proofs.give_slot.Goals.{Start}

held : (s : Start) → (let b = s.args.b in let row = s.args.row.bytes in
    (b.class < 48) × (b.slot < 31) × (b.first + rows_of row b.class ≤ 512) × (row_at (b.first + rows_of row b.class) ≤ length s.args.room.now))
held s = held_rows s.args.row.bytes s.args.room.now s.args.b s.requires.holds.0 s.requires.holds.1

-- the group's first row stands in the room
inside : (s : Start) → (s.args.b.first < 512) × (row_at s.args.b.first + row_record_bytes ≤ length s.args.room.now)
inside s = held_inside s.args.row.bytes s.args.room.now s.args.b s.requires.holds.0 s.requires.holds.1

pub give_back-m-requires : goal.give_back-m-requires
give_back-m-requires c =
    let m = c.masks_at-old in
    (omega (arith, (held (goal.at.give_back-m-requires c).Start).1), given-fits c.args.row.bytes c.args.room.now c.args.b c.requires.holds.0 c.requires.holds.1 m.result m.ensures)

pub live-requires : goal.live-requires
live-requires c =
    let m = c.masks_at-old in
    rw c.slots.ensures.value
    (given_few c.args.row.bytes c.args.room.now c.args.b c.requires.holds.0 c.requires.holds.1 m.result m.ensures c.give_back-m.result
    c.give_back-m.ensures)

pub drop_rows-requires : goal.drop_rows-requires
drop_rows-requires c =
    let e = c.rows.ensures.value in
    (omega (arith, e, (held (goal.at.drop_rows-requires c).Start).2), omega (arith, e, (held (goal.at.drop_rows-requires c).Start).3))

pub returns-then-live-eq0 : goal.returns-then-live-eq0
returns-then-live-eq0 c p h =
    let r = c.rows in
    let n = c.slots in
    let m = c.masks_at-old in
    let a = c.args in
    given_last a.row.bytes a.room.now a.b p h m.result m.ensures c.give_back-m.result c.give_back-m.ensures c.live.result
    (rw (← n.ensures.value) c.live.ensures) c.drop_rows.new.room c.if-live-eq0.true r.result r.ensures.value
    c.drop_rows.ensures

pub returns : goal.returns
returns c p h =
    let n = c.slots in
    let m = c.masks_at-old in
    let a = c.args in
    given_back a.row.bytes a.room.now a.b p h m.result m.ensures c.give_back-m.result c.give_back-m.ensures c.live.result
    (rw (← n.ensures.value) c.live.ensures) c.store.new.room c.if-live-eq0.false c.store.ensures

-- a mask has no more than 32 slots
pub overflow_cast-result : goal.overflow_cast-result
overflow_cast-result c =
    let m = c.masks_at-old.result in
    omega (arith, ones-le 32 m.ready (search rules))

pub overflow_cast-result-then-live-eq0 : goal.overflow_cast-result-then-live-eq0
overflow_cast-result-then-live-eq0 c =
    let m = c.masks_at-old.result in
    omega (arith, ones-le 32 m.waiting (search rules))

pub masks_at-old-requires : goal.masks_at-old-requires
masks_at-old-requires c = inside (goal.at.masks_at-old-requires c).Start

pub overflow_cast-b : goal.overflow_cast-b
overflow_cast-b c = omega (arith, (held (goal.at.overflow_cast-b c).Start).1)

pub slots-requires : goal.slots-requires
slots-requires c = (held (goal.at.slots-requires c).Start).0

pub rows-requires : goal.rows-requires
rows-requires c = record { c_bound = (held (goal.at.rows-requires c).Start).0 }

pub store-requires : goal.store-requires
store-requires c = record { i_lt_most_rows = inside (goal.at.store-requires c).Start; j_lt_most_slots = (held (goal.at.store-requires c).Start).1 }
