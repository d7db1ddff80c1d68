-- `take_slot` meets its contract.
use Rattle.mem.proofs.Prelude.{◌∙◌, ap, ◌+◌, ◌*◌, ◌<◌, ◌≤◌, arith, length}
use Rattle.classes.specs.Classes.{slot_bytes}
use Rattle.classes.proofs.Laws.{few_bytes, small_product}
use Rattle.masks.specs.Sets.{lowest}
use Rattle.model.specs.Tables.{row_at, row_record_bytes}
use Rattle.model.specs.Plans.{grant_slot}
use Rattle.rows.proofs.Held.{offered_inside}
use Rattle.changes.proofs.Laws.{ready_number, refilled-site, taken_slot}
use Rattle.changes.proofs.take_slot.Goals as goal
use Rattle.changes.proofs.take_slot.Goals.{After-refill-m, After-units, Start}

-- the group's first row stands in the room
inside : (s : Start) → (s.args.i < 512) × (row_at s.args.i + row_record_bytes ≤ length s.args.room.now)
inside s = offered_inside s.args.row.bytes s.args.room.now s.args.i s.args.c s.requires.offers.0 s.requires.offers.1

-- a slot is ready, and its number is one of a group's
ready : (c : After-refill-m) → (0 < c.refill-m.result.ready) × (lowest c.refill-m.result < 31)
ready c =
    let a = c.args in
    ready_number a.i a.c a.code a.n a.room.now c.masks_at-old.result c.refill-m.result c.masks_at-old.ensures
    c.refill-m.ensures a.row.bytes c.requires.offers.0 c.requires.offers.1

-- the bytes before the group, and those of the slots before this one
before : (s : Start) → s.args.row.bytes * s.args.i ≤ 524288
before s = few_bytes s.args.row.bytes s.args.i s.args.row.lawful.1 (omega (arith, inside s))

within : (c : After-units) → c.lowest-j.result * (16 * c.units.result) < 4063232
within c =
    small_product c.lowest-j.result (16 * c.units.result) (omega (arith, (ready (goal.at.After-units c).After-refill-m).1, c.lowest-j.ensures)) (omega (arith, c.units.ensures.small))

pub overflow_mul-begin : goal.overflow_mul-begin
overflow_mul-begin c = omega (arith, before (goal.at.overflow_mul-begin c).Start)

pub overflow_add-begin : goal.overflow_add-begin
overflow_add-begin c = omega (arith, before (goal.at.overflow_add-begin c).Start)

pub overflow_mul-begin-3 : goal.overflow_mul-begin-3
overflow_mul-begin-3 c = omega (arith, within c)

pub overflow_add-begin-2 : goal.overflow_add-begin-2
overflow_add-begin-2 c = omega (arith, before (goal.at.overflow_add-begin-2 c).Start, within c)

pub slot_at-requires : goal.slot_at-requires
slot_at-requires c =
    record { i_lt_most_rows = inside (goal.at.slot_at-requires c).Start; j_lt_most_slots = omega (arith, (ready (goal.at.slot_at-requires c).After-refill-m).1, c.lowest-j.ensures) }

pub grant_slot-a-requires : goal.grant_slot-a-requires
grant_slot-a-requires c =
    record { c_bound = (c.requires.offers.1.class, c.requires.code_bound.1); code_bound = (c.requires.code_bound.0, omega (arith, before (goal.at.grant_slot-a-requires c).Start, within (goal.at.grant_slot-a-requires c).After-units)) }

pub store-requires : goal.store-requires
store-requires c =
    record { i_lt_most_rows = inside (goal.at.store-requires c).Start; j_lt_most_slots = omega (arith, (ready (goal.at.store-requires c).After-refill-m).1, c.lowest-j.ensures) }

pub returns : goal.returns
unfolding slot_bytes
returns c g o =
    let a = c.args in
    let e = ap (λ v. a.row.bytes * a.i + 16 + c.lowest-j.result * (16 * v)) c.units.ensures.value in
    let d = taken_slot a.i a.c a.code a.n a.room.now c.masks_at-old.result c.refill-m.result c.masks_at-old.ensures
    c.refill-m.ensures a.row.bytes g o c.lowest-j.result c.slot_at.result c.grant_slot-a.result c.take.result
    c.store.new.room c.lowest-j.ensures c.slot_at.ensures
    (c.grant_slot-a.ensures ∙ ap (λ b. grant_slot a.c a.code a.n b c.slot_at.result) e) c.take.ensures
    c.store.ensures in (
      d.0,
      d.1,
      c.to_refill.ensures
          ∙ refilled-site a.i a.c a.code a.n a.room.now c.masks_at-old.result c.refill-m.result c.masks_at-old.ensures
          c.refill-m.ensures a.row.bytes g o,
    )

pub masks_at-old-requires : goal.masks_at-old-requires
masks_at-old-requires c = inside (goal.at.masks_at-old-requires c).Start

pub units-requires : goal.units-requires
units-requires c = c.requires.offers.1.class

pub take-requires : goal.take-requires
take-requires c = (ready (goal.at.take-requires c).After-refill-m).0
