-- `take_slot` meets its contract.
use Rattle.mem.proofs.Prelude.{◌∙◌, ap, ◌+◌, ◌*◌, ◌<◌, ◌≤◌, arith, length}
use Rattle.classes.specs.Classes.{slot_bytes}
use Rattle.classes.proofs.Laws.{few_bytes, small_product}
use Rattle.model.specs.Tables.{row_at, row_record_bytes}
use Rattle.model.specs.Plans.{grant_slot}
use Rattle.rows.proofs.Held.{offered_inside}
use Rattle.plain_changes.proofs.Changes.{ready_number, taken_slot, granted_code}
use Rattle.plain_changes.proofs.take_slot.Goals as goal
use Rattle.plain_changes.proofs.take_slot.Goals.{After-ready_slot-j, After-units, Start}

-- the group's first row stands in the room
inside : (s : Start) → (s.args.i < 512) × (row_at s.args.i + row_record_bytes ≤ length s.args.room.now)
inside s = offered_inside s.args.row.bytes s.args.room.now s.args.i s.args.c s.requires.offers.0 s.requires.offers.1

-- the slot's number is one of a group's
number : (c : After-ready_slot-j) → c.ready_slot-j.result < 31
number c =
    let o = c.requires.offers.1 in
    ready_number o c.ready_slot-j.result (c.ready_slot-j.ensures c.args.row.bytes c.requires.offers.0 o).0

-- the bytes before the group, and those of the slots before this one
before : (s : Start) → s.args.row.bytes * s.args.i ≤ 524288
before s = few_bytes s.args.row.bytes s.args.i s.args.row.lawful.1 (omega (arith, inside s))

within : (c : After-units) → c.ready_slot-j.result * (16 * c.units.result) < 4063232
within c =
    small_product c.ready_slot-j.result (16 * c.units.result) (number (goal.at.After-units c).After-ready_slot-j) (omega (arith, c.units.ensures.small))

pub slot_at-requires : goal.slot_at-requires
slot_at-requires c =
    let h = inside (goal.at.slot_at-requires c).Start in
    record { i_lt_most_rows = (h.0, omega (arith, h.1)); j_lt_most_slots = number (goal.at.slot_at-requires c).After-ready_slot-j }

pub grant_slot-a-requires : goal.grant_slot-a-requires
grant_slot-a-requires c =
    record { c_bound = (c.requires.offers.1.class, c.requires.code_bound.1); code_bound = (c.requires.code_bound.0, omega (arith, before (goal.at.grant_slot-a-requires c).Start, within (goal.at.grant_slot-a-requires c).After-units)) }

pub store-requires : goal.store-requires
store-requires c =
    let h = inside (goal.at.store-requires c).Start in
    let e = granted_code c.args.c c.args.code c.args.n _ c.slot_at.result c.grant_slot-a.result c.grant_slot-a.ensures in
    record { i_lt_most_rows = (h.0, omega (arith, h.1)); j_lt_most_slots = (number (goal.at.store-requires c).After-ready_slot-j, omega (arith, e, c.requires.code_bound.0)) }

pub returns : goal.returns
unfolding slot_bytes
returns c g o =
    let z = c.args in
    let q = c.ready_slot-j.ensures z.row.bytes g o in
    let e = ap (λ v. z.row.bytes * z.i + 16 + c.ready_slot-j.result * (16 * v)) c.units.ensures.value in
    taken_slot o z.code z.n c.ready_slot-j.result c.slot_at.result c.grant_slot-a.result c.ready_slot-j.new.room c.store.new.room q.0
    q.1
    c.slot_at.ensures.value (c.grant_slot-a.ensures ∙ ap (λ b. grant_slot z.c z.code z.n b c.slot_at.result) e) c.store.ensures

pub ready_slot-j-requires : goal.ready_slot-j-requires
ready_slot-j-requires c = (c.args.row.bytes, c.requires.offers.0, c.requires.offers.1)

pub overflow_mul-begin : goal.overflow_mul-begin
overflow_mul-begin c = omega (arith, before (goal.at.overflow_mul-begin c).Start)

pub overflow_add-begin : goal.overflow_add-begin
overflow_add-begin c = omega (arith, before (goal.at.overflow_add-begin c).Start)

pub units-requires : goal.units-requires
units-requires c = c.requires.offers.1.class

pub overflow_mul-begin-3 : goal.overflow_mul-begin-3
overflow_mul-begin-3 c = omega (arith, within c)

pub overflow_add-begin-2 : goal.overflow_add-begin-2
overflow_add-begin-2 c = omega (arith, before (goal.at.overflow_add-begin-2 c).Start, within c)
