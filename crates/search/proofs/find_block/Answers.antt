-- `find_block` meets its contract.
use Rattle.mem.proofs.Prelude.{◌∙◌, ◌≡◌, sym, ap, ◌/◌, arith, drop}
use Rattle.model.specs.declared.Holder.TheVariants.{First}
use Rattle.model.specs.Tables.{row_at, masks_layout, view_holder}
use Rattle.rows.specs.Rows.{Lent, first_of}
use Rattle.rows.proofs.Rooms.{by_masks, row_inside}
use Rattle.search.proofs.Offsets.{Group, Leads, past, row_of, leads}
use Rattle.search.proofs.find_block.Goals as goal
use Rattle.search.proofs.find_block.Goals.{After-wide, Else-len-offset, In-Some, Start}

room : (s : Start) → Lent masks_layout s.args.row.bytes s.args.len s.args.room.now
room s = by_masks s.requires.room_value s.args.row.lawful

-- what the offset's row leads to
lead : (c : Else-len-offset)
    → (let a = c.args in Leads a.row.bytes a.room.now a.offset (view_holder (drop (row_at (a.offset / a.row.bytes)) a.room.now)))
lead c = leads (room (goal.at.Else-len-offset c).Start) c.args.offset c.if-len-offset.false

to_group : (c : In-Some)
    → (let a = c.args in Group a.row.bytes a.room.now a.offset c.in-Some.first)
to_group c =
    let a = c.args in
    (lead (goal.at.In-Some c).Else-len-offset).first c.in-Some.first
    (ap (first_of (a.offset / a.row.bytes)) (sym c.holder_at.ensures) ∙ sym c.first_of.ensures ∙ c.in-Some.is)

pub returns-then-len-offset : goal.returns-then-len-offset
returns-then-len-offset c = sym (past (room (goal.at.returns-then-len-offset c).Start) c.args.offset c.if-len-offset.true)

pub holder_at-requires : goal.holder_at-requires
holder_at-requires c =
    row_inside (room (goal.at.holder_at-requires c).Start) (c.args.offset / c.args.row.bytes) (row_of (room (goal.at.holder_at-requires c).Start) c.args.offset c.if-len-offset.false)

pub first_of-requires : goal.first_of-requires
first_of-requires c = rw c.holder_at.ensures (lead (goal.at.first_of-requires c).Else-len-offset).reach

pub returns-in_default : goal.returns-in_default
returns-in_default c =
    let a = c.args in
    sym ((lead (goal.at.returns-in_default c).Else-len-offset).nothing
    (ap (first_of (a.offset / a.row.bytes)) (sym c.holder_at.ensures) ∙ sym c.first_of.ensures ∙ c.in_default.is))

-- the row found is a first row, of the group's class
pub returns-in_default-h : goal.returns-in_default-h
returns-in_default-h c =
    let g = to_group (goal.at.returns-in_default-h c).In-Some in
    let h = c.holder_at-h in
    absurd (c.in_default-h.not-First g.cls (h.ensures ∙ g.held))

class : (c : After-wide) → c.wide.result ≡ (to_group (goal.at.After-wide c).In-Some).cls
class c =
    let h = c.holder_at-h in
    let g = to_group (goal.at.After-wide c).In-Some in
    let e : First c.in-First.c ≡ First g.cls = sym c.in-First.is ∙ h.ensures ∙ g.held in
    let k : c.in-First.c ≡ g.cls = cc in
    c.wide.ensures.0 ∙ k

pub overflow_mul-row : goal.overflow_mul-row
overflow_mul-row c = omega (arith, (to_group (goal.at.overflow_mul-row c).In-Some).low)

pub look_group-requires : goal.look_group-requires
look_group-requires c = let g = to_group (goal.at.look_group-requires c).In-Some in record { first_lt_most_rows = g.room; c_bound = rw (class (goal.at.look_group-requires c).After-wide) g.class }

pub returns : goal.returns
returns c = c.look_group.ensures ∙ rw (class (goal.at.returns c).After-wide) (sym (to_group (goal.at.returns c).In-Some).look)

pub holder_at-h-requires : goal.holder_at-h-requires
holder_at-h-requires c = (to_group (goal.at.holder_at-h-requires c).In-Some).room

pub overflow_sub-offset : goal.overflow_sub-offset
overflow_sub-offset c = (to_group (goal.at.overflow_sub-offset c).In-Some).low
