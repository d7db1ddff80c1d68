-- `find_block` meets its contract. The invariant: what is looked up in the whole is looked up in what is left.
use Rattle.mem.proofs.Prelude.{◌∙◌, sym, ap, ◌+◌, ◌<◌, ◌≤◌, arith, length, not-true}
use Rattle.model.specs.Tables.{row_at, row_record_bytes}
use Rattle.model.specs.Plain.{slots_layout}
use Rattle.rows.specs.Rows.{Lent}
use Rattle.rows.proofs.Rooms.{row_inside, row_below, row_past}
use Rattle.rows.proofs.Walks.{none_passed}
use Rattle.plain_tables.specs.Found.{is_absent}
use Rattle.plain_tables.proofs.Rooms.{by_slots}
use Rattle.plain_tables.proofs.Blocks.{Left, BlockStep, block_step, block_end}
use Rattle.mem.proofs.Prelude.{not}
use Rattle.plain_tables.proofs.find_block.Goals as goal
use Rattle.plain_tables.proofs.find_block.Goals.{In-loop-i, Start}

pub loop-i-init : goal.loop-i-init
loop-i-init c = let a = c.args in none_passed slots_layout a.row.bytes a.room.now (Left a.row.bytes a.offset)

room : (s : Start) → Lent slots_layout s.args.row.bytes s.args.len s.args.room.now
room s = by_slots s.requires.room_value s.args.row.lawful

-- the row is one of the arena's
inside : (c : In-loop-i)
    → (c.loop-i.i < 512) × (row_at c.loop-i.i + row_record_bytes ≤ length c.args.room.now)
inside c =
    let r = room (goal.at.In-loop-i c).Start in
    row_inside r c.loop-i.i (row_below r c.loop-i.i c.loop-i-test.true)

step : (c : In-loop-i) → (let a = c.args in BlockStep a.row.bytes a.room.now a.offset c.loop-i.i)
step c =
    let r = room (goal.at.In-loop-i c).Start in
    let l = c.loop-i in
    block_step r c.args.offset l.i l.invariant (row_below r l.i c.loop-i-test.true)

pub returns-then-not-absent : goal.returns-then-not-absent
returns-then-not-absent c =
    c.look_row-found.ensures ∙ sym ((step (goal.at.returns-then-not-absent c).In-loop-i).hit (ap is_absent (sym c.look_row-found.ensures) ∙ sym c.absent.ensures ∙ not-true _
    (ap not c.if-not-absent.true)))

pub rows_held-i-requires : goal.rows_held-i-requires
rows_held-i-requires c = record { h_bound = rw c.holder_at.ensures (step (goal.at.rows_held-i-requires c).In-loop-i).class }

pub overflow_add-i : goal.overflow_add-i
overflow_add-i c = omega (arith, (inside (goal.at.overflow_add-i c).In-loop-i).0)

pub loop-i-preserved : goal.loop-i-preserved
loop-i-preserved c =
    rw (c.rows_held-i.ensures.value, c.holder_at.ensures)
    ((step (goal.at.loop-i-preserved c).In-loop-i).miss (ap is_absent (sym c.look_row-found.ensures) ∙ sym c.absent.ensures ∙ c.if-not-absent.false))

pub returns : goal.returns
returns c =
    let r = room (goal.at.returns c).Start in
    let l = c.loop-i in
    sym (block_end r c.args.offset l.i l.invariant (row_past r l.i c.loop-i-test.false))

pub look_row-found-requires : goal.look_row-found-requires
look_row-found-requires c = record { i_lt_most_rows = inside c; room_bound = (step c).class }

pub holder_at-requires : goal.holder_at-requires
holder_at-requires c = inside (goal.at.holder_at-requires c).In-loop-i
