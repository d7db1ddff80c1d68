-- `find_run` meets its contract. The invariant: the search of the whole is that of what is left.
use Rattle.mem.proofs.Prelude.{◌∙◌, sym, ◌+◌, ◌<◌, ◌≤◌, arith, length, drop}
use Rattle.model.specs.Tables.{Layout, row_at, view_holder, row_record_bytes}
use Rattle.rows.specs.Rows.{Lent, next_run}
use Rattle.rows.proofs.Rooms.{row_inside, row_below, row_past}
use Rattle.rows.proofs.RunSteps.{run-start, RunStep, run_step, run_end}
use Rattle.rows.proofs.find_run.Goals as goal
use Rattle.rows.proofs.find_run.Goals.{After-next_run-run, In-loop-i}

pub loop-i-init : goal.loop-i-init
loop-i-init c L r = let a = c.args in run-start L a.row.bytes a.room.now a.c r.pos

-- the row is one of the arena's
inside : (c : In-loop-i)
    → (c.loop-i.i < 512) × (row_at c.loop-i.i + row_record_bytes ≤ length c.args.room.now)
inside c =
    let r = c.requires.lent.1 in
    row_inside r c.loop-i.i (row_below r c.loop-i.i c.loop-i-test.true)

step : (c : In-loop-i)
    → (let a = c.args in
    let t = a.room.now in
    let l = c.loop-i in
    (L : Layout) → Lent L a.row.bytes a.len t
    → RunStep L a.row.bytes t a.c l.i (next_run a.row.bytes (record { from = l.from; next = l.i }) (view_holder (drop (row_at l.i) t))))
step c L r =
    let l = c.loop-i in
    run_step r c.args.c l.from l.i (l.invariant L r) (row_below r l.i c.loop-i-test.true)

next : (c : After-next_run-run)
    → (let a = c.args in
    (L : Layout) → Lent L a.row.bytes a.len a.room.now → RunStep L a.row.bytes a.room.now a.c c.loop-i.i c.next_run-run.result)
next c L r = rw (c.next_run-run.ensures, c.holder_at.ensures) (step (goal.at.After-next_run-run c).In-loop-i L r)

-- the same in the layout that the room is known to have
known : (c : After-next_run-run) → (RunStep c.requires.lent.0 c.args.row.bytes c.args.room.now c.args.c c.loop-i.i c.next_run-run.result)
known c = let p = c.requires.lent in next c p.0 p.1

pub next_run-run-requires : goal.next_run-run-requires
next_run-run-requires c =
    let p = c.requires.lent in
    record { h_bound = (rw c.holder_at.ensures (step (goal.at.next_run-run-requires c).In-loop-i p.0 p.1).class, (inside (goal.at.next_run-run-requires c).In-loop-i).0) }

pub returns-then-i-from : goal.returns-then-i-from
returns-then-i-from c L r = sym ((next (goal.at.returns-then-i-from c).After-next_run-run L r).hit (c.if-i-from.true ∙ c.rows-need.ensures.value))

pub loop-i-smaller : goal.loop-i-smaller
loop-i-smaller c = omega (arith, (known (goal.at.loop-i-smaller c).After-next_run-run).further)

pub loop-i-preserved : goal.loop-i-preserved
loop-i-preserved c L r = (next (goal.at.loop-i-preserved c).After-next_run-run L r).miss (λ e. c.if-i-from.false (e ∙ sym c.rows-need.ensures.value))

pub returns : goal.returns
returns c L r =
    let l = c.loop-i in
    sym (run_end r c.args.c l.from l.i (l.invariant L r) (row_past r l.i c.loop-i-test.false))

pub holder_at-requires : goal.holder_at-requires
holder_at-requires c = inside c

pub overflow_sub-i : goal.overflow_sub-i
overflow_sub-i c = (known c).order
