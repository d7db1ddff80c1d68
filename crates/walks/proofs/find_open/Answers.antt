-- `find_open` meets its contract. The invariant: the search of the whole is that of what is left.
use Rattle.mem.proofs.Prelude.{sym, ◌+◌, ◌<◌, ◌≤◌, arith, rules, length}
use Rattle.model.specs.Tables.{row_at, row_record_bytes}
use Rattle.rows.specs.Rows.{Lent}
use Rattle.rows.proofs.Rooms.{lent_by, row_inside, row_below, row_past}
use Rattle.rows.proofs.Walks.{OpenStep, open_step, open_end}
use Rattle.walks.proofs.find_open.Given.{Over}
use Rattle.walks.proofs.find_open.Goals as goal
use Rattle.walks.proofs.find_open.Goals.{After-opens_at, In-loop-i, Start}

pub loop-i-init : goal.loop-i-init
loop-i-init g c = c.requires.c_bound.1

room : (g : Over) (s : Start g) → Lent g.K.Keeping.layout s.args.row.bytes s.args.len s.args.room.now
room g s = lent_by g.met.K.Keeping.laws s.requires.room_value s.args.row.lawful

-- the row is one of the arena's
inside : (g : Over) (c : In-loop-i g) → (c.loop-i.i < 512) × (row_at c.loop-i.i + row_record_bytes ≤ length c.args.room.now)
inside g c =
    let r = room g (goal.at.In-loop-i g c).Start in
    row_inside r c.loop-i.i (row_below r c.loop-i.i c.loop-i-test.true)

step : (g : Over) (c : After-opens_at g)
    → (let a = c.args in OpenStep g.K.Keeping.layout a.row.bytes a.room.now a.c c.opens_at.result c.loop-i.i)
step g c =
    let r = room g (goal.at.After-opens_at g c).Start in
    let l = c.loop-i in
    open_step r c.args.c l.i l.invariant c.opens_at.result
    (λ X s Y p f. c.opens_at.ensures c.args.row.bytes c.args.len X s Y (record { lent = r; split = p; first = f }))
    (row_below r l.i c.loop-i-test.true)

pub opens_at-requires : goal.opens_at-requires
opens_at-requires g c = record { i_lt_most_rows = inside g c; c_bound = search rules }

pub returns-then-opens_at : goal.returns-then-opens_at
returns-then-opens_at g c = sym ((step g (goal.at.returns-then-opens_at g c).After-opens_at).hit c.if-opens_at.true)

pub holder_at-requires : goal.holder_at-requires
holder_at-requires g c = inside g (goal.at.holder_at-requires g c).In-loop-i

pub rows_held-i-requires : goal.rows_held-i-requires
rows_held-i-requires g c = record { h_bound = rw c.holder_at.ensures (step g (goal.at.rows_held-i-requires g c).After-opens_at).class }

pub overflow_add-i : goal.overflow_add-i
overflow_add-i g c = omega (arith, (inside g (goal.at.overflow_add-i g c).In-loop-i).0)

pub loop-i-preserved : goal.loop-i-preserved
loop-i-preserved g c =
    rw (c.rows_held-i.ensures.value, c.holder_at.ensures) ((step g (goal.at.loop-i-preserved g c).After-opens_at).miss c.if-opens_at.false)

pub returns : goal.returns
returns g c =
    let r = room g (goal.at.returns g c).Start in
    let l = c.loop-i in
    sym (open_end r c.args.c l.i l.invariant (row_past r l.i c.loop-i-test.false))
