-- `laters_sound` meets its contract. The invariant: the test of all later rows is the test of those that are left.
use Rattle.mem.proofs.Prelude.{◌∙◌, ◌≡◌, sym, ◌&&◌, ◌+◌, ◌-◌, arith, drop}
use Rattle.mem.specs.Lists.{starts}
use Rattle.model.specs.Tables.{row_at, later_records}
use Rattle.rows.proofs.Checks.{laters_turn}
use Rattle.rows.proofs.laters_sound.Goals as goal
use Rattle.rows.proofs.laters_sound.Goals.{After-later_sound}

-- what is left is the next row, and what is left after it
turn : (c : After-later_sound) → let a = c.args in let k = c.loop-k.k in
    starts (drop (row_at (a.i + 1)) a.room.now) (later_records a.m 1)
    ≡ (c.later_sound.result && starts (drop (row_at (a.i + 1 + (k + 1))) a.room.now) (later_records (a.m - (k + 1)) (k + 1 + 1)))
turn c =
    let a = c.args in
    let l = c.loop-k in
    let e : a.i + 1 + l.k + 1 ≡ a.i + 1 + (l.k + 1) = omega arith in
    l.invariant ∙ laters_turn a.room.now (a.i + 1 + l.k) a.m l.k (omega arith) ∙ rw (e, ← c.later_sound.ensures)

pub returns-then-not-later_sound : goal.returns-then-not-later_sound
returns-then-not-later_sound c = sym (turn (goal.at.returns-then-not-later_sound c).After-later_sound ∙ simp c.if-not-later_sound.true)

pub loop-k-preserved : goal.loop-k-preserved
loop-k-preserved c = turn (goal.at.loop-k-preserved c).After-later_sound ∙ simp c.if-not-later_sound.false

pub returns : goal.returns
unfolding later_records
returns c =
    let a = c.args in
    let l = c.loop-k in
    let z : a.m - l.k ≡ 0 = omega arith in
    sym (l.invariant ∙ rw z)
