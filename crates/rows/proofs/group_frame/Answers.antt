-- `group_frame` meets its contract: each return is the definition under the tests so far.
use Rattle.mem.proofs.Prelude.{◌≡◌, sym, ◌+◌, ◌-◌, arith, le-leb, lt-leb, le-ltb, lt-ltb, drop, drop-drop}
use Rattle.mem.specs.Lists.{choose, starts}
use Rattle.model.specs.Tables.{row_at, later_records}
use Rattle.rows.proofs.group_frame.Goals as goal
use Rattle.rows.proofs.group_frame.Goals.{After-laters_sound}

pub returns-then-c-ge-CLASSES : goal.returns-then-c-ge-CLASSES
unfolding choose
returns-then-c-ge-CLASSES c = rw (le-ltb c.args.c 48 c.if-c-ge-CLASSES.true)

pub returns-then-n-k : goal.returns-then-n-k
unfolding choose
returns-then-n-k c =
    let r = c.rows-k in
    let a = c.args in
    rw (lt-ltb a.c 48 c.if-c-ge-CLASSES.false, ← r.ensures.value, lt-leb r.result a.n c.if-n-k.true)

-- the later rows
laters : (e : After-laters_sound) → (let a = e.args in
    starts (drop 264 (drop (row_at a.i) a.room.now)) (later_records (e.rows-k.result - 1) 1) ≡ e.laters_sound.result)
laters e =
    let a = e.args in
    let f : row_at a.i + 264 ≡ row_at (a.i + 1) = omega arith in
    rw (drop-drop 264 (row_at a.i) a.room.now, f) (sym e.laters_sound.ensures)

pub returns-then-not-laters_sound : goal.returns-then-not-laters_sound
unfolding choose
returns-then-not-laters_sound c =
    let r = c.rows-k in
    let a = c.args in
    rw (
      lt-ltb a.c 48 c.if-c-ge-CLASSES.false,
      ← r.ensures.value,
      le-leb r.result a.n c.if-n-k.false,
      laters (goal.at.returns-then-not-laters_sound c).After-laters_sound,
      c.if-not-laters_sound.true,
    )

pub returns : goal.returns
unfolding choose
returns c =
    let r = c.rows-k in
    let a = c.args in
    rw (
      lt-ltb a.c 48 c.if-c-ge-CLASSES.false,
      ← r.ensures.value,
      le-leb r.result a.n c.if-n-k.false,
      laters (goal.at.returns c).After-laters_sound,
      c.if-not-laters_sound.false,
    )
