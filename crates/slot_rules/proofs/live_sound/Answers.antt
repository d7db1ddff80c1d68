-- `live_sound` meets its contract: each return is the definition under the tests so far.
use Rattle.mem.proofs.Prelude.{sym, and-false, and-true, ◌+◌, ◌*◌, ◌/◌, ◌%◌, arith, le-leb, lt-leb, le-ltb, lt-ltb, leb}
use Rattle.classes.specs.Classes.{size_limit}
use Rattle.classes.specs.Alignments.{enlarged}
use Rattle.classes.proofs.Alignments.{enlarged_least}
use Rattle.slot_rules.specs.Rules.{live_checked}
use Rattle.slot_rules.proofs.live_sound.Goals as goal

pub returns-then-code-eq0 : goal.returns-then-code-eq0
unfolding live_checked
returns-then-code-eq0 c = rw c.if-code-eq0.true

pub returns-then-code-gt9 : goal.returns-then-code-gt9
unfolding live_checked
returns-then-code-gt9 c = let a = c.args in rw (lt-leb (a.r.lo % 256) 9 c.if-code-gt9.true) (sym (simp and-false))

pub returns-then-size-ge-TOO_LARGE : goal.returns-then-size-ge-TOO_LARGE
unfolding live_checked size_limit
returns-then-size-ge-TOO_LARGE c =
    let a = c.args in
    let e = enlarged (a.r.lo % 256) a.r.hi in
    rw (le-ltb e 131052 (omega (arith, enlarged_least (a.r.lo % 256) a.r.hi, c.if-size-ge-TOO_LARGE.true))) (sym (simp and-false))

pub enlarged-enlarged-requires : goal.enlarged-enlarged-requires
unfolding size_limit
enlarged-enlarged-requires c = (omega arith, omega arith)

pub returns-then-enlarged-ge-TOO_LARGE : goal.returns-then-enlarged-ge-TOO_LARGE
unfolding live_checked size_limit
returns-then-enlarged-ge-TOO_LARGE c =
    let n = c.enlarged-enlarged in
    rw (← n.ensures.value, le-ltb n.result 131052 c.if-enlarged-ge-TOO_LARGE.true) (sym (simp and-false))

pub returns : goal.returns
unfolding live_checked size_limit
returns c =
    let n = c.enlarged-enlarged in
    let a = c.args in
    rw (
      ← n.ensures.value,
      ← c.align_of.ensures.value,
      le-leb 1 (a.r.lo % 256) (omega arith),
      le-leb (a.r.lo % 256) 9 (omega arith),
      lt-ltb n.result 131052 (omega arith),
      and-true (leb (16 * (a.r.lo / 65536) + a.r.hi) a.most),
    )
