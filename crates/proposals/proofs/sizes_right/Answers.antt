-- The invariant: the test of the sizes that are left is the test of all. The sum of i sizes is at most i times the largest cap.
use Rattle.mem.proofs.Prelude.{◌∙◌, sym, arith, get_or}
use Rattle.classes.specs.Classes.{size_limit}
use Rattle.model.specs.Proposals.{entries}
use Rattle.proposals.proofs.Checks.{right_all, right-passed, right-refused, right-done, size-zero, size-over, size_in}
use Rattle.proposals.proofs.sizes_right.Goals as goal

pub returns-then-n-lt1 : goal.returns-then-n-lt1
returns-then-n-lt1 c =
    let a = c.args in
    let l = c.loop-n in
    let z = size-zero a.cap (get_or a.sizes.now l.n-index 0) c.if-n-lt1.true in
    sym (right-refused a.cap a.total a.sizes.now l.sum l.n-index c.loop-n-test.true z)
    ∙ l.invariant.1 ∙ right_all a.cap a.total a.sizes.now

pub returns-then-cap-n : goal.returns-then-cap-n
returns-then-cap-n c =
    let a = c.args in
    let l = c.loop-n in
    let o = size-over a.cap (get_or a.sizes.now l.n-index 0) c.if-n-lt1.false (omega (arith, c.if-cap-n.true)) in
    sym (right-refused a.cap a.total a.sizes.now l.sum l.n-index c.loop-n-test.true o)
    ∙ l.invariant.1 ∙ right_all a.cap a.total a.sizes.now

pub overflow_add-sum : goal.overflow_add-sum
unfolding size_limit entries
overflow_add-sum c = omega (arith, c.requires)

pub loop-n-preserved : goal.loop-n-preserved
unfolding size_limit
loop-n-preserved c =
    let a = c.args in
    let l = c.loop-n in
    let r = size_in a.cap (get_or a.sizes.now l.n-index 0) c.if-n-lt1.false (omega (arith, c.if-cap-n.false)) in (
      omega (arith, c.requires),
      sym (right-passed a.cap a.total a.sizes.now l.sum l.n-index c.loop-n-test.true r) ∙ l.invariant.1,
    )

pub returns : goal.returns
returns c =
    let a = c.args in
    let l = c.loop-n in
    sym (right-done a.cap a.total a.sizes.now l.sum l.n-index c.loop-n-test.false) ∙ l.invariant.1
    ∙ right_all a.cap a.total a.sizes.now
