-- The invariant: the test of the sizes that are left is the test of all. The sum of i sizes is at most i times the largest cap.
use Rattle.mem.proofs.Prelude.{◌≡◌, ◌*◌, ◌≤◌, drop}
use Rattle.proposals.proofs.Checks.{right_from}
use Rattle.proposals.proofs.sizes_right.Given as goal

abbrev pub invariant-loop-n : goal.invariant-loop-n
invariant-loop-n l = (l.sum ≤ 131051 * l.n-index) × (right_from l.cap l.total l.sum (drop l.n-index l.sizes) ≡ right_from l.cap l.total 0 l.sizes)
