-- `zeros_at` meets its contract. The invariant: the test of the whole is that nothing was seen and that what is left is zero.
use Rattle.mem.proofs.Prelude.{◌≡◌, ◌&&◌, ◌-◌, eqb, drop}
use Rattle.mem.specs.Bytes.{zeros, part, same}
use Rattle.mem.proofs.zeros_at.Given as goal

abbrev pub invariant-loop-x : goal.invariant-loop-x
invariant-loop-x l = same (part l.at l.n l.s) (zeros l.n) ≡ (eqb l.seen 0 && same (drop l.x-index (part l.at l.n l.s)) (zeros (l.n - l.x-index)))
