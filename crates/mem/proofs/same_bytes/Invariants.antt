-- `same_bytes` meets its contract. The invariant: the test of the whole is the test of what is left.
use Rattle.mem.proofs.Prelude.{◌≡◌, drop}
use Rattle.mem.specs.Bytes.{same}
use Rattle.mem.proofs.same_bytes.Given as goal

abbrev pub invariant-loop-i : goal.invariant-loop-i
invariant-loop-i l = same l.a l.b ≡ same (drop l.i l.a) (drop l.i l.b)
