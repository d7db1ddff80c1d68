-- `copy_in` meets its contract. The invariant: writing what is left of `v` makes the whole written.
use Rattle.mem.proofs.Prelude.{◌≡◌, ◌+◌, drop}
use Rattle.mem.specs.Bytes.{put}
use Rattle.mem.proofs.copy_in.Given as goal

abbrev pub invariant-loop-i : goal.invariant-loop-i
invariant-loop-i l = put (l.at + l.i) (drop l.i l.v) l.s ≡ put l.at l.v l.initial.s
