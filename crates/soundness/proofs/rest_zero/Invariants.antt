-- `rest_zero` meets its contract. The invariant: the test of the whole is that nothing was seen and that what is left is zero.
use Rattle.mem.proofs.Prelude.{◌≡◌, ◌&&◌, ◌+◌, ◌*◌, ◌-◌, eqb}
use Rattle.mem.specs.Bytes.{zeros, same, part}
use Rattle.soundness.proofs.rest_zero.Given as goal

abbrev pub invariant-loop-i : goal.invariant-loop-i
invariant-loop-i l =
    same (part (l.at + 8 * l.n) (8 * (31 - l.n)) l.s) (zeros (8 * (31 - l.n)))
    ≡ (eqb l.seen 0 && same (part (l.at + 8 * l.i) (8 * (31 - l.i)) l.s) (zeros (8 * (31 - l.i))))
