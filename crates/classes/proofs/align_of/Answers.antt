-- `align_of` meets its contract: the shift loses nothing.
use Rattle.mem.proofs.Prelude.{◌^◌, ◌≤◌, arith}
use native.Mathlib.Nat.{pow-le-pow_right, one-le-pow}
use lib.Dec.{lit<, lit≤}
use lib.Pow.{shl_exact}
use Rattle.classes.specs.Alignments.{align_of}
use Rattle.classes.proofs.align_of.Goals as goal

pub returns : goal.returns
unfolding align_of
returns c =
    let k = c.args.code in
    let h : k ≤ 9 = omega arith in
    let p : 2 ^ k ≤ 2 ^ 9 = pow-le-pow_right (lit≤ tt) h in
    let q = one-le-pow k 2 (lit≤ tt) in
    let e = shl_exact 8 k 64 (lit< tt) (omega arith) in
    record { value = e; small = (omega (arith, e), omega (arith, e)) }
