-- `rest_zero` meets its contract. The invariant: the test of the whole is that nothing was seen and that what is left is zero.
use Rattle.mem.proofs.Prelude.{◌∙◌, ◌≡◌, sym, ap, Bool, ◌&&◌, and_assoc, and-true, ◌+◌, ℕ, ◌<◌, ◌*◌, ◌-◌, arith, eqb, get_or}
use lib.Bits.{bit_or}
use Rattle.mem.specs.Bytes.{zeros, same, part}
use Rattle.mem.proofs.Tests.{or-none}
use Rattle.soundness.proofs.Groups.{rest_turn, rest_end}
use Rattle.soundness.proofs.rest_zero.Goals as goal

-- one turn
seen_order : (s x y : ℕ) (r : Bool) → (eqb s 0 && (eqb x 0 && eqb y 0 && r)) ≡ (eqb (bit_or (bit_or s x) y) 0 && r)
seen_order s x y r = rw (or-none (bit_or s x) y, or-none s x) (simp and_assoc)

pub loop-i-preserved : goal.loop-i-preserved
loop-i-preserved c =
    let a = c.args in
    let l = c.loop-i in
    let s = a.s.now in
    let B : (j : ℕ) → get_or s j 0 < 256 = λ j. omega (arith, c.shared_slice_known-1.given j) in
    let x = c.quad.result in
    let y = c.quad-in-loop-i.result in
    let rest = same (part (a.at + 8 * (l.i + 1)) (8 * (31 - (l.i + 1))) s) (zeros (8 * (31 - (l.i + 1)))) in
    l.invariant
    ∙ ap (λ (b : Bool). eqb l.seen 0 && b) (rest_turn s B a.at l.i (omega arith) (omega arith)
    ∙ rw (← c.quad.ensures, ← c.quad-in-loop-i.ensures))
    ∙ seen_order l.seen x y rest

pub returns : goal.returns
returns c =
    let l = c.loop-i in
    let a = c.args in
    sym (l.invariant ∙ rw (rest_end a.s.now (a.at + 8 * l.i) (8 * (31 - l.i)) (omega arith)) (and-true (eqb l.seen 0)))
