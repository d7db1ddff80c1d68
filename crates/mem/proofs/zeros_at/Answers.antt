-- `zeros_at` meets its contract. The invariant: the test of the whole is that nothing was seen and that what is left is zero.
use Rattle.mem.proofs.Prelude.{◌∙◌, ◌≡◌, sym, ◌&&◌, and_assoc, and-true, List, ◌+◌, ℕ, ◌<◌, ◌≤◌, ◌-◌, add-one, arith, eqb, length, drop, get_or, drop-cons}
use lib.Bits.{bit_or}
use lib.ListN.{drop_of_length-le}
use Rattle.mem.specs.Bytes.{zeros, part, same}
use Rattle.mem.proofs.Laws.{part_length, zeros-none, zeros-left}
use Rattle.mem.proofs.Tests.{or-none}
use Rattle.mem.proofs.zeros_at.Goals as goal

-- one turn
turn : (xs : List ℕ) (n i seen : ℕ) → length xs ≡ n → i < n
    → (eqb seen 0 && same (drop i xs) (zeros (n - i)))
    ≡ (eqb (bit_or seen (get_or xs i 0)) 0 && same (drop (i + 1) xs) (zeros (n - (i + 1))))
turn xs n i seen e h =
    let l : i < length xs = omega arith in
    rw (zeros-left n i h, add-one, drop-cons xs i 0, or-none) (simp and_assoc)

pub loop-x-preserved : goal.loop-x-preserved
loop-x-preserved c =
    let l = c.loop-x in
    let a = c.args in
    let e : a.at + a.n - a.at ≡ a.n = omega arith in
    let k : length (part a.at a.n a.s.now) ≡ a.n = part_length a.at a.n a.s.now (omega arith) in
    rw e (l.invariant ∙ turn (part a.at a.n a.s.now) a.n l.x-index l.seen k (omega arith))

pub returns : goal.returns
returns c =
    let l = c.loop-x in
    let a = c.args in
    let k : length (part a.at a.n a.s.now) ≡ a.n = part_length a.at a.n a.s.now (omega arith) in
    let e : a.n - l.x-index ≡ 0 = omega arith in
    let d : length (part a.at a.n a.s.now) ≤ l.x-index = omega arith in
    sym (l.invariant ∙ rw (e, zeros-none, drop_of_length-le (part a.at a.n a.s.now) d) (and-true (eqb l.seen 0)))
