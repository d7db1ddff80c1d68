-- Laws of alignments: their codes, enlarged sizes, and the lowest multiple at or after a place.
use Rattle.mem.proofs.Prelude.{◌∙◌, ◌≡◌, ap, ℕ, ◌+◌, ◌*◌, ◌-◌, ◌/◌, ◌%◌, ◌^◌, ◌<◌, ◌≤◌, suc, zero, arith, mul_comm, pow-suc, lit≤}
use Rattle.mem.proofs.Prelude.{eqb, ltb, ltb→lt}
use Prim.Native.Nat.{max}
use native.Mathlib.Nat.{mod-lt, div-add-mod, mul-mod_left, one-le-pow, pow-le-pow_right, max-le}
use Rattle.mem.specs.Lists.{first}
use Rattle.mem.proofs.Tests.{choose_case, true-T}
use Rattle.classes.specs.Alignments.{align_of, powers, code_of, enlarged, round_up}

pub enlarged_least : (k n : ℕ) → n ≤ enlarged k n
enlarged_least zero n = omega arith
enlarged_least (suc zero) n = omega arith
enlarged_least (suc (suc k)) n = omega arith

pub enlarged_by : (k n : ℕ) → 1 < k → enlarged k n ≡ n + (align_of k - 16)
enlarged_by zero n h = absurd (omega arith)
enlarged_by (suc zero) n h = absurd (omega arith)
enlarged_by (suc (suc k)) n h = omega arith

-- an alignment in units
pub align_half : (k : ℕ) → 1 ≤ k → align_of k ≡ 16 * 2 ^ (k - 1)
unfolding align_of
align_half zero h = absurd (omega arith)
align_half (suc k) h =
    let e : suc k - 1 ≡ k = omega arith in
    rw e (omega (arith, pow-suc 2 k))

-- every alignment is whole units
pub align-units : (k : ℕ) → 1 ≤ k → align_of k % 16 ≡ 0
align-units k h = omega (arith, align_half k h)

pub align_least : (k : ℕ) → 1 ≤ k → 16 ≤ align_of k
align_least k h = let p : 1 ≤ 2 ^ (k - 1) = one-le-pow (k - 1) 2 (lit≤ tt) in omega (arith, align_half k h)

pub align_most : (k : ℕ) → 1 ≤ k → k ≤ 9 → align_of k ≤ 4096
align_most k h l =
    let j : k - 1 ≤ 8 = omega arith in
    let p : 2 ^ (k - 1) ≤ 2 ^ 8 = pow-le-pow_right (lit≤ tt) j in
    omega (arith, align_half k h)

-- a code that is asked for is one that the tables keep
pub code_most : (a : ℕ) → code_of a ≤ 9
unfolding code_of powers
code_most a = choose_case (λ k. k ≤ 9) (ltb i 13) (max 1 (i - 3)) 0 (λ h. max-le (lit≤ tt) (omega (arith, ltb→lt i 13 (true-T (ltb i 13) h))))
    (λ _. omega arith)
  where
    i : ℕ
    i = first (λ p. eqb p a) powers

module _ (a b : ℕ) (pos : 0 < a) where
  pub round_multiple : round_up a b % a ≡ 0
  unfolding round_up
  round_multiple = ap (λ x. x % a) (mul_comm a ((b + (a - 1)) / a)) ∙ mul-mod_left ((b + (a - 1)) / a) a

  pub round_near : (b ≤ round_up a b) × (round_up a b < b + a)
  unfolding round_up
  round_near = let l : (b + (a - 1)) % a < a = mod-lt (b + (a - 1)) pos in
      (omega (arith, div-add-mod (b + (a - 1)) a), omega (arith, div-add-mod (b + (a - 1)) a))
