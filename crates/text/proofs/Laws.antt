-- Decimal digits: how many there are, and that they are those of the library that makes them.
use Rattle.mem.proofs.Prelude.{◌∙◌, ◌≡◌, sym, ap, ap₂, subst, List, [], ◌∷◌, ◌++◌, ℕ, zero, suc, ◌+◌, ◌*◌, ◌-◌, ◌/◌, ◌%◌, ◌^◌, ◌<◌, ◌≤◌, pow-suc, arith}
use Rattle.mem.proofs.Prelude.{lt-ltb, le-ltb, ltb, length, length-append}
use native.Mathlib.Nat.{pow-le-pow_right}
use Rattle.mem.proofs.Tests.{choose-true, choose-false, choose_case}
use Rattle.io.specs.Digits.{hex_digit_ascii, last_digits, IsDigitCount}
use Rattle.text.specs.Decimal.{decimal_in, decimal}

-- a digit's code
digit : (d : ℕ) → d < 10 → hex_digit_ascii d ≡ 48 + d
digit d h = rw (lt-ltb d 10 h)

-- a number has no more digits than it counts, but for 0
count-below : (k : ℕ) → k < 10 ^ k
count-below zero = omega arith
count-below (suc k) = omega (arith, pow-suc 10 k, count-below k)

-- the fewest digits that hold a number are its decimal
digits_within : (k f n : ℕ) → k ≤ f → IsDigitCount 10 1 n k → last_digits 10 k n ≡ decimal_in f n
unfolding decimal_in
digits_within zero f n h w = absurd (omega (arith, w.0))
digits_within (suc k) zero n h w = absurd (omega arith)
digits_within (suc zero) (suc f) n h w =
    let l : n < 10 = omega (arith, w.1) in
    let e : n % 10 ≡ n = omega arith in
    ap (λ (d : ℕ). hex_digit_ascii d ∷ []) e ∙ ap (λ (d : ℕ). d ∷ []) (digit n l) ∙ sym (choose-true _ _ _ (lt-ltb n 10 l))
digits_within (suc (suc k)) (suc f) n h w =
    let a : suc (suc k) - 1 ≡ suc k = omega arith in
    let b : suc k - 1 ≡ k = omega arith in
    let c : 10 ^ suc k ≤ n = subst (λ (j : ℕ). 10 ^ j ≤ n) a (w.2 (omega arith)) in
    let d : n < 10 * 10 ^ suc k = omega (arith, w.1, pow-suc 10 (suc k)) in
    let e : 10 * 10 ^ k ≤ n = omega (arith, pow-suc 10 k) in
    let l : 10 ≤ n = omega (arith, count-below k) in
    let q : IsDigitCount 10 1 (n / 10) (suc k) = (omega arith, omega arith, λ _. subst (λ (j : ℕ). 10 ^ j ≤ n / 10) (sym b) (omega arith)) in
    ap₂ (λ (x : List ℕ) (y : ℕ). x ++ (y ∷ [])) (digits_within (suc k) f (n / 10) (omega arith) q) (digit (n % 10) (omega arith))
    ∙ sym (choose-false _ _ _ (le-ltb n 10 l))

pub digits_are : (k n : ℕ) → IsDigitCount 10 1 n k → last_digits 10 k n ≡ decimal n
unfolding decimal
digits_are k n w =
    let no : suc n < k → ⊥ = λ l. omega (arith, w.2 (omega arith), count-below (k - 1)) in
    digits_within k (suc n) n (omega arith) w

-- a number of 64 bits has at most 20 digits
pub most : (n k : ℕ) → n < 2 ^ 64 → IsDigitCount 10 1 n k → k ≤ 20
most n k h f =
    let no : 21 ≤ k → ⊥ = λ l. omega (arith, f.2 (omega arith), pow-le-pow_right {n = 10} (omega arith) {i = 20} {j = k - 1} (omega arith)) in
    omega arith

-- a number below a power of ten has as many digits at most
short_in : (f k n : ℕ) → n < 10 ^ suc k → length (decimal_in f n) ≤ suc k
unfolding decimal_in
short_in zero k n h = omega arith
short_in (suc f) zero n h = let l : n < 10 = omega arith in subst (λ (d : List ℕ). length d ≤ 1) (sym (choose-true _ _ _ (lt-ltb n 10 l))) (omega arith)
short_in (suc f) (suc k) n h =
    choose_case (λ (l : List ℕ). length l ≤ suc (suc k)) (ltb n 10) _ _ (λ _. omega arith)
    (λ _. omega (arith, length-append (decimal_in f (n / 10)) ((48 + n % 10) ∷ []), short_in f k (n / 10) (omega (arith, pow-suc 10 (suc k)))))

pub decimal-short : (k n : ℕ) → n < 10 ^ suc k → length (decimal n) ≤ suc k
unfolding decimal
decimal-short k n h = short_in (suc n) k n h
