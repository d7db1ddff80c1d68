-- The class by the count of leading zeros: one computed test over the table, and the few classes that a need can have.
use Rattle.mem.proofs.Prelude.{◌∙◌, ◌≡◌, ap, subst, true, Bool, ◌&&◌, List, [], ◌∷◌, ◌+◌, ℕ, ◌<◌, ◌≤◌, ◌*◌, ◌-◌, suc, ◌/◌, ◌%◌, ◌^◌, zero, ⊎_elim}
use Rattle.mem.proofs.Prelude.{arith, T, eqb, ltb, eq-eqb, lt-ltb, le-ltb, eqb→eq, length, get_or}
use native.Mathlib.Nat.{not-suc-le-zero, le_of_suc-le-suc, eq-or-lt_of_le}
use lib.Count.{count_leading_zeros, leading_top}
use lib.Pow.{pow_mono}
use Rattle.mem.specs.Lists.{choose}
use Rattle.mem.proofs.Tests.{and_left, and_right, choose-true, choose-false}
use Rattle.classes.specs.Classes.{units, units_of, slot_bytes, class_of, needed, size_limit}
use Rattle.classes.proofs.Laws.{class_least, class_facts, class-past}

-- a test of each number of a list with its place
each : (ℕ → ℕ → Bool) → List ℕ → Bool
each f [] = true
each f (x ∷ l) = f 0 x && each (λ i. f (suc i)) l

each_at : (f : ℕ → ℕ → Bool) (l : List ℕ) → T (each f l) → (k : ℕ) → k < length l → T (f k (get_or l k 0))
unfolding each
each_at f [] t k h = absurd (not-suc-le-zero h)
each_at f (x ∷ l) t zero h = and_left (f 0 x) (each (λ i. f (suc i)) l) t
each_at f (x ∷ l) t (suc k) h = each_at (λ i. f (suc i)) l (and_right (f 0 x) (each (λ i. f (suc i)) l) t) k (le_of_suc-le-suc h)

-- the first ten sizes are 1 to 10; past them each fourth is the largest number of its length, one bit longer than the fourth before
abbrev entry : ℕ → ℕ → Bool
entry c u = choose (ltb c 10) (eqb u (suc c)) (choose (eqb (c % 4) 3) (eqb (suc u) (2 ^ (c / 4 + 2))) true)

-- the test, over all 48 classes
entries : T (each entry units)
unfolding each units choose
entries = tt

entry_at : (c : ℕ) → c < 48 → T (entry c (units_of c))
unfolding units_of
entry_at c h = each_at entry units entries c h

first_ten : (c : ℕ) → c < 10 → units_of c ≡ suc c
first_ten c h = eqb→eq (units_of c) (suc c) (subst T (choose-true (ltb c 10) _ _ (lt-ltb c 10 h)) (entry_at c (omega arith)))

-- the last class of the needs of e bits
fourth : (c e : ℕ) → 11 ≤ c → c < 48 → c + 5 ≡ 4 * e → suc (units_of c) ≡ 2 ^ e
fourth c e l h f =
    let p : c / 4 + 2 ≡ e = omega arith in
    let t = subst T (choose-false (ltb c 10) _ _ (le-ltb c 10 (omega arith))) (entry_at c h) in
    let u = subst T (choose-true (eqb (c % 4) 3) _ _ (eq-eqb (c % 4) 3 (omega arith))) t in
    eqb→eq (suc (units_of c)) (2 ^ (c / 4 + 2)) u ∙ ap (λ k. 2 ^ k) p

-- the first of the four classes that a need above ten units can have
abbrev pub four_from : ℕ → ℕ
four_from n = 4 * (62 - count_leading_zeros 64 (needed n))

-- the class of n is one of k classes from i on
abbrev pub Among : ℕ → ℕ → ℕ → Type 0
Among k n i = (i ≤ class_of n) × (class_of n < i + k) × (i + k ≤ 48)

module _ (n : ℕ) (h : n < size_limit) where
  -- one comparison with an entry of the table
  pub past : (c : ℕ) → c < 48 → units_of c < needed n → c < class_of n
  unfolding slot_bytes
  past c l f = class-past n (class_facts n h) c l (omega arith)

  pub not-past : (c : ℕ) → needed n ≤ units_of c → class_of n ≤ c
  unfolding slot_bytes
  not-past c f = class_least n c (omega arith)

  -- a need of at most ten units
  pub up_to_ten : needed n ≤ 10 → needed n - 1 ≡ class_of n
  up_to_ten l =
      let q = needed n in
      let high : class_of n ≤ q - 1 = not-past (q - 1) (omega (arith, first_ten (q - 1) (omega arith))) in
      let low : class_of n < q - 1 → ⊥ = λ g. omega (arith, past (q - 2) (omega arith) (omega (arith, first_ten (q - 2) (omega arith)))) in
      omega arith

  -- a larger one, whose highest bit is at j
  module _ (j : ℕ) (a : 10 < needed n) (l : 2 ^ j ≤ needed n) (u : needed n < 2 ^ suc j) where
    few_bits : (3 ≤ j) × (j ≤ 12)
    unfolding size_limit
    few_bits =
        let low : j ≤ 2 → ⊥ = λ k. omega (arith, pow_mono {i = suc j} {j = 3} (omega arith)) in
        let high : 13 ≤ j → ⊥ = λ k. omega (arith, pow_mono {i = 13} {j = j} k) in
        (omega arith, omega arith)

    -- the class before the four
    before : units_of (4 * j - 5) < needed n
    before =
        let (b, t) = few_bits in
        ⊎_elim (λ e. omega (arith, first_ten (4 * j - 5) (omega arith)))
        (λ k. omega (arith, fourth (4 * j - 5) j (omega arith) (omega arith) (omega arith))) (eq-or-lt_of_le b)

    four : (3 ≤ j) × Among 4 n (4 * j - 4)
    four =
        let (b, t) = few_bits in
        let low : 4 * j - 5 < class_of n = past (4 * j - 5) (omega arith) before in
        let last : suc (units_of (4 * j - 1)) ≡ 2 ^ suc j = fourth (4 * j - 1) (suc j) (omega arith) (omega arith) (omega arith) in
        let high : class_of n ≤ 4 * j - 1 = not-past (4 * j - 1) (omega arith) in
        (b, (omega arith, omega arith, omega arith))

  -- the four classes of a need above ten units, by the count of its leading zeros
  pub by_zeros : 10 < needed n → (count_leading_zeros 64 (needed n) ≤ 60) × Among 4 n (four_from n)
  unfolding size_limit
  by_zeros a =
      let (j, e, l, u) = leading_top 64 (needed n) (omega arith) (omega arith) in
      let (b, f) = four j a l u in
      let i : four_from n ≡ 4 * j - 4 = omega arith in
      (omega arith, rw i f)

  -- one comparison halves them
  pub halve : (i : ℕ) → Among 4 n i → units_of (i + 1) < needed n → Among 2 n (i + 2)
  halve i f g = (omega (arith, past (i + 1) (omega arith) g), omega arith, omega arith)

  pub halve_not : (i : ℕ) → Among 4 n i → needed n ≤ units_of (i + 1) → Among 2 n i
  halve_not i f g = (omega arith, omega (arith, not-past (i + 1) g), omega arith)
