-- The check of a proposal, by the tests of the code.
use Rattle.mem.proofs.Prelude.{◌≡◌, ◌∙◌, sym, ap, true, false, Bool, ◌&&◌, and_assoc, List, ℕ, ◌+◌, ◌*◌, ◌≤◌, ◌<◌, zero-add, add_assoc, add-zero, add-one}
use Rattle.mem.proofs.Prelude.{T, eqb, leb, ltb, leb→le, ltb→lt, le-leb, lt-leb, length, get_or, drop, drop-cons}
use lib.ListN.{drop_of_length-le}
use Rattle.mem.specs.Lists.{every, sum}
use Rattle.mem.proofs.Tests.{and_left, and_right, true-T, T_true}
use Rattle.classes.specs.Classes.{size_limit}
use Rattle.model.specs.Proposals.{entries, cap_right, size_right, accepts, plannable}

-- whether the sizes that are left are right, s being the sum of those passed by
unfoldable pub right_from : (cap total s : ℕ) → List ℕ → Bool
right_from cap total s ns = every (size_right cap) ns && eqb (s + sum (λ n. n) ns) total

module _ (cap total : ℕ) (sizes : List ℕ) where
  pub right_all : right_from cap total 0 sizes ≡ (every (size_right cap) sizes && eqb (sum (λ n. n) sizes) total)
  unfolding right_from
  right_all = rw zero-add

  module _ (s i : ℕ) where
    abbrev n : ℕ
    n = get_or sizes i 0

    right-next : i < length sizes → right_from cap total s (drop i sizes) ≡ (size_right cap n && right_from cap total (s + n) (drop (i + 1) sizes))
    unfolding right_from
    right-next h = rw (add-one, drop-cons sizes i 0 h, and_assoc, add_assoc)

    pub right-passed : i < length sizes → size_right cap n ≡ true → right_from cap total s (drop i sizes) ≡ right_from cap total (s + n) (drop (i + 1) sizes)
    right-passed h e = right-next h ∙ ap (λ b. b && right_from cap total (s + n) (drop (i + 1) sizes)) e

    pub right-refused : i < length sizes → size_right cap n ≡ false → right_from cap total s (drop i sizes) ≡ false
    right-refused h e = right-next h ∙ ap (λ b. b && right_from cap total (s + n) (drop (i + 1) sizes)) e

    pub right-done : length sizes ≤ i → right_from cap total s (drop i sizes) ≡ eqb s total
    unfolding right_from
    right-done h = rw (drop_of_length-le sizes h, add-zero)

-- a size
module _ (cap n : ℕ) where
  pub size-zero : n < 1 → size_right cap n ≡ false
  unfolding size_right
  size-zero h = rw (lt-leb 1 n h)

  pub size-over : 1 ≤ n → cap < n → size_right cap n ≡ false
  unfolding size_right
  size-over h k = rw (le-leb 1 n h, lt-leb n cap k)

  pub size_in : 1 ≤ n → n ≤ cap → size_right cap n ≡ true
  unfolding size_right
  size_in h k = rw (le-leb 1 n h, le-leb n cap k)

-- a cap
module _ (cap : ℕ) where
  pub cap_zero : cap < 1 → cap_right cap ≡ false
  unfolding cap_right
  cap_zero h = rw (lt-leb 1 cap h)

  pub cap_tested : 1 ≤ cap → cap_right cap ≡ ltb cap size_limit
  unfolding cap_right
  cap_tested h = rw (le-leb 1 cap h)

  pub cap_facts : cap_right cap ≡ true → (1 ≤ cap) × (cap < size_limit)
  unfolding cap_right
  cap_facts e =
      let t : T (cap_right cap) = true-T (cap_right cap) e in
      (leb→le 1 cap (and_left (leb 1 cap) (ltb cap size_limit) t), ltb→lt cap size_limit (and_right (leb 1 cap) (ltb cap size_limit) t))

-- a proposal
module _ (total cap : ℕ) (sizes : List ℕ) where
  pub check_cap : cap_right cap ≡ false → false ≡ accepts total cap sizes
  unfolding accepts
  check_cap e = rw e

  pub check_long : cap_right cap ≡ true → entries < length sizes → false ≡ accepts total cap sizes
  unfolding accepts
  check_long e h = rw (e, lt-leb (length sizes) entries h)

  pub check_sizes : cap_right cap ≡ true → length sizes ≤ entries
      → (every (size_right cap) sizes && eqb (sum (λ n. n) sizes) total) ≡ accepts total cap sizes
  unfolding accepts
  check_sizes e h = rw (e, le-leb (length sizes) entries h)

-- a total and a cap
module _ (total cap : ℕ) where
  pub plan_cap : cap_right cap ≡ false → false ≡ plannable total cap
  unfolding plannable
  plan_cap e = sym (ap (λ b. b && leb total (entries * cap)) e)

  pub plan_tested : cap_right cap ≡ true → leb total (entries * cap) ≡ plannable total cap
  unfolding plannable
  plan_tested e = sym (ap (λ b. b && leb total (entries * cap)) e)

  pub plan_facts : plannable total cap ≡ true → (cap_right cap ≡ true) × (total ≤ entries * cap)
  unfolding plannable
  plan_facts e =
      let t : T (plannable total cap) = true-T (plannable total cap) e in (
        T_true (cap_right cap) (and_left (cap_right cap) (leb total (entries * cap)) t),
        leb→le total (entries * cap) (and_right (cap_right cap) (leb total (entries * cap)) t),
      )
