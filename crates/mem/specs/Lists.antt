-- Tests and walks over lists.
use Rattle.std.specs.Prelude.{ℕ, zero, suc, ◌+◌, Bool, true, false, ◌&&◌, ◌||◌, List, [], ◌∷◌, ◌++◌, eqb, Option, None, Some}

-- the first if the test holds, else the second
unfoldable pub choose {ℓ} : {A : Type ℓ} → Bool → A → A → A
choose true x y = x
choose false x y = y

module _ {ℓ} {A : Type ℓ} where
  abbrev pub every : (A → Bool) → List A → Bool
  every f [] = true
  every f (x ∷ xs) = f x && every f xs

  abbrev pub any : (A → Bool) → List A → Bool
  any f [] = false
  any f (x ∷ xs) = f x || any f xs

  -- the place of the first element that passes the test, or the length
  abbrev pub first : (A → Bool) → List A → ℕ
  first f [] = zero
  first f (x ∷ xs) = let r = suc (first f xs) in choose (f x) zero r

  abbrev pub sum : (A → ℕ) → List A → ℕ
  sum f [] = 0
  sum f (x ∷ xs) = f x + sum f xs

  -- what each element gives, one after the other
  abbrev pub join : (A → List ℕ) → List A → List ℕ
  join f [] = []
  join f (x ∷ xs) = f x ++ join f xs

-- a number that is not 0, as an option
abbrev pub nonzero : ℕ → Option ℕ
nonzero zero = None
nonzero (suc n) = Some (suc n)

-- the first element that passes the test
abbrev pub find : {A : Type 0} → (A → Bool) → List A → Option A
find f [] = None
find f (x ∷ xs) = let r = find f xs in choose (f x) (Some x) r

-- whether a list begins with another
abbrev pub starts : List ℕ → List ℕ → Bool
starts t [] = true
starts [] (y ∷ ys) = false
starts (x ∷ t) (y ∷ ys) = eqb x y && starts t ys
