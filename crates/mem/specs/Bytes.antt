-- Bytes: numbers in them, parts of them, tests and writes.
use Rattle.std.specs.Prelude.{ℕ, zero, suc, ◌+◌, ◌*◌, ◌/◌, ◌%◌, Bool, true, false, ◌&&◌, List, [], ◌∷◌, ◌++◌, eqb, take, drop, replicate}

-- n zero bytes
unfoldable pub zeros : ℕ → List ℕ
zeros n = replicate n 0

-- a number in k bytes, low byte first
abbrev pub low : ℕ → ℕ → List ℕ
low zero x = []
low (suc k) x = x % 256 ∷ low k (x / 256)

-- the number that bytes hold, low byte first
abbrev pub number : List ℕ → ℕ
number [] = 0
number (b ∷ bs) = b + 256 * number bs

-- a number in k bytes, high byte first
abbrev pub high : ℕ → ℕ → List ℕ
high zero x = []
high (suc k) x = high k (x / 256) ++ (x % 256 ∷ [])

-- the number that bytes hold, high byte first, behind those that were read as a
abbrev pub big_from : ℕ → List ℕ → ℕ
big_from a [] = a
big_from a (b ∷ bs) = big_from (256 * a + b) bs

abbrev pub big : List ℕ → ℕ
big bs = big_from 0 bs

-- whether two lists of bytes are the same
abbrev pub same : List ℕ → List ℕ → Bool
same [] [] = true
same [] (y ∷ ys) = false
same (x ∷ xs) [] = false
same (x ∷ xs) (y ∷ ys) = eqb x y && same xs ys

-- a set of small numbers as a mask: bit i says whether the list's element i is true
abbrev pub bit : Bool → ℕ
bit true = 1
bit false = 0

abbrev pub mask : List Bool → ℕ
mask [] = 0
mask (b ∷ bs) = bit b + 2 * mask bs

module _ {ℓ} {A : Type ℓ} where
  -- k elements from place p on
  abbrev pub part : ℕ → ℕ → List A → List A
  part p k xs = take k (drop p xs)

  -- the list with vs written from place p on; what would fall past the end is left out
  abbrev pub put : ℕ → List A → List A → List A
  put p vs [] = []
  put zero [] (x ∷ xs) = x ∷ xs
  put zero (v ∷ vs) (x ∷ xs) = v ∷ put zero vs xs
  put (suc p) vs (x ∷ xs) = x ∷ put p vs xs
