-- The class facts of document 01: one test over the 48 sizes, and the rules of the class of every request.
use Rattle.std.specs.Prelude.{ℕ, suc, ◌+◌, ◌*◌, ◌≤◌, ◌<◌, Bool, true, ◌&&◌, List, [], ◌∷◌, T, ltb}
use Rattle.classes.specs.Classes.{units, units_of, slot_bytes, class_of, needed, size_limit}

-- sizes increase, and four times a size is less than five times the least need that it serves, one unit more than the size before
unfoldable pub steps : ℕ → List ℕ → Bool
steps p [] = true
steps p (u ∷ us) = ltb p u && (ltb (4 * u) (5 * suc p) && steps u us)

-- "Its class is the least whose slot has at least that many bytes. .. for n up to 131,051, four times u is less than five times q."
pub record ClassFacts (n : ℕ) : Type 0 where
  pub inside : class_of n < 48
  pub holds : n + 4 ≤ slot_bytes (class_of n)
  pub tight : 4 * units_of (class_of n) < 5 * needed n
  pub before : (j : ℕ) → j < class_of n → slot_bytes j < n + 4

-- of all 48 classes: the test, the increase of the sizes, and the rules for every request below 131,052
pub record AllClasses : Type 0 where
  pub table : T (steps 0 units)
  pub increase : (i j : ℕ) → i < j → j < 48 → units_of i < units_of j
  pub class : (n : ℕ) → n < size_limit → ClassFacts n
