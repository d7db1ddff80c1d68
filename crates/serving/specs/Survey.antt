-- What a list call goes by before it grants: of each class the slots that are not live, and of each row whether it is free.
use Rattle.std.specs.Prelude.{ℕ, suc, ◌≤◌, ◌<◌, ◌≡◌, Bool, not, List, [], ◌∷◌, T, eqb, length, get_or, replicate, Option, None, Some, is_some}
use Rattle.mem.specs.Lists.{choose, join, starts, sum}
use Rattle.mem.specs.Bytes.{zeros, bit}
use Rattle.classes.specs.Classes.{rows_of}
use Rattle.classes.specs.Alignments.{ordinary}
use Rattle.model.specs.State.{Span, Pool, Place, free, group, is_live, well_formed, pool_of, rows}
use Rattle.model.specs.Plans.{reserve}
use Rattle.model.specs.Tables.{most_rows}

-- the slots of the groups of class c that are not live
abbrev pub open_in : ℕ → Span → ℕ
open_in c free = 0
open_in c (group k ss) = choose (eqb k c) (sum (λ x. bit (not (is_live x))) ss) 0

unfoldable pub open_slots : ℕ → Pool → ℕ
open_slots c P = sum (open_in c) P

-- the place of the lowest k free rows in a map of rows, 1 standing for a free one; p rows were passed by
abbrev pub lowest_run : ℕ → ℕ → List ℕ → Option ℕ
lowest_run k p [] = None
lowest_run k p (b ∷ bs) = let later = lowest_run k (suc p) bs in choose (starts (b ∷ bs) (replicate k 1)) (Some p) later

module _ (row : ℕ) where
  -- of each row of a pool, 1 if it is free
  abbrev pub row_map : Span → List ℕ
  row_map free = 1 ∷ []
  row_map (group c ss) = zeros (rows_of row c)

  unfoldable pub map_of : Pool → List ℕ
  map_of P = join row_map P

  -- counts and a map tell what a pool has
  pub record NotesOf (P : Pool) (spare gaps : List ℕ) : Type 0 where
    pub formed : T (well_formed P)
    pub few : rows row P ≤ most_rows
    pub classes : length spare ≡ 48
    pub counts : (c : ℕ) → c < 48 → get_or spare c 0 ≡ open_slots c P
    pub rows-free : gaps ≡ map_of P

  -- what a grant of n bytes would find, and what counts and map then tell
  pub record Serves (P : Pool) (n : ℕ) (r : Bool) (spare gaps : List ℕ) : Type 0 where
    pub found : r ≡ is_some (reserve row P ordinary n)
    pub left : (q : Place) → reserve row P ordinary n ≡ Some q → NotesOf (pool_of q) spare gaps
