-- Alignments (02 §6): "The DMA engine wants starts on 32 to 4,096 byte boundaries".
use Rattle.std.specs.Prelude.{ℕ, zero, suc, ◌+◌, ◌*◌, ◌-◌, ◌/◌, ◌^◌, ◌≤◌, ◌<◌, max, List, [], ◌∷◌, eqb, ltb}
use Rattle.mem.specs.Lists.{choose, first}
use Rattle.classes.specs.Classes.{size_limit}

-- the code by which the tables keep an alignment: 1 for the 16 bytes of an ordinary block, 2 to 9 for 32 to 4,096
abbrev pub ordinary : ℕ
ordinary = 1

unfoldable pub align_of : ℕ → ℕ
align_of k = 8 * 2 ^ k

-- "Alignments 1, 2, 4, 8 and 16 are an ordinary grant. Any other that is not a power of two up to 4,096 is answer 13"
unfoldable pub powers : List ℕ
powers = 1 ∷ 2 ∷ 4 ∷ 8 ∷ 16 ∷ 32 ∷ 64 ∷ 128 ∷ 256 ∷ 512 ∷ 1024 ∷ 2048 ∷ 4096 ∷ []

-- the code of an alignment that is asked for; 0 where there is none
unfoldable pub code_of : ℕ → ℕ
unfolding powers
code_of a = let i = first (λ p. eqb p a) powers in choose (ltb i 13) (max ordinary (i - 3)) 0

-- "the class and slot are those of n + align − 16": the enlarged size, by the code; an ordinary block's is n itself
abbrev pub enlarged : (code n : ℕ) → ℕ
enlarged zero n = n
enlarged (suc zero) n = n
enlarged (suc (suc k)) n = n + (align_of (suc (suc k)) - 16)

-- "the lowest multiple of align at or after" a place
unfoldable pub round_up : (align at : ℕ) → ℕ
round_up a b = a * ((b + (a - 1)) / a)

-- an alignment and a size that a grant does not refuse with answer 13 or 3
pub record Askable (code n : ℕ) : Type 0 where
  pub some_code : 1 ≤ code
  pub last_code : code ≤ 9
  pub small : enlarged code n < size_limit
