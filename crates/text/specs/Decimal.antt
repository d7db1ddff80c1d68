-- Numbers as text.
use Rattle.std.specs.Prelude.{ℕ, zero, suc, ◌+◌, ◌/◌, ◌%◌, List, [], ◌∷◌, ◌++◌, ltb}
use Rattle.mem.specs.Lists.{choose}

-- the decimal digits of n as ASCII codes, no more than k of them
unfoldable pub decimal_in : ℕ → ℕ → List ℕ
decimal_in zero n = []
decimal_in (suc k) n = let rest = decimal_in k (n / 10) in choose (ltb n 10) ((48 + n) ∷ []) (rest ++ ((48 + n % 10) ∷ []))

-- "in decimal": no zeros in front; a number has no more digits than it counts, but for 0
unfoldable pub decimal : ℕ → List ℕ
decimal n = decimal_in (suc n) n
