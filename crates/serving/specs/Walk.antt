-- What the walk over sound tables has noted, span by span.
use Rattle.std.specs.Prelude.{ℕ, ◌-◌, ◌<◌, ◌≡◌, List, ◌∷◌, ◌++◌, length, get_or}
use Rattle.mem.specs.Bytes.{zeros}
use Rattle.model.specs.State.{Span, Pool, rows}
use Rattle.model.specs.Tables.{Layout, view_by}
use Rattle.rows.specs.Rows.{Lent}
use Rattle.serving.specs.Survey.{open_slots, map_of}

-- sound tables in which span s begins at row i, behind the spans X
pub record Next (L : Layout) (row len : ℕ) (t : List ℕ) (i : ℕ) (X : Pool) (s : Span) (Y : Pool) : Type 0 where
  pub lent : Lent L row len t
  pub split : view_by L row t ≡ X ++ (s ∷ Y)
  pub first : i ≡ rows row X

-- counts and a map of n rows tell what the spans X have, and nothing yet of the rows behind them
pub record Noted (row n : ℕ) (X : Pool) (spare gaps : List ℕ) : Type 0 where
  pub classes : length spare ≡ 48
  pub counts : (c : ℕ) → c < 48 → get_or spare c 0 ≡ open_slots c X
  pub rows-free : gaps ≡ map_of row X ++ zeros (n - rows row X)
