-- What a group counts by its masks.
use Rattle.std.specs.Prelude.{ℕ, ◌+◌, ◌-◌}
use Rattle.std.specs.Int.Count.{ones}
use Rattle.model.specs.declared.Totals.{Totals}

-- a group of k rows, from the masks and the sum of the sizes of its n slots
abbrev pub masks_totals : ℕ → ℕ → ℕ → ℕ → ℕ → Totals
masks_totals k n r w b = record { blocks = n - (ones r + ones w); bytes = b; held = k; free = 0; ready = ones r; waiting = ones w }
