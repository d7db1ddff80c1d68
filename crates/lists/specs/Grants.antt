-- What a grant of a list gives, as the code has it.
use Rattle.std.specs.Prelude.{ℕ, Option, None, Some}
use Rattle.model.specs.State.{Place, handle, rows}
use Rattle.lists.specs.declared.Placed.{Placed}

abbrev pub placed_as : ℕ → Option Place → Option Placed
placed_as row None = None
placed_as row (Some q) = Some (record { handle = handle row q; first = rows row q.before })
