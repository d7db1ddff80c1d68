-- What the grants of a list leave, whatever tables they are in: one of them, and all of them.
use Rattle.std.specs.Prelude.{ℕ, List, [], Option, None, Some}
use Rattle.model.specs.State.{Place, handle}
use Rattle.model.specs.Plans.{enframe}
use Rattle.model.specs.Calls.{write}

-- the places of a list that is granted whole; no place of one that is refused
abbrev pub granted : Option (List Place) → List Place
granted None = []
granted (Some qs) = qs

module _ (row : ℕ) where
  -- one grant: its handle, and the arena after it
  abbrev pub handle_of : Option Place → Option ℕ
  handle_of None = None
  handle_of (Some q) = Some (handle row q)

  abbrev pub next_arena : List ℕ → Option Place → List ℕ
  next_arena a None = a
  next_arena a (Some q) = write a (enframe row q)
