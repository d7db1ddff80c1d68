-- What a first row keeps of its group.
use Rattle.std.specs.Prelude.{ℕ, ◌≡◌, List, ◌++◌, T}
use Rattle.model.specs.declared.Slot.{Slot}
use Rattle.model.specs.State.{group, span_sound}
use Rattle.model.specs.Tables.{Layout}

-- the bytes begin with the first row of a sound group of class c, which has those slots
pub record Kept (L : Layout) (c : ℕ) (ss : List Slot) (t : List ℕ) : Type 0 where
  pub sound : T (span_sound (group c ss))
  pub rest : List ℕ
  pub bytes : t ≡ L.first_row c ss ++ rest
