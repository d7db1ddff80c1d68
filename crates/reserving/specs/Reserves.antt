-- What is reserved in the first engine's tables, with the totals.
use Rattle.std.specs.Prelude.{ℕ, List, ◌∷◌, ◌++◌, Option, None, Some}
use Rattle.model.specs.declared.Totals.{Totals}
use Rattle.model.specs.State.{Place, group, pool_of}
use Rattle.model.specs.Plans.{Site, totals}
use Rattle.model.specs.Tables.{masks_layout}
use Rattle.frames.specs.Blocks.{site_room_by, next_room_by}

module _ (row : ℕ) where
  -- the room with the group in which a slot is taken, and the totals of the pool that has it
  abbrev pub site_room : ℕ → List ℕ → Option Site → List ℕ
  site_room c t o = site_room_by masks_layout row c t o

  abbrev pub site_totals : ℕ → Totals → Option Site → Totals
  site_totals c s None = s
  site_totals c s (Some g) = totals row (g.before ++ (group c g.slots ∷ g.after))

  -- the room after a grant, and the totals
  abbrev pub next_room : List ℕ → Option Place → List ℕ
  next_room t o = next_room_by masks_layout row t o

  abbrev pub next_totals : Totals → Option Place → Totals
  next_totals s None = s
  next_totals s (Some q) = totals row (pool_of q)
