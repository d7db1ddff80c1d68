-- `first_ready` meets its contract. The invariant: none of the slots passed by is ready.
use Rattle.mem.proofs.Prelude.{◌≡◌, ◌+◌, drop}
use Rattle.mem.specs.Lists.{first}
use Rattle.model.specs.State.{is_ready}
use Rattle.model.specs.Tables.{row_at}
use Rattle.model.specs.Plain.{plain_group}
use Rattle.plain_slots.proofs.Walks.{slots_from}
use Rattle.plain_changes.proofs.first_ready.Given as goal

abbrev pub invariant-loop-j : goal.invariant-loop-j
invariant-loop-j l = first is_ready (plain_group l.c (drop (row_at l.i) l.room)) ≡ l.j + first is_ready (slots_from l.n l.i l.room l.j)
