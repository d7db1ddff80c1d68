-- `live_in` meets its contract. The invariant: the group's live slots are those counted, and those of the slots that are left.
use Rattle.mem.proofs.Prelude.{◌≡◌, ◌+◌, ◌≤◌, drop}
use Rattle.model.specs.Tables.{row_at}
use Rattle.model.specs.Plain.{plain_group}
use Rattle.plain_slots.specs.Slots.{live_in}
use Rattle.plain_slots.proofs.Walks.{slots_from}
use Rattle.plain_slots.proofs.live_in.Given as goal

abbrev pub invariant-loop-j : goal.invariant-loop-j
invariant-loop-j l = (l.live ≤ l.j) × (live_in (plain_group l.c (drop (row_at l.i) l.room)) ≡ l.live + live_in (slots_from l.n l.i l.room l.j))
