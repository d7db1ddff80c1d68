-- `look_group` meets its contract. The invariant: what stands there is what stands there in the slots that are left.
use Rattle.mem.proofs.Prelude.{◌≡◌, ◌+◌, ◌*◌, ◌≤◌, drop}
use Rattle.model.specs.Tables.{row_at}
use Rattle.model.specs.Plain.{plain_group}
use Rattle.plain_tables.specs.Found.{slots_looked}
use Rattle.plain_slots.proofs.Walks.{slots_from}
use Rattle.plain_tables.proofs.look_group.Given as goal

abbrev pub invariant-loop-j : goal.invariant-loop-j
invariant-loop-j l = (l.begin ≤ 524304 + 131072 * l.j)
    × (slots_looked l.first l.c 0 (l.fn.row.bytes * l.first + 16) l.offset (plain_group l.c (drop (row_at l.first) l.room)) ≡ slots_looked l.first l.c l.j l.begin l.offset (slots_from l.n l.first l.room l.j))
