-- `slots_counted` meets its contract. The invariant: what is counted of all slots is what was counted, and what is of those that are left.
use Rattle.mem.proofs.Prelude.{◌+◌}
use Rattle.model.specs.Tables.{row_at}
use Rattle.plain_sound.proofs.Laws.{Counting}
use Rattle.plain_sound.proofs.slots_counted.Given as goal

abbrev pub invariant-loop-j : goal.invariant-loop-j
invariant-loop-j l = Counting l.room (row_at l.i + 16) l.c l.k l.begin l.n l.t l.place l.j
