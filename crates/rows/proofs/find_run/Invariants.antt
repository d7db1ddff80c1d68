-- `find_run` meets its contract. The invariant: the search of the whole is that of what is left.
use Rattle.mem.proofs.Prelude.{◌-◌}
use Rattle.model.specs.Tables.{Layout}
use Rattle.rows.specs.Rows.{Lent}
use Rattle.rows.proofs.RunSteps.{Ran}
use Rattle.rows.proofs.find_run.Given as goal

abbrev pub invariant-loop-i : goal.invariant-loop-i
invariant-loop-i l = (L : Layout) → Lent L l.row.bytes l.len l.room → Ran L l.row.bytes l.room l.c l.from l.i

abbrev pub decreases-loop-i : goal.decreases-loop-i
decreases-loop-i l = l.n - l.i
