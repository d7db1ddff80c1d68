-- `rows_counted` meets its contract. The invariant: what is counted of all rows is what was counted, and what is of those that are left.
use Rattle.mem.proofs.Prelude.{◌-◌}
use Rattle.rows.specs.Counts.{all_rows}
use Rattle.rows.proofs.Counts.{Passed}
use Rattle.walks.proofs.rows_counted.Given as goal

abbrev pub invariant-loop-s : goal.invariant-loop-s
invariant-loop-s g l = Passed g.K.Keeping.layout l.row.bytes l.n l.room l.s

abbrev pub decreases-loop-s : goal.decreases-loop-s
decreases-loop-s g l = l.n - all_rows l.s
