-- `find_open` meets its contract. The invariant: the search of the whole is that of what is left.
use Rattle.mem.proofs.Prelude.{◌-◌}
use Rattle.rows.specs.Rows.{NoneOpen}
use Rattle.walks.proofs.find_open.Given as goal

abbrev pub invariant-loop-i : goal.invariant-loop-i
invariant-loop-i g l = NoneOpen g.K.Keeping.layout l.row.bytes l.room l.c l.i

abbrev pub decreases-loop-i : goal.decreases-loop-i
decreases-loop-i g l = l.n - l.i
