-- `find_block` meets its contract. The invariant: what is looked up in the whole is looked up in what is left.
use Rattle.mem.proofs.Prelude.{◌-◌}
use Rattle.model.specs.Plain.{slots_layout}
use Rattle.rows.specs.Rows.{Passed}
use Rattle.plain_tables.proofs.Blocks.{Left}
use Rattle.plain_tables.proofs.find_block.Given as goal

abbrev pub invariant-loop-i : goal.invariant-loop-i
invariant-loop-i l = Passed slots_layout l.row.bytes l.room (Left l.row.bytes l.offset) l.i

abbrev pub decreases-loop-i : goal.decreases-loop-i
decreases-loop-i l = l.n - l.i
