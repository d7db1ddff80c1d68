-- `plus` meets its contract: the sums are small.
use Rattle.mem.proofs.Prelude.{arith}
use Rattle.rows.proofs.plus.Goals as goal

pub overflow_add-result-5 : goal.overflow_add-result-5
overflow_add-result-5 c = omega (arith, c.requires)

pub overflow_add-result-6 : goal.overflow_add-result-6
overflow_add-result-6 c = omega (arith, c.requires)
