-- The lowest ready bit is one of the 32, and part of the set.
use Rattle.mem.proofs.Prelude.{arith, rules}
use Rattle.masks.specs.Sets.{taken}
use Rattle.mem.proofs.Masks.{lowest-fits}
use Rattle.masks.proofs.Masks.take.Goals as goal

pub overflow_sub-result : goal.overflow_sub-result
overflow_sub-result c = omega (arith, (lowest-fits c.args.self.ready (search rules) (search rules)).1)

pub returns : goal.returns
unfolding taken
returns c = rw c.bit_of.ensures
