use Rattle.mem.proofs.Prelude.{arith}
use Rattle.blocks.proofs.Laws.{bytes_small}
use Rattle.blocks.proofs.Framed.reserved.Goals as goal

pub returns-clause-small : goal.returns-clause-small
returns-clause-small c = omega (arith, bytes_small c.args.self.class)
