use Rattle.mem.proofs.Prelude.{arith}
use Rattle.classes.proofs.Laws.{bytes-units}
use Rattle.blocks.proofs.Framed.bytes.Goals as goal

pub returns-clause-value : goal.returns-clause-value
returns-clause-value c = omega (arith, bytes-units c.args.self.class)
