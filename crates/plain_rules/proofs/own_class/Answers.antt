-- `own_class` meets its contract.
use Rattle.mem.proofs.Prelude.{add-one}
use Rattle.plain_rules.proofs.own_class.Goals as goal

pub returns : goal.returns
returns c = rw (c.class_of-own.ensures.value, add-one)
