-- `to_refill` meets its contract.
use Rattle.mem.proofs.Prelude.{eq-eqb, ne_eqb}
use Rattle.mem.specs.Lists.{choose}
use Rattle.masks.specs.Sets.{to_refill}
use Rattle.masks.proofs.Masks.to_refill.Goals as goal

pub returns-then-self-eq0 : goal.returns-then-self-eq0
unfolding to_refill choose
returns-then-self-eq0 c = rw (eq-eqb c.args.self.ready 0 c.if-self-eq0.true)

pub returns-else-self-eq0 : goal.returns-else-self-eq0
unfolding to_refill choose
returns-else-self-eq0 c = rw (ne_eqb c.args.self.ready 0 c.if-self-eq0.false)
