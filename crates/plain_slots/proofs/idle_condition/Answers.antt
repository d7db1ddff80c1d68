-- `idle_condition` meets its contract.
use Rattle.mem.specs.Lists.{choose}
use Rattle.plain_slots.proofs.idle_condition.Goals as goal

pub returns-then-ready : goal.returns-then-ready
unfolding choose
returns-then-ready c = rw c.if-ready.true

pub returns-else-ready : goal.returns-else-ready
unfolding choose
returns-else-ready c = rw c.if-ready.false
