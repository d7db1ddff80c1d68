-- `with_idle` meets its contract.
use Rattle.mem.proofs.Prelude.{add-zero}
use Rattle.plain_sound.proofs.with_idle.Goals as goal

pub returns-then-ready : goal.returns-then-ready
returns-then-ready c = rw c.if-ready.true (simp add-zero)

pub returns : goal.returns
returns c = rw c.if-ready.false (simp add-zero)
