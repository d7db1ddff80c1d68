-- `some_live` meets its contract.
use Rattle.mem.proofs.Prelude.{eq-eqb, ne_eqb}
use Rattle.mem.specs.Lists.{choose}
use Rattle.plain_sound.proofs.some_live.Goals as goal

pub returns-then-t-eq0 : goal.returns-then-t-eq0
unfolding choose
returns-then-t-eq0 c = rw (c.in_ok-t.was, eq-eqb c.in_ok-t.t.blocks 0 c.if-t-eq0.true)

pub returns : goal.returns
unfolding choose
returns c = rw (c.in_ok-t.was, ne_eqb c.in_ok-t.t.blocks 0 c.if-t-eq0.false)
