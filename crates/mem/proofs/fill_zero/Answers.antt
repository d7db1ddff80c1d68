-- `fill_zero` meets its contract: std's fill, with 0.
use Rattle.mem.specs.Bytes.{zeros}
use Rattle.mem.proofs.fill_zero.Goals as goal

pub returns : goal.returns
unfolding zeros
returns c = c.fill.ensures.after (λ y e. e)
