-- `group_totals` meets its contract.
use Rattle.soundness.proofs.group_totals.Goals as goal

pub returns : goal.returns
returns c = rw c.live-live.ensures
