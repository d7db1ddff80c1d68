-- `idle_in` meets its contract.
use Rattle.soundness.proofs.Idle.{idle_counted}
use Rattle.soundness.proofs.ByMasksKeeping.idle_in.Goals as goal

pub returns : goal.returns
returns c = λ ss k. idle_counted k c.masks_at-m.result c.masks_at-m.ensures
