-- `serves` meets its contract.
use Rattle.soundness.proofs.Idle.{ready_serve, waiting_serve}
use Rattle.soundness.proofs.ByMasksKeeping.serves.Goals as goal

pub returns-then-m-ne0 : goal.returns-then-m-ne0
returns-then-m-ne0 c = λ ss k. ready_serve k c.masks_at-m.result c.masks_at-m.ensures c.if-m-ne0.true

pub returns : goal.returns
returns c = λ ss k. waiting_serve k c.masks_at-m.result c.masks_at-m.ensures c.if-m-ne0.false
