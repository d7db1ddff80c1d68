-- `serves` meets its contract.
use Rattle.plain_sound.proofs.Idle.{serve_counted}
use Rattle.plain_sound.proofs.BySlotsKeeping.serves.Goals as goal

pub returns : goal.returns
returns c = λ ss k. serve_counted k c.live_in.result c.slots.result c.live_in.ensures c.slots.ensures.value
