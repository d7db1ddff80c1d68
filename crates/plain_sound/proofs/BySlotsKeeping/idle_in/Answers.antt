-- `idle_in` meets its contract.
use Rattle.mem.proofs.Prelude.{arith, drop}
use Rattle.model.specs.Tables.{row_at}
use Rattle.plain_sound.proofs.Idle.{live_inside, idle_counted}
use Rattle.plain_sound.proofs.BySlotsKeeping.idle_in.Goals as goal

pub overflow_sub-result : goal.overflow_sub-result
overflow_sub-result c = omega (arith, live_inside c.args.c (drop (row_at c.args.i) c.args.room.now), c.live_in.ensures, c.slots.ensures.value)

pub returns : goal.returns
returns c = λ ss k. rw (c.live_in.ensures, c.slots.ensures.value) (idle_counted k)
