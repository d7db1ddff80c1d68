-- `slot_sound` meets its contract, by what the slot is.
use Rattle.mem.proofs.Prelude.{◌∙◌, sym, subst, and-true, ◌*◌, ◌-◌, arith, leb, lt-ltb}
use Rattle.classes.specs.Classes.{slot_bytes}
use Rattle.model.specs.State.{slot_sound}
use Rattle.plain_slots.specs.Slots.{Small}
use Rattle.plain_rules.proofs.slot_sound.Goals as goal

pub overflow_mul-result : goal.overflow_mul-result
overflow_mul-result c =
    let h = subst Small c.in-Idle.is c.requires.2 in
    omega (arith, h)

pub live_sound-requires : goal.live_sound-requires
live_sound-requires c =
    let h = subst Small c.in-Live.is c.requires.2 in
    (c.requires.0, c.requires.1, h.1, h.2)

pub returns-in-Fresh : goal.returns-in-Fresh
unfolding slot_sound
returns-in-Fresh c = rw c.in-Fresh.is

pub returns-in-Idle : goal.returns-in-Idle
unfolding slot_sound slot_bytes
returns-in-Idle c =
    let u = c.units in
    rw (c.in-Idle.is, ← u.ensures.value, lt-ltb c.in-Idle.count 256 (omega arith)) (sym (and-true (leb (16 * c.in-Idle.disp) (16 * u.result - 4))))

pub returns-in-Live : goal.returns-in-Live
returns-in-Live c = c.live_sound.ensures ∙ rw c.in-Live.is
