-- `with_slot` meets its contract, by what the slot is.
use Rattle.mem.proofs.Prelude.{◌∙◌, subst, add-zero, arith}
use Rattle.plain_slots.specs.Slots.{Small}
use Rattle.plain_sound.proofs.with_slot.Goals as goal

pub overflow_add-result-in-Live : goal.overflow_add-result-in-Live
overflow_add-result-in-Live c =
    let h = subst Small c.in-Live.is c.requires.1 in
    omega (arith, h, c.requires.0)

pub returns-in-Fresh : goal.returns-in-Fresh
returns-in-Fresh c = c.with_idle.ensures ∙ rw c.in-Fresh.is

pub returns-in-Idle : goal.returns-in-Idle
returns-in-Idle c = c.with_idle-in-Idle.ensures ∙ rw c.in-Idle.is

pub returns-in-Live : goal.returns-in-Live
returns-in-Live c = rw c.in-Live.is (simp add-zero)
