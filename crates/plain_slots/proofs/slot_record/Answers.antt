-- `slot_record` meets its contract.
use Rattle.mem.proofs.Prelude.{subst, ◌+◌, ◌<◌, arith, rules}
use Rattle.model.specs.Plain.{condition, plain_record}
use Rattle.plain_slots.proofs.slot_record.Goals as goal

pub overflow_add-result : goal.overflow_add-result
overflow_add-result c =
    let h : c.in-Live.a.align + 2 < 256 = subst (λ z. condition z < 256) c.in-Live.is c.requires in
    omega arith

pub returns-in-Fresh : goal.returns-in-Fresh
unfolding plain_record
returns-in-Fresh c = rw c.in-Fresh.is

pub returns-in-Idle : goal.returns-in-Idle
unfolding plain_record
returns-in-Idle c = search rules

pub returns-in-Live : goal.returns-in-Live
unfolding plain_record
returns-in-Live c = search rules
