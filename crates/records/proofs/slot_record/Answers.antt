-- `slot_record` meets its contract.
use Rattle.mem.proofs.Prelude.{rules}
use Rattle.mem.specs.Bytes.{zeros}
use Rattle.model.specs.Tables.{slot_record}
use Rattle.records.proofs.slot_record.Goals as goal

pub returns-in-Fresh : goal.returns-in-Fresh
unfolding slot_record zeros
returns-in-Fresh c = search rules

pub returns-in-Idle : goal.returns-in-Idle
unfolding slot_record zeros
returns-in-Idle c = search rules

pub returns-in-Live : goal.returns-in-Live
unfolding slot_record
returns-in-Live c = search rules
