-- `turn_ready` meets its contract.
use Rattle.plain_changes.proofs.turn_ready.Goals as goal

pub returns-in-Idle : goal.returns-in-Idle
returns-in-Idle c = rw c.in-Idle.is
