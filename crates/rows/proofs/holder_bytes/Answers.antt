-- `holder_bytes` meets its contract.
use Rattle.rows.proofs.holder_bytes.Goals as goal

pub returns-in-First : goal.returns-in-First
returns-in-First c = rw c.in-First.is

pub returns-in-Later : goal.returns-in-Later
returns-in-Later c = rw c.in-Later.is
