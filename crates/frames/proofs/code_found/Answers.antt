-- `code_found` meets its contract.
use Rattle.mem.proofs.Prelude.{sym, ap}
use Rattle.frames.specs.Blocks.{code_found}
use Rattle.frames.proofs.code_found.Goals as goal

pub returns-in-Absent : goal.returns-in-Absent
returns-in-Absent c = ap code_found (sym c.in-Absent.is)

pub returns-in-Freed : goal.returns-in-Freed
returns-in-Freed c = ap code_found (sym c.in-Freed.is)

pub returns-in-Present : goal.returns-in-Present
returns-in-Present c = ap code_found (sym c.in-Present.is)
