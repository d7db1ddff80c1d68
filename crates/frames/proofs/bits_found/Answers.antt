-- The bits are those of a live block that was found.
use Rattle.mem.proofs.Prelude.{◌∙◌, sym, ap}
use Rattle.frames.specs.Blocks.{bits_found}
use Rattle.frames.proofs.bits_found.Goals as goal

pub returns-in-Absent : goal.returns-in-Absent
returns-in-Absent c = ap bits_found (sym c.in-Absent.is)

pub returns-in-Freed : goal.returns-in-Freed
returns-in-Freed c = ap bits_found (sym c.in-Freed.is)

pub returns-in-Present : goal.returns-in-Present
returns-in-Present c = c.use_bits.ensures.value ∙ ap bits_found (sym c.in-Present.is)
