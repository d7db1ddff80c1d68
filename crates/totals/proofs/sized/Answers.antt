-- `sized` meets its contract.
use Rattle.mem.proofs.Prelude.{◌∙◌, arith}
use Rattle.model.proofs.SixTotals.{six-same}
use Rattle.totals.proofs.sized.Goals as goal

pub overflow_sub-next : goal.overflow_sub-next
overflow_sub-next c = let p = c.requires in omega (arith, p.1.fits)

pub overflow_add-next : goal.overflow_add-next
overflow_add-next c = let p = c.requires in omega (arith, p.1.bytes, p.2.bytes)

pub returns : goal.returns
returns c s h =
    c.record.ensures
    ∙ six-same s (omega (arith, h.blocks)) (omega (arith, h.bytes, h.fits)) (omega (arith, h.held)) (omega (arith, h.free))
    (omega (arith, h.ready)) (omega (arith, h.waiting))
