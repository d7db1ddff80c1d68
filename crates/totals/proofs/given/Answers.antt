-- `given` meets its contract.
use Rattle.mem.proofs.Prelude.{◌∙◌, arith}
use Rattle.model.proofs.SixTotals.{six-same}
use Rattle.totals.proofs.given.Goals as goal

pub overflow_sub-next : goal.overflow_sub-next
overflow_sub-next c = let p = c.requires in omega (arith, p.1.blocks)

pub overflow_sub-next-2 : goal.overflow_sub-next-2
overflow_sub-next-2 c = let p = c.requires in omega (arith, p.1.bytes)

pub overflow_add-next : goal.overflow_add-next
overflow_add-next c = let p = c.requires in omega (arith, p.1.waiting, p.2.waiting)

pub returns : goal.returns
returns c s h =
    c.record.ensures
    ∙ six-same s (omega (arith, h.blocks)) (omega (arith, h.bytes)) (omega (arith, h.held)) (omega (arith, h.free)) (omega (arith, h.ready))
    (omega (arith, h.waiting))
