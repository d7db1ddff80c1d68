-- `made` meets its contract.
use Rattle.mem.proofs.Prelude.{◌∙◌, arith}
use Rattle.model.proofs.SixTotals.{six-same}
use Rattle.totals.proofs.made.Goals as goal

pub overflow_add-next : goal.overflow_add-next
overflow_add-next c = let p = c.requires in omega (arith, p.1.held, p.2.held)

pub overflow_sub-next : goal.overflow_sub-next
overflow_sub-next c = let p = c.requires in omega (arith, p.1.free)

pub overflow_add-next-2 : goal.overflow_add-next-2
overflow_add-next-2 c = let p = c.requires in omega (arith, p.1.ready, p.2.ready)

pub returns : goal.returns
returns c s h =
    c.record.ensures
    ∙ six-same s (omega (arith, h.blocks)) (omega (arith, h.bytes)) (omega (arith, h.held)) (omega (arith, h.free)) (omega (arith, h.ready))
    (omega (arith, h.waiting))
