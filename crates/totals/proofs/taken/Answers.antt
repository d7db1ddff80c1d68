-- `taken` meets its contract.
use Rattle.mem.proofs.Prelude.{◌∙◌, arith}
use Rattle.model.proofs.SixTotals.{six-same}
use Rattle.totals.proofs.taken.Goals as goal

pub overflow_add-next : goal.overflow_add-next
overflow_add-next c = let p = c.requires in omega (arith, p.1.blocks, p.2.blocks)

pub overflow_add-next-2 : goal.overflow_add-next-2
overflow_add-next-2 c = let p = c.requires in omega (arith, p.1.bytes, p.2.bytes)

pub overflow_add-next-3 : goal.overflow_add-next-3
overflow_add-next-3 c = let p = c.requires in omega (arith, p.1.ready, p.2.ready)

pub overflow_sub-next : goal.overflow_sub-next
overflow_sub-next c = let p = c.requires in omega (arith, p.1.ready)

pub overflow_sub-next-2 : goal.overflow_sub-next-2
overflow_sub-next-2 c = let p = c.requires in omega (arith, p.1.waiting)

pub returns : goal.returns
returns c s h =
    c.record.ensures
    ∙ six-same s (omega (arith, h.blocks)) (omega (arith, h.bytes)) (omega (arith, h.held)) (omega (arith, h.free)) (omega (arith, h.ready))
    (omega (arith, h.waiting))
