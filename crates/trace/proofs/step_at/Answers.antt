-- `step_at` meets its contract.
use Rattle.mem.proofs.Prelude.{ap, ◌∙◌, ◌+◌, arith}
use Rattle.trace.specs.Trace.{record_at}
use Rattle.trace.proofs.Laws.{at_end, no_length, cut_short, whole}
use Rattle.trace.proofs.step_at.Goals as goal

pub returns-then-len-at : goal.returns-then-len-at
returns-then-len-at c = at_end _ _ c.if-len-at.true

pub returns-then-len-at-lt2 : goal.returns-then-len-at-lt2
returns-then-len-at-lt2 c = no_length _ _ (omega arith) (omega arith)

pub returns-then-len-body : goal.returns-then-len-body
returns-then-len-body c = cut_short _ _ (omega arith) (omega (arith, c.big2-n.ensures.value))

pub returns : goal.returns
returns c =
    let a = c.args in
    c.record_of.ensures
    ∙ ap (record_at a.s.now (a.at + 2)) c.big2-n.ensures.value
    ∙ whole a.s.now a.at (omega (arith, c.big2-n.ensures.value))
