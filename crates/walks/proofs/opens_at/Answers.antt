-- `opens_at` meets its contract.
use Rattle.mem.proofs.Prelude.{◌∙◌, sym}
use Rattle.walks.proofs.Spans.{opens-free, opens_other, opens_group}
use Rattle.walks.proofs.opens_at.Goals as goal

pub returns-in_default : goal.returns-in_default
returns-in_default g c = let h = c.holder_at-h in λ row len X s Y x. opens-free x h.result h.ensures c.args.c c.in_default.not-First

pub returns-then-wide-c : goal.returns-then-wide-c
returns-then-wide-c g c =
    let h = c.holder_at-h in
    λ row len X s Y x. opens_other x h.result h.ensures c.in-First.k c.in-First.is c.args.c (λ e. c.if-wide-c.true (c.wide.ensures.0 ∙ e))

pub returns : goal.returns
returns g c =
    let h = c.holder_at-h in
    λ row len X s Y x.
    opens_group x h.result h.ensures c.in-First.k c.in-First.is c.args.c c.serves.result (sym c.wide.ensures.0 ∙ c.if-wide-c.false) c.serves.ensures
