-- By whether a list can be planned.
use Rattle.mem.proofs.Prelude.{◌∙◌, sym}
use Rattle.gather.proofs.Lists.{not-planned, is_planned}
use Rattle.gather.proofs.plan_list.Goals as goal

pub returns-then-not-plannable : goal.returns-then-not-plannable
returns-then-not-plannable c =
    let w = c.plannable in
    let a = c.args in
    not-planned a.total a.cap a.sizes.now (sym w.ensures ∙ c.if-not-plannable.true)

pub full_caps-requires : goal.full_caps-requires
full_caps-requires c = let w = c.plannable in sym w.ensures ∙ c.if-not-plannable.false

pub returns : goal.returns
returns c =
    let a = c.args in
    let g = c.full_caps in
    is_planned a.total a.cap a.sizes.now (sym c.plannable.ensures ∙ c.if-not-plannable.false) g.ensures.value g.ensures.sizes_after
