-- By the cap.
use Rattle.mem.proofs.Prelude.{◌∙◌, sym, arith}
use Rattle.classes.specs.Classes.{size_limit}
use Rattle.model.specs.Proposals.{entries}
use Rattle.proposals.proofs.Checks.{cap_facts, plan_cap, plan_tested}
use Rattle.proposals.proofs.plannable.Goals as goal

pub returns-then-not-cap_right : goal.returns-then-not-cap_right
returns-then-not-cap_right c =
    let a = c.args in
    plan_cap a.total a.cap (sym c.cap_right.ensures ∙ c.if-not-cap_right.true)

pub overflow_mul-result : goal.overflow_mul-result
unfolding size_limit
overflow_mul-result c =
    omega (arith, cap_facts c.args.cap (sym c.cap_right.ensures ∙ c.if-not-cap_right.false))

pub returns : goal.returns
unfolding entries
returns c =
    let a = c.args in
    plan_tested a.total a.cap (sym c.cap_right.ensures ∙ c.if-not-cap_right.false)
