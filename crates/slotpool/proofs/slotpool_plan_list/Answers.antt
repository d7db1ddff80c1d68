-- `slotpool_plan_list` meets its contract.
use Rattle.mem.proofs.Prelude.{◌∙◌, sym, ap, get_or}
use Rattle.answers.proofs.Numbers.{reply_number}
use Rattle.slotpool.proofs.slotpool_plan_list.Goals as goal

pub returns : goal.returns
returns c =
    let r = c.plan_list-r.ensures in
    let n = c.number_of.ensures ∙ reply_number c.plan_list-r.result in
    record {
      proposed = record { number-due = n ∙ r.proposed.number-due; list-due = r.proposed.list-due; accepted = λ z. r.proposed.accepted (sym n ∙ z) };
      value_due = c.value_of.ensures ∙ ap (λ vs. get_or vs 0 0) r.values-due;
    }
