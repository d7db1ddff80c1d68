-- `slotpool_plain_grant_list` meets its contract.
use Rattle.mem.proofs.Prelude.{◌∙◌}
use Rattle.model.specs.Answers.{reply_answer}
use Rattle.answers.proofs.Gives.{lists}
use Rattle.answers.proofs.Numbers.{reply_number}
use Rattle.slotpool_plain.proofs.slotpool_plain_grant_list.Goals as goal

pub returns : goal.returns
returns c = let k = c.grant_list-r in let h = k.ensures in lists (reply_answer k.result) (c.number_of.ensures ∙ reply_number k.result) c.value_of.ensures h.number-due h.values-due h.list-due h.arena_due h.kept_due
