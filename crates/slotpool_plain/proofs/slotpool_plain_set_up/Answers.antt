-- `slotpool_plain_set_up` meets its contract.
use Rattle.mem.proofs.Prelude.{◌∙◌}
use Rattle.model.specs.Answers.{reply_answer}
use Rattle.answers.proofs.Gives.{leaves}
use Rattle.answers.proofs.Numbers.{reply_number}
use Rattle.slotpool_plain.proofs.slotpool_plain_set_up.Goals as goal

pub returns : goal.returns
returns c = let k = c.set_up in leaves (reply_answer k.result) (c.number_of.ensures ∙ reply_number k.result) k.ensures
