-- `slotpool_plain_move` meets its contract.
use Rattle.mem.proofs.Prelude.{◌∙◌}
use Rattle.model.specs.Answers.{reply_answer}
use Rattle.answers.proofs.Gives.{gives}
use Rattle.answers.proofs.Numbers.{reply_number}
use Rattle.slotpool_plain.proofs.slotpool_plain_move.Goals as goal

pub returns : goal.returns
returns c = let k = c.move_block-r in gives (reply_answer k.result) (c.number_of.ensures ∙ reply_number k.result) c.value_of.ensures k.ensures
