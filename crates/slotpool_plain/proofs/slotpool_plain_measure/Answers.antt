-- `slotpool_plain_measure` meets its contract.
use Rattle.mem.proofs.Prelude.{◌∙◌, ap, List, ℕ}
use Rattle.model.specs.Answers.{reply_answer}
use Rattle.model.specs.Calls.{Outcome}
use Rattle.answers.proofs.Gives.{tells}
use Rattle.answers.proofs.Numbers.{reply_number}
use Rattle.slotpool_plain.proofs.slotpool_plain_measure.Goals as goal

pub returns : goal.returns
returns c = let k = c.measure-r in tells (reply_answer k.result) (c.number_of.ensures ∙ reply_number k.result) c.value_of.ensures (ap (λ (o : Outcome (List ℕ)). o.answer) k.ensures)
