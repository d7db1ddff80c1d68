-- `slotpool_plain_report` meets its contract.
use Rattle.mem.proofs.Prelude.{◌∙◌, ap, List, ℕ}
use Rattle.model.specs.Answers.{report_answer}
use Rattle.model.specs.Calls.{Outcome}
use Rattle.answers.proofs.Gives.{reports}
use Rattle.answers.proofs.Numbers.{report_number}
use Rattle.slotpool_plain.proofs.slotpool_plain_report.Goals as goal

pub returns : goal.returns
returns c = let k = c.report-r in reports (report_answer k.result) (c.number_of.ensures ∙ report_number k.result) c.report_values.ensures (ap (λ (o : Outcome (List ℕ)). o.answer) k.ensures)
