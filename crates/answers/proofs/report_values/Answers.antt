use Rattle.mem.proofs.Prelude.{sym, ap}
use Rattle.model.specs.Answers.{report_answer}
use Rattle.answers.proofs.report_values.Goals as goal

pub returns-in-Ok : goal.returns-in-Ok
returns-in-Ok c = ap (λ r. (report_answer r).values) (sym c.in-Ok.is)
