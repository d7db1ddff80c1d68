-- The number of an answer is that of the model's.
use Rattle.mem.proofs.Prelude.{◌≡◌, refl, ℕ, Result, Ok, Err}
use Rattle.model.specs.declared.Refusal.{Refusal}
use Rattle.model.specs.declared.Totals.{Totals}
use Rattle.model.specs.Answers.{reply_answer, report_answer}
use Rattle.answers.specs.Numbers.{number_in}

pub reply_number : (r : Result ℕ Refusal) → number_in r ≡ (reply_answer r).number
reply_number (Ok v) = refl
reply_number (Err x) = refl

pub report_number : (r : Result Totals Refusal) → number_in r ≡ (report_answer r).number
report_number (Ok t) = refl
report_number (Err x) = refl
