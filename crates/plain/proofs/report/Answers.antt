-- By what is counted.
use Rattle.plain.proofs.Kit.{◌≡◌, sym, refl, length, row_bytes, view_by, slots_layout, plain_form, plain_call, by_check}
use Rattle.mem.proofs.Prelude.{Bool, List, ℕ, true, false}
use Rattle.std.specs.Option.{ok_or}
use Rattle.mem.specs.Lists.{choose}
use Rattle.model.specs.declared.Refusal.TheVariants.{Unsound}
use Rattle.model.specs.Answers.{report_answer}
use Rattle.model.specs.Plans.{reports, totals}
use Rattle.model.specs.Tables.{sound_by}
use Rattle.model.specs.Calls.{left}
use Rattle.model.proofs.Calls.{call-unsound}
use Rattle.rows.specs.Counts.{count_if}
use Rattle.frames.proofs.Calls.{reporting}
use Rattle.plain.proofs.report.Goals as goal

-- what is answered, by what the check says
answered : (a t : List ℕ) (b : Bool) → sound_by slots_layout row_bytes (length a) t ≡ b
    → left (report_answer (ok_or (count_if b (totals row_bytes (view_by slots_layout row_bytes t))) Unsound)) a t ≡ plain_call row_bytes a t reports
unfolding choose
answered a t true e = reporting (by_check a t e) refl
answered a t false e = sym (call-unsound row_bytes (plain_form row_bytes) a t reports tt e)

pub returns : goal.returns
unfolding row_bytes
returns c = rw (c.ok_or.ensures.value, c.counted.ensures) (answered c.args.arena.now c.args.room.now _ refl)
