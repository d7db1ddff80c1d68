-- The plain pool's tables as the calls over any form take them, once the check has passed; and what a call does where it has not.
use Rattle.mem.proofs.Prelude.{◌∙◌, ◌≡◌, sym, true, false, Bool, List, ℕ, not, not-true, not-false, length}
use Rattle.classes.specs.Classes.{row_bytes}
use Rattle.classes.proofs.Laws.{card_some}
use Rattle.model.specs.Plans.{Call}
use Rattle.model.specs.Tables.{sound_by}
use Rattle.model.specs.Plain.{slots_layout, plain_form, plain_call}
use Rattle.model.specs.Calls.{keeps, unsound}
use Rattle.model.proofs.Calls.{Asks, call-unsound}
use Rattle.model.proofs.Plain.{plain_lawful}
use Rattle.frames.proofs.Calls.{Checked}

-- what is lent passed the check
abbrev pub Sound : (a t : List ℕ) → Type 0
Sound a t = Checked row_bytes (plain_form row_bytes) a t

pub by_check : (a t : List ℕ) → sound_by slots_layout row_bytes (length a) t ≡ true → Sound a t
by_check a t e = record { laws = plain_lawful row_bytes card_some; sound = e }

-- by what the check of a row's 512 bytes said, which the code negates
module _ (a t : List ℕ) {w : Bool} (e : w ≡ sound_by slots_layout 512 (length a) t) where
  pub checked : not w ≡ false → Sound a t
  unfolding row_bytes
  checked h = by_check a t (sym e ∙ not-false w h)

  pub refusing : (c : Call) → Asks c → not w ≡ true → keeps (unsound c) a t ≡ plain_call row_bytes a t c
  unfolding row_bytes
  refusing c k h = sym (call-unsound row_bytes (plain_form row_bytes) a t c k (sym e ∙ not-true w h))
