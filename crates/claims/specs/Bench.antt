-- Line W6 of the bench sheet, for every arena: "any | grant 131,052 | answer 3". The other lines are one list, in the crate model.
use Rattle.std.specs.Prelude.{◌≡◌, List, ℕ, T}
use Rattle.model.specs.declared.Refusal.TheVariants.{TooLarge}
use Rattle.model.specs.Answers.{refusal}
use Rattle.model.specs.Plans.{grants}
use Rattle.model.specs.Calls.{Form, set_up_by, set_up_right_by, call_by, keeps}

-- after a set up that was done, over whatever arena and table room
abbrev pub TooLargeAnywhere : ℕ → Form → Type 0
TooLargeAnywhere row F = (a : List ℕ) (t : F.Kept) → T (set_up_right_by row F a t) → let r = set_up_by row F a t in
    call_by row F r.arena r.kept (grants 131052) ≡ keeps (refusal TooLarge) r.arena r.kept
