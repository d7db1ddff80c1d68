-- After any set up that was done, a grant of 131,052 bytes is refused as too large and changes nothing.
use Rattle.mem.proofs.Prelude.{◌∙◌, ◌≡◌, ap, true, List, ℕ, ◌<◌, ◌/◌, length}
use Rattle.mem.specs.Lists.{choose}
use Rattle.mem.specs.Bytes.{zeros}
use Rattle.mem.proofs.Tests.{T_true}
use Rattle.mem.proofs.Laws.{zeros-length}
use Rattle.classes.specs.Classes.{size_limit}
use Rattle.model.specs.declared.Refusal.TheVariants.{TooLarge}
use Rattle.model.specs.Answers.{refusal}
use Rattle.model.specs.Plans.{grants, fresh_pool, plan, grant_as}
use Rattle.model.specs.Calls.{Form, FormLaws, call_by, keeps, carried_by, unless}
use Rattle.model.proofs.Fresh.{set_up-done, set_up-sound}
use Rattle.model.proofs.Calls.{call-sound, same_room}
use Rattle.claims.specs.Bench.{TooLargeAnywhere}

-- on sound tables
too_large : (row : ℕ) (F : Form) → FormLaws row F → (a : List ℕ) (t : F.Kept) → F.sound (length a) t ≡ true
    → call_by row F a t (grants 131052) ≡ keeps (refusal TooLarge) a t
unfolding carried_by unless plan grant_as size_limit choose
too_large row F L a t s = call-sound row F a t s (grants 131052) tt ∙ ap (keeps (refusal TooLarge) a) (same_room row F a t s L)

pub too_large_anywhere : (row : ℕ) → 0 < row → (F : Form) → FormLaws row F → TooLargeAnywhere row F
too_large_anywhere row pos F L a t h =
    rw (set_up-done row F a t h)
    (too_large row F L (zeros (length a)) (F.encode (fresh_pool (length a / row))) (rw (zeros-length (length a)) (T_true _ (set_up-sound row F a t h L))))
