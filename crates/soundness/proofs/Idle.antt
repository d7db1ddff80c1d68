-- The masks of a group's first row tell which of its slots are not live: those that are ready, and those that wait.
use Rattle.mem.proofs.Prelude.{◌∙◌, ◌≡◌, sym, ap, refl, ap₂, true, Bool, false, not, ◌||◌, List, [], ◌∷◌, map, ℕ, ◌+◌, arith, eq-eqb, ne_eqb, eqb, ones}
use mathlib.Core.Bool.{or-true}
use Rattle.mem.specs.Lists.{any, sum}
use Rattle.mem.specs.Bytes.{mask, bit}
use Rattle.mem.proofs.Tests.{any-map}
use Rattle.mem.proofs.Masks.{mask-zero}
use Rattle.masks.specs.declared.Masks.{Masks}
use Rattle.model.specs.declared.Slot.{Slot}
use Rattle.model.specs.declared.Slot.TheVariants.{Fresh, Idle, Live}
use Rattle.model.specs.State.{is_ready, is_waiting, is_live}
use Rattle.model.specs.Tables.{masks_layout}
use Rattle.model.proofs.Tables.{group_few}
use Rattle.model.proofs.Counts.{mask-ones}
use Rattle.records.specs.Records.{masks_in}
use Rattle.records.proofs.Laws.{masks_of, masks-read}
use Rattle.walks.specs.Kept.{Kept}

not_live : (ss : List Slot) → (any is_ready ss || any is_waiting ss) ≡ any (λ x. not (is_live x)) ss
not_live [] = refl
not_live (Fresh ∷ ss) = refl
not_live (Idle true k d ∷ ss) = refl
not_live (Idle false k d ∷ ss) = or-true (any is_ready ss)
not_live (Live a ∷ ss) = not_live ss

idle_sum : (ss : List Slot) → sum (λ x. bit (is_ready x)) ss + sum (λ x. bit (is_waiting x)) ss ≡ sum (λ x. bit (not (is_live x))) ss
idle_sum [] = refl
idle_sum (Fresh ∷ ss) = omega (arith, idle_sum ss)
idle_sum (Idle true k d ∷ ss) = omega (arith, idle_sum ss)
idle_sum (Idle false k d ∷ ss) = omega (arith, idle_sum ss)
idle_sum (Live a ∷ ss) = omega (arith, idle_sum ss)

mask-any : (f : Slot → Bool) (ss : List Slot) → not (eqb (mask (map f ss)) 0) ≡ any f ss
mask-any f ss = ap not (mask-zero (map f ss)) ∙ twice (any (λ b. b) (map f ss)) ∙ any-map (λ b. b) f ss
  where
    twice : (b : Bool) → not (not b) ≡ b
    twice true = refl
    twice false = refl

-- m are the masks of a first row that keeps those slots
module _ {c : ℕ} {ss : List Slot} {t : List ℕ} (k : Kept masks_layout c ss t) (m : Masks) (e : m ≡ masks_in t) where
  told : m ≡ masks_of ss
  told = e ∙ ap masks_in k.bytes ∙ masks-read c ss k.rest (group_few c ss k.sound)

  either : (not (eqb m.ready 0) || not (eqb m.waiting 0)) ≡ any (λ x. not (is_live x)) ss
  either = rw told (ap₂ (λ a b. a || b) (mask-any is_ready ss) (mask-any is_waiting ss) ∙ not_live ss)

  pub ready_serve : (m.ready ≡ 0 → ⊥) → true ≡ any (λ x. not (is_live x)) ss
  ready_serve h = sym (ap (λ b. not b || not (eqb m.waiting 0)) (ne_eqb m.ready 0 h)) ∙ either

  pub waiting_serve : m.ready ≡ 0 → not (eqb m.waiting 0) ≡ any (λ x. not (is_live x)) ss
  waiting_serve h = sym (ap (λ b. not b || not (eqb m.waiting 0)) (eq-eqb m.ready 0 h)) ∙ either

  pub idle_counted : ones m.ready + ones m.waiting ≡ sum (λ x. bit (not (is_live x))) ss
  idle_counted = rw (told, mask-ones is_ready ss, mask-ones is_waiting ss) (idle_sum ss)
