-- What a call is, case by case, whatever the form of the tables: unsound tables, a refusal, a grant, a block that is named.
use Rattle.model.specs.Blocks.{Damage}
use Rattle.mem.proofs.Prelude.{◌∙◌, ◌≡◌, sym, ap, refl, Bool, true, false, Option, Some, None, List, [], ℕ, ◌%◌, T, not, eqb, length, Ok, Err}
use Rattle.mem.proofs.Tests.{choose-true, choose-false, choose_case, not_so, T_true, true-T}
use Rattle.model.specs.declared.Refusal.{Refusal}
use Rattle.model.specs.State.{Pool, Place, is_live, count, use_bits, start_of}
use Rattle.model.specs.Answers.{refusal}
use Rattle.model.specs.Plans.{Plan, Call, measures, reports, is_set_up}
use Rattle.model.specs.Plans.{plan, on_block, by_handle, on_handle, lookup, measure_at}
use Rattle.model.specs.Plans.{measure, report}
use Rattle.model.specs.Calls.{Form, FormLaws, Outcome, applied, damaged, keeps, unsound, call_by, carried_by, checked_by, unless, written}

-- the calls but set up
abbrev pub Asks : Call → Type 0
Asks c = T (not (is_set_up c))

module _ (row : ℕ) (F : Form) (a : List ℕ) (t : F.Kept) where
  call-checked : (c : Call) → Asks c → call_by row F a t c ≡ checked_by row F a t c
  unfolding call_by
  call-checked c k = choose-false (is_set_up c) _ _ (not_so (is_set_up c) k)

  pub call-unsound : (c : Call) → Asks c → F.sound (length a) t ≡ false → call_by row F a t c ≡ keeps (unsound c) a t
  unfolding checked_by
  call-unsound c k e = call-checked c k ∙ choose-false (F.sound (length a) t) _ _ e

  module _ (s : F.sound (length a) t ≡ true) where
    pub call-sound : (c : Call) → Asks c → call_by row F a t c ≡ carried_by row F a t (plan row (F.view t) c)
    unfolding checked_by
    call-sound c k = call-checked c k ∙ choose-true (F.sound (length a) t) _ _ s

    -- what is lent is the form of what it says
    pub same_room : FormLaws row F → F.encode (F.view t) ≡ t
    same_room L = sym (L.only (length a) t (true-T (F.sound (length a) t) s)).1

-- a plan that names no block, and one that names a block that is not damaged, or is
module _ (row : ℕ) (F : Form) (a : List ℕ) (t : F.Kept) (p : Plan) where
  pub carried_whole : damaged row a p.checks ≡ Ok tt → carried_by row F a t p ≡ applied F a p
  unfolding carried_by unless
  carried_whole e = ap (λ d. unless d (applied F a p) (λ r. keeps (refusal r) a t)) e

  pub carried-damaged : (r : Refusal) → damaged row a p.checks ≡ Err r → carried_by row F a t p ≡ keeps (refusal r) a t
  unfolding carried_by unless
  carried-damaged r e = ap (λ d. unless d (applied F a p) (λ r. keeps (refusal r) a t)) e

-- a call on the block at a start, by what is looked up
pub on_live : (P : Pool) (f : Place → Plan) (p : Place) → T (is_live p.state) → on_block P f (Some p) ≡ f p
on_live P f p l = choose-true (is_live p.state) _ _ (T_true (is_live p.state) l)

-- ---- calls that change nothing

-- what a call leaves is what it was given
pub record LeftAsIs {R : Type 0} (a : List ℕ) (t : R) (r : Outcome R) : Type 0 where
  pub arena : r.arena ≡ a
  pub kept : r.kept ≡ t

module _ (row : ℕ) (F : Form) (L : FormLaws row F) (a : List ℕ) (t : F.Kept) where
  -- a call whose plan has no writes and keeps the state, refused or not
  left_as_is : (c : Call) → Asks c
      → ((plan row (F.view t) c).changes ≡ []) × ((plan row (F.view t) c).pool ≡ F.view t) → LeftAsIs a t (call_by row F a t c)
  left_as_is c k (e, f) = sounds (F.sound (length a) t) refl
    where
      kept : (r : Outcome F.Kept) → ((r.arena ≡ a) × (r.kept ≡ t)) → call_by row F a t c ≡ r → LeftAsIs a t (call_by row F a t c)
      kept r (x, y) z = record { arena = ap (λ (q : Outcome F.Kept). q.arena) z ∙ x; kept = ap (λ (q : Outcome F.Kept). q.kept) z ∙ y }

      p : Plan
      p = plan row (F.view t) c

      carries : F.sound (length a) t ≡ true → (d : Damage) → damaged row a p.checks ≡ d → LeftAsIs a t (call_by row F a t c)
      carries s (Ok tt) h =
          kept (applied F a p) (ap (written a) e, ap F.encode f ∙ same_room row F a t s L)
          (call-sound row F a t s c k ∙ carried_whole row F a t p h)
      carries s (Err r) h = kept (keeps (refusal r) a t) (refl, refl) (call-sound row F a t s c k ∙ carried-damaged row F a t p r h)

      sounds : (b : Bool) → F.sound (length a) t ≡ b → LeftAsIs a t (call_by row F a t c)
      sounds true s = carries s (damaged row a p.checks) refl
      sounds false s = kept (keeps (unsound c) a t) (refl, refl) (call-unsound row F a t c k s)

  pub measure-keeps : (h : ℕ) → LeftAsIs a t (call_by row F a t (measures h))
  unfolding plan measure on_handle
  measure-keeps h = left_as_is (measures h) tt (nothing (F.view t) (lookup row (F.view t) (start_of h)))
    where
      M : Pool → Plan → Type 0
      M P l = (l.changes ≡ []) × (l.pool ≡ P)

      nothing : (P : Pool) (x : Option Place) → M P (on_block P (by_handle P h (measure_at row P)) x)
      nothing P None = (refl, refl)
      nothing P (Some p) =
          choose_case (M P) (is_live p.state) _ _
          (λ _. choose_case (M P) (eqb (h % 16) (use_bits (count p.state))) _ _ (λ _. (refl, refl)) (λ _. (refl, refl))) (λ _. (refl, refl))

  pub report-keeps : LeftAsIs a t (call_by row F a t reports)
  unfolding plan report
  report-keeps = left_as_is reports tt (refl, refl)
