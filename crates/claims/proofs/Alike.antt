-- Two lawful forms are alike: each run is seen as the steps on the state alone.
use Rattle.mem.proofs.Prelude.{◌∙◌, ◌≡◌, sym, ap, refl, subst, List, [], ◌∷◌, ℕ, ◌<◌, ◌/◌, arith, T, length}
use Rattle.mem.specs.Bytes.{zeros, put}
use Rattle.mem.proofs.Laws.{put-length, zeros-length}
use Rattle.model.specs.State.{Pool}
use Rattle.model.specs.Answers.{done}
use Rattle.model.specs.Plans.{sets_up, fresh_pool}
use Rattle.model.specs.Tables.{masks_layout}
use Rattle.model.specs.Calls.{Form, Outcome, Stands, FormLaws, engine, call_by, set_up_right_by}
use Rattle.model.specs.Plain.{plain_form}
use Rattle.model.proofs.Fresh.{set_up_lawful, set_up-done}
use Rattle.model.proofs.Tables.{masks_laws}
use Rattle.model.proofs.Plain.{plain_lawful}
use Rattle.model.proofs.Kept.{layout_lawful, engine_lawful}
use Rattle.model.proofs.Forms.{step, in_room, call_step, Standing, step_stands, fresh_stands}
use Rattle.claims.specs.Alike.{Store, stored, Round, Seen, seen, seen_fresh, StoresAnywhere}
use Rattle.claims.specs.Alike.{FormsAlike, FirstLawful, MaskedLawful, SecondLawful, TwoEngines}
use Rattle.claims.proofs.Demand2.{set_up_accepted}

stored-length : (a : List ℕ) (ss : List Store) → length (stored a ss) ≡ length a
stored-length a [] = refl
stored-length a (s ∷ ss) = stored-length (put s.at s.bytes a) ss ∙ put-length s.at s.bytes a

pub stores_anywhere : StoresAnywhere
stores_anywhere [] [] e = refl
stores_anywhere [] (y ∷ ys) e = absurd (omega (arith, e))
stores_anywhere (x ∷ xs) [] e = absurd (omega (arith, e))
stores_anywhere (x ∷ xs) (y ∷ ys) e = ap (λ l. y ∷ l) (stores_anywhere xs ys (omega (arith, e)))

module _ (row : ℕ) (pos : 0 < row) where
  -- what is seen of a run, by the states alone
  unfoldable watched : List ℕ → Pool → List Round → List Seen
  watched a P [] = []
  watched a P (u ∷ us) =
      let o = step row (stored a u.stores) P u.asks in
      record { answer = o.answer; arena = o.arena } ∷ watched o.arena o.kept us

  run_watched : (F : Form) → FormLaws row F → (n : ℕ) (a : List ℕ) (P : Pool) (us : List Round) → length a ≡ n → Stands row n P
      → seen row F a (F.encode P) us ≡ watched a P us
  unfolding seen watched
  run_watched F L n a P [] e s = refl
  run_watched F L n a P (u ∷ us) e s =
      let b : List ℕ = stored a u.stores in
      let l : length b ≡ n = stored-length a u.stores ∙ e in
      let k : Standing row pos n b l P s (step row b P u.asks) = step_stands row pos n b l P s u.asks in
      let c : call_by row F b (F.encode P) u.asks ≡ in_room row F (step row b P u.asks) =
      call_step row F L b P (subst (λ m. Stands row m P) (sym l) s) u.asks in
      ap (λ (r : Outcome F.Kept). record { answer = r.answer; arena = r.arena } ∷ seen row F r.arena r.kept us) c
      ∙ ap (λ (vs : List Seen). record { answer = (step row b P u.asks).answer; arena = (step row b P u.asks).arena } ∷ vs)
      (run_watched F L n (step row b P u.asks).arena (step row b P u.asks).kept us k.long k.stands)

  -- from a set up of an arena of n bytes on
  abbrev watched_fresh : ℕ → List Round → List Seen
  watched_fresh n us = record { answer = done (0 ∷ []); arena = zeros n } ∷ watched (zeros n) (fresh_pool (n / row)) us

  set_up_watched : (F : Form) → FormLaws row F → (a : List ℕ) (t : F.Kept) (us : List Round) → (call_by row F a t sets_up).answer.number ≡ 0
      → seen_fresh row F a t us ≡ watched_fresh (length a) us
  unfolding call_by
  set_up_watched F L a t us z =
      let h : T (set_up_right_by row F a t) = set_up_accepted row pos F L a t z in
      let s : Stands row (length a) (fresh_pool (length a / row)) = fresh_stands row (length a) (set_up_lawful row F a t h) in
      ap (λ (r : Outcome F.Kept). record { answer = r.answer; arena = r.arena } ∷ seen row F r.arena r.kept us) (set_up-done row F a t h)
      ∙ ap (λ (vs : List Seen). record { answer = done (0 ∷ []); arena = zeros (length a) } ∷ vs)
      (run_watched F L (length a) (zeros (length a)) (fresh_pool (length a / row)) us (zeros-length (length a)) s)

  pub forms_alike : FormsAlike row
  forms_alike F G L M a b t v us h k e = set_up_watched F L a t us h ∙ ap (λ n. watched_fresh n us) e ∙ sym (set_up_watched G M b v us k)

  pub first_lawful : FirstLawful row
  first_lawful = engine_lawful row pos

  pub masked_lawful : MaskedLawful row
  masked_lawful = layout_lawful masks_layout masks_laws row pos

  pub second_lawful : SecondLawful row
  second_lawful = plain_lawful row pos

  pub two_engines : TwoEngines row
  two_engines = forms_alike (engine row) (plain_form row) first_lawful second_lawful
