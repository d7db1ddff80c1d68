-- What a call's plan is, case by case.
use Rattle.mem.proofs.Prelude.{◌∙◌, ◌≡◌, sym, ap, refl, subst, ⊎_elim, Some, None, Option, List, [], ◌∷◌, ◌++◌, ℕ, ◌<◌, ◌≤◌, arith, leb-false, T, leb}
use Rattle.mem.proofs.Prelude.{ltb, replicate}
use borrow.Author.Tests.{ltb-true}
use Rattle.mem.specs.Lists.{any}
use Rattle.mem.proofs.Tests.{choose_case, true-T}
use Rattle.classes.specs.Classes.{class_of, slots_of, rows_of, size_limit}
use Rattle.classes.specs.Alignments.{code_of, enlarged, Askable}
use Rattle.classes.proofs.Alignments.{code_most}
use Rattle.model.specs.declared.Slot.{Slot}
use Rattle.model.specs.declared.Slot.TheVariants.{Fresh}
use Rattle.model.specs.declared.Refusal.{Refusal}
use Rattle.model.specs.declared.Refusal.TheVariants.{BadArena, Unsound, TooLarge, NoSuchBlock, AlreadyFree, Stale, HeaderDamaged, Overrun, NoRoom}
use Rattle.model.specs.declared.Refusal.TheVariants.{NotInPlace, TooLong, BadProposal, BadAlignment}
use Rattle.model.specs.State.{Pool, Place, group, is_live, align, well_formed, start_of, pool_of, become, beginning, start, handle}
use Rattle.model.specs.Answers.{number_of, done}
use Rattle.model.specs.Plans.{Plan, Site, refused, refused_on, refill, grant_in, reserve, grant_at, grant_as, grant_aligned, lookup, on_handle, release_at, fits_in_place}
use Rattle.model.specs.Plans.{on_handle_for, resize_at, move_to, move_at, in_place_at, resize_in_place, move, fresh_pool}
use Rattle.model.specs.Plans.{Call, sets_up, grants, grants_aligned, releases, resizes_in_place, moves, measures, reports, grants_list}
use Rattle.model.proofs.Reserve.{Open, New, site_found_lem, Served, grant-live}
use Rattle.model.proofs.Lookup.{lookup_found}
use Rattle.model.proofs.Formed.{on_handle_lem, on_handle_for_lem}
use Rattle.model.proofs.Calls.{Asks}

-- no refusal's number is 0
pub refuses : (r : Refusal) → number_of r ≡ 0 → ⊥
refuses BadArena e = omega arith
refuses Unsound e = omega arith
refuses TooLarge e = omega arith
refuses NoSuchBlock e = omega arith
refuses AlreadyFree e = omega arith
refuses Stale e = omega arith
refuses HeaderDamaged e = omega arith
refuses Overrun e = omega arith
refuses NotInPlace e = omega arith
refuses NoRoom e = omega arith
refuses TooLong e = omega arith
refuses BadProposal e = omega arith
refuses BadAlignment e = omega arith

-- set up, and the other calls alike
pub by_call : (M : Call → Type 0) → M sets_up → ((c : Call) → Asks c → M c) → (c : Call) → M c
by_call M s f sets_up = s
by_call M s f (grants n) = f (grants n) tt
by_call M s f (grants_aligned n b) = f (grants_aligned n b) tt
by_call M s f (releases h) = f (releases h) tt
by_call M s f (resizes_in_place h n) = f (resizes_in_place h n) tt
by_call M s f (moves h n) = f (moves h n) tt
by_call M s f (measures h) = f (measures h) tt
by_call M s f reports = f reports tt
by_call M s f (grants_list total cap places ns) = f (grants_list total cap places ns) tt

-- a release, whether its group stays or goes
pub release_parts : (row : ℕ) (p : Place) → ((release_at row p).checks ≡ Some p) × ((release_at row p).answer ≡ done (0 ∷ []))
unfolding release_at
release_parts row p =
    choose_case (λ (r : Plan). (r.checks ≡ Some p) × (r.answer ≡ done (0 ∷ []))) (any is_live (p.lower ++ p.upper)) _ _
    (λ e. (refl, refl)) (λ e. (refl, refl))

-- the live block that a call names by its handle
pub record Named (row : ℕ) (P : Pool) (h : ℕ) (p : Place) : Type 0 where
  pub found : lookup row P (start_of h) ≡ Some p
  pub pool : pool_of p ≡ P
  pub live : T (is_live p.state)
  pub starts : start row p ≡ start_of h
  pub present : handle row p ≡ h

-- what holds of every refusal, and of what is done where nothing is refused
module _ (row : ℕ) (pos : 0 < row) (P : Pool) (M : Plan → Type 0) (no : (r : Refusal) → M (refused r P)) where
  pub on_named : (h : ℕ) (f : Place → Plan) → ((p : Place) → Named row P h p → M (f p)) → M (on_handle row P h f)
  on_named h f k =
      on_handle_lem row pos M P h f no
      (λ p e i l b. k p (record { found = e; pool = i; live = l; starts = (lookup_found row pos P (start_of h) p e).2; present = b }))

  -- a grant with an alignment that the tables keep
  pub on_grant : (k n : ℕ) → 1 ≤ k → k ≤ 9 → ((q : Place) → Askable k n → reserve row P k n ≡ Some q → M (grant_at row P (Some q)))
      → M (grant_as row P k n)
  unfolding grant_as
  on_grant k n s l f =
      choose_case M (leb size_limit (enlarged k n)) _ _ (λ e. no TooLarge)
      (λ e. go (record { some_code = s; last_code = l; small = leb-false size_limit (enlarged k n) e }) (reserve row P k n) refl)
    where
      go : Askable k n → (r : Option Place) → reserve row P k n ≡ r → M (grant_at row P r)
      go h None e = no NoRoom
      go h (Some q) e = f q h e

  -- an aligned grant is one of the alignment's code, if it has one
  pub on_aligned : (n b : ℕ) → ((q : Place) → Askable (code_of b) n → reserve row P (code_of b) n ≡ Some q → M (grant_at row P (Some q)))
      → M (grant_aligned row P n b)
  unfolding grant_aligned
  on_aligned n b f =
      choose_case M (ltb 0 (code_of b)) _ _ (λ e. on_grant (code_of b) n (ltb-true 0 (code_of b) e) (code_most b) f) (λ e. no BadAlignment)

  -- what is done with the block of a handle that is to have n bytes, which can be asked for
  on_named_for : T (well_formed P) → (h n : ℕ) (f : Place → Plan) → ((p : Place) → Named row P h p → Askable (align p.state) n → M (f p))
      → M (on_handle_for row P h n f)
  on_named_for w h n f k =
      on_handle_for_lem row pos M P h n f w no
      (λ p e i l b. k p (record { found = e; pool = i; live = l; starts = (lookup_found row pos P (start_of h) p e).2; present = b }))

  pub on_in_place : T (well_formed P) → (h n : ℕ) → ((p : Place) → Named row P h p → T (fits_in_place p n) → M (resize_at row p n))
      → ((p : Place) → Named row P h p → M (refused_on NotInPlace P p)) → M (resize_in_place row P h n)
  unfolding resize_in_place in_place_at
  on_in_place w h n here elsewhere =
      on_named_for w h n (in_place_at row P n)
      (λ p b _. choose_case M (fits_in_place p n) (resize_at row p n) (refused_on NotInPlace P p) (λ t. here p b (true-T (fits_in_place p n) t)) (λ _. elsewhere p b))

  -- a move asks for the block's own alignment
  pub on_move : T (well_formed P) → (h n : ℕ) → ((p : Place) → Named row P h p → M (refused_on NoRoom P p))
      → ((p q : Place) → Named row P h p → Askable (align p.state) n → reserve row P (align p.state) n ≡ Some q → M (move_to row P p n (Some q)))
      → M (move row P h n)
  unfolding move move_at
  on_move w h n full moved = on_named_for w h n (move_at row P n) (λ p b s. go p b s (reserve row P (align p.state) n) refl)
    where
      go : (p : Place) → Named row P h p → Askable (align p.state) n → (r : Option Place) → reserve row P (align p.state) n ≡ r
          → M (move_to row P p n r)
      go p b s None e = full p b
      go p b s (Some q) e = moved p q b s e

-- what a grant takes is live
pub reserve-live : (row : ℕ) (P : Pool) (k n : ℕ) (q : Place) → Served row P k n q → T (is_live q.state)
reserve-live row P k n q v =
    subst (λ x. T (is_live x)) (sym v.taken.state) (grant-live (class_of (enlarged k n)) k n (beginning row q) v.taken.old)

-- What a pool comes to is the same before a grant and with the slot that it takes in its old state, if slots that become ready, and a new
-- group, change nothing.
module _ {A : Type 0} (row : ℕ) (Q : Pool → A)
    (ready : (X : Pool) (c : ℕ) (ss : List Slot) (Y : Pool) → Q (X ++ (group c (refill ss) ∷ Y)) ≡ Q (X ++ (group c ss ∷ Y)))
    (new : (X : Pool) (c : ℕ) (Y : Pool) → Q (X ++ (group c (replicate (slots_of c) Fresh) ∷ Y)) ≡ Q (X ++ (fresh_pool (rows_of row c) ++ Y))) where
  pub taken-same : (P : Pool) (k n : ℕ) (q : Place) (v : Served row P k n q) → Q (pool_of (become q v.taken.old)) ≡ Q P
  unfolding grant_in
  taken-same P k n q v =
      let s : Site = v.at in
      let c : ℕ = class_of (enlarged k n) in
      let x : Slot = v.taken.old in
      let b : q.before ≡ s.before = ap (λ p. p.before) v.place in
      let d : q.after ≡ s.after = ap (λ p. p.after) v.place in
      let j : q.cls ≡ c = ap (λ p. p.cls) v.place in
      let r : refill s.slots ≡ q.lower ++ (x ∷ q.upper) = v.taken.slots in
      let e : pool_of (become q x) ≡ s.before ++ (group c (refill s.slots) ∷ s.after) = cc in
      ap Q e ∙ ready s.before c s.slots s.after
      ∙ ⊎_elim (λ (o : Open P c s). ap Q (sym o.split))
      (λ (m : New row P c s). ap (λ ss. Q (s.before ++ (group c ss ∷ s.after))) m.slots ∙ new s.before c s.after ∙ ap Q (sym m.split))
      (site_found_lem row P c s v.found)
