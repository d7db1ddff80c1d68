-- What a grant takes is the lowest that serves, and where it takes nothing there is nothing.
use Rattle.mem.proofs.Prelude.{◌∙◌, ◌≡◌, sym, ap, refl, subst, true, Bool, false, ◌&&◌, not, true≢false, ⊎_elim, inl, inr, ◌⊎◌, Some, None, Option}
use Rattle.mem.proofs.Prelude.{List, [], ◌∷◌, ◌++◌, append_assoc, append-nil, ◌+◌, ℕ, ◌<◌, ◌≤◌, suc, zero, arith, T, eqb, eqb_refl, length, drop}
use Rattle.mem.proofs.Prelude.{replicate}
use Rattle.mem.specs.Lists.{choose, every, any, first}
use Rattle.mem.proofs.Tests.{T_true, and_left, and_right, and_both, every-left, choose-false, not_so}
use Rattle.classes.specs.Classes.{class_of, slots_of, rows_of}
use Rattle.classes.specs.Alignments.{enlarged}
use Rattle.classes.proofs.Laws.{rows_pos}
use Rattle.model.specs.declared.Slot.{Slot}
use Rattle.model.specs.declared.Slot.TheVariants.{Fresh, Idle, Live}
use Rattle.model.specs.State.{Span, Pool, Place, free, group, is_live, is_ready, well_formed, rows_in, rows}
use Rattle.model.specs.Plans.{Site, slots_in, opens, open_from, run, run_from, site_or, site, reserve_in, reserve, grant_in, fresh_pool, AllLive, NoPlace}
use Rattle.model.proofs.Rooms.{rows_append}
use Rattle.model.proofs.Reserve.{Open, open_found, New, run_found_lem, site_found_lem, Served, served}

all_live : (ss : List Slot) → any (λ x. not (is_live x)) ss ≡ false → T (every is_live ss)
all_live [] e = tt
all_live (Fresh ∷ ss) e = absurd (true≢false e)
all_live (Idle r k d ∷ ss) e = absurd (true≢false e)
all_live (Live a ∷ ss) e = all_live ss e

not_all_live : (ss : List Slot) → T (any (λ x. not (is_live x)) ss) → T (every is_live ss) → ⊥
not_all_live [] t u = t
not_all_live (Fresh ∷ ss) t u = u
not_all_live (Idle r k d ∷ ss) t u = u
not_all_live (Live a ∷ ss) t u = not_all_live ss t u

full_nil : (c : ℕ) → AllLive [] c
full_nil c [] Y ss e = let z : ◌≡◌ {A = ℕ} 0 1 = cc in absurd (omega arith)
full_nil c (x ∷ X) Y ss e = let z : ◌≡◌ {A = ℕ} 0 1 = cc in absurd (omega arith)

full_cons : (c : ℕ) (y : Span) (Y : Pool) → opens c y ≡ false → AllLive Y c → AllLive (y ∷ Y) c
unfolding opens
full_cons c y Y h f [] Z ss e =
    let q : y ≡ group c ss = cc in
    all_live ss (rw (T_true (eqb c c) (eqb_refl c)) at (subst (λ s. opens c s ≡ false) q h))
full_cons c y Y h f (w ∷ W) Z ss e = let q : Y ≡ W ++ (group c ss ∷ Z) = cc in f W Z ss q

-- spans none of which serves class c
abbrev pub Shut : ℕ → Pool → Type 0
Shut c R = T (every (λ s. not (opens c s)) R)

module _ (c : ℕ) where
  -- a search passes them by
  pub pass_shut : (X R Y : Pool) → Shut c R → open_from X c (R ++ Y) ≡ open_from (X ++ R) c Y
  pass_shut X [] Y h = ap (λ Z. open_from Z c Y) (sym (append-nil X))
  pass_shut X (s ∷ R) Y h =
      choose-false (opens c s) _ _ (not_so (opens c s) (and_left (not (opens c s)) (every (λ s. not (opens c s)) R) h))
      ∙ pass_shut (X ++ (s ∷ [])) R Y (and_right (not (opens c s)) (every (λ s. not (opens c s)) R) h)
      ∙ ap (λ Z. open_from Z c Y) (append_assoc X (s ∷ []) R)

  none_shut : (X Y : Pool) → open_from X c Y ≡ None → Shut c Y
  unfolding choose
  none_shut X [] e = tt
  none_shut X (y ∷ Y) e = go (opens c y) refl e (λ e. none_shut (X ++ (y ∷ [])) Y e)
    where
      go : (b : Bool) → opens c y ≡ b → choose b (Some (record { before = X; slots = slots_in y; after = Y })) (open_from (X ++ (y ∷ [])) c Y) ≡ None
          → (open_from (X ++ (y ∷ [])) c Y ≡ None → Shut c Y) → Shut c (y ∷ Y)
      go true h e k = let z : ◌≡◌ {A = ℕ} 0 1 = cc in absurd (omega arith)
      go false h e k = and_both (not (opens c y)) (every (λ s. not (opens c s)) Y) (rw h tt) (k e)

  some_shut : (X Y : Pool) (g : Site) → open_from X c Y ≡ Some g → (R : Pool) × (g.before ≡ X ++ R) × Shut c R
  unfolding choose
  some_shut X [] g e = let z : ◌≡◌ {A = ℕ} 0 1 = cc in absurd (omega arith)
  some_shut X (y ∷ Y) g e = go (opens c y) refl e (λ e. some_shut (X ++ (y ∷ [])) Y g e)
    where
      here : Site
      here = record { before = X; slots = slots_in y; after = Y }

      go : (b : Bool) → opens c y ≡ b → choose b (Some here) (open_from (X ++ (y ∷ [])) c Y) ≡ Some g
          → (open_from (X ++ (y ∷ [])) c Y ≡ Some g → (R : Pool) × (g.before ≡ (X ++ (y ∷ [])) ++ R) × Shut c R)
          → (R : Pool) × (g.before ≡ X ++ R) × Shut c R
      go true h e k = let z : here ≡ g = cc in ([], sym (ap (λ s. s.before) z) ∙ sym (append-nil X), tt)
      go false h e k =
          let (R, f, t) = k e in
          (y ∷ R, f ∙ append_assoc X (y ∷ []) R, and_both (not (opens c y)) (every (λ s. not (opens c s)) R) (rw h tt) t)

  -- their groups of the class are full
  shut_full : (R : Pool) → Shut c R → AllLive R c
  shut_full [] h = full_nil c
  shut_full (s ∷ R) h =
      full_cons c s R (not_so (opens c s) (and_left (not (opens c s)) (every (λ s. not (opens c s)) R) h))
      (shut_full R (and_right (not (opens c s)) (every (λ s. not (opens c s)) R) h))

pub open_none : (X Y : Pool) (c : ℕ) → open_from X c Y ≡ None → AllLive Y c
open_none X Y c e = shut_full c Y (none_shut c X Y e)

-- the groups that the search passed by are full
pub open_lowest : (X Y : Pool) (c : ℕ) (s : Site) → open_from X c Y ≡ Some s → (R : Pool) × (s.before ≡ X ++ R) × AllLive R c
open_lowest X Y c s e = let (R, f, h) = some_shut c X Y s e in (R, f, shut_full c R h)

run_there : (k : ℕ) (P Y : Pool) → P ≡ fresh_pool k ++ Y → T (run k P)
run_there zero P Y e = tt
run_there (suc k) [] Y e = let z : ◌≡◌ {A = ℕ} 0 1 = cc in absurd (omega arith)
run_there (suc k) (free ∷ P) Y e = let q : P ≡ fresh_pool k ++ Y = cc in run_there k P Y q
run_there (suc k) (group c ss ∷ P) Y e = let z : ◌≡◌ {A = ℕ} 0 1 = cc in absurd (omega arith)

no_run-nil : (k : ℕ) → 1 ≤ k → (X Y : Pool) → [] ≡ X ++ (fresh_pool k ++ Y) → ⊥
no_run-nil zero h X Y e = omega arith
no_run-nil (suc k) h [] Y e = let z : ◌≡◌ {A = ℕ} 0 1 = cc in omega arith
no_run-nil (suc k) h (x ∷ X) Y e = let z : ◌≡◌ {A = ℕ} 0 1 = cc in omega arith

module _ (row : ℕ) where
  -- no free rows follow one another in a pool, as many as a group of class c takes
  abbrev pub NoRun : Pool → ℕ → Type 0
  NoRun P c = (X Y : Pool) → P ≡ X ++ (fresh_pool (rows_of row c) ++ Y) → ⊥

  pub run_none : 0 < row → (X Y : Pool) (c : ℕ) → run_from row X c Y ≡ None → NoRun Y c
  unfolding choose
  run_none pos X [] c e = no_run-nil (rows_of row c) (rows_pos row c pos)
  run_none pos X (y ∷ Y) c e = go (run (rows_of row c) (y ∷ Y)) refl e (λ e. run_none pos (X ++ (y ∷ [])) Y c e)
    where
      here : Site
      here = record { before = X; slots = replicate (slots_of c) Fresh; after = drop (rows_of row c) (y ∷ Y) }

      go : (b : Bool) → run (rows_of row c) (y ∷ Y) ≡ b → choose b (Some here) (run_from row (X ++ (y ∷ [])) c Y) ≡ None
          → (run_from row (X ++ (y ∷ [])) c Y ≡ None → NoRun Y c) → NoRun (y ∷ Y) c
      go true h e r W Z q = let z : ◌≡◌ {A = ℕ} 0 1 = cc in omega arith
      go false h e r [] Z q = subst T h (run_there (rows_of row c) (y ∷ Y) Z q)
      go false h e r (w ∷ W) Z q = let p : Y ≡ W ++ (fresh_pool (rows_of row c) ++ Z) = cc in r e W Z p

  -- no run begins in a lower row
  pub run-lowest : (X Y : Pool) (c : ℕ) (s : Site) → run_from row X c Y ≡ Some s
      → (W Z : Pool) → Y ≡ W ++ (fresh_pool (rows_of row c) ++ Z) → rows row s.before ≤ rows row X + rows row W
  unfolding choose
  run-lowest X [] c s e = let z : ◌≡◌ {A = ℕ} 0 1 = cc in absurd (omega arith)
  run-lowest X (y ∷ Y) c s e = go (run (rows_of row c) (y ∷ Y)) refl e (λ e. run-lowest (X ++ (y ∷ [])) Y c s e)
    where
      here : Site
      here = record { before = X; slots = replicate (slots_of c) Fresh; after = drop (rows_of row c) (y ∷ Y) }

      go : (b : Bool) → run (rows_of row c) (y ∷ Y) ≡ b → choose b (Some here) (run_from row (X ++ (y ∷ [])) c Y) ≡ Some s
          → (run_from row (X ++ (y ∷ [])) c Y ≡ Some s → (W Z : Pool) → Y ≡ W ++ (fresh_pool (rows_of row c) ++ Z)
          → rows row s.before ≤ rows row (X ++ (y ∷ [])) + rows row W)
          → (W Z : Pool) → y ∷ Y ≡ W ++ (fresh_pool (rows_of row c) ++ Z) → rows row s.before ≤ rows row X + rows row W
      go true h e r W Z q = let p : here ≡ s = cc in omega (arith, ap (λ k. rows row k.before) p)
      go false h e r [] Z q = absurd (subst T h (run_there (rows_of row c) (y ∷ Y) Z q))
      go false h e r (w ∷ W) Z q =
          let p : Y ≡ W ++ (fresh_pool (rows_of row c) ++ Z) = cc in
          let j : y ≡ w = cc in
          omega (arith, r e W Z p, rows_append row X (y ∷ []), ap (rows_in row) j)

-- the slots before the first ready one are not ready
pub first-lowest : (us : List Slot) (x : Slot) (vs : List Slot) → length us ≡ first is_ready (us ++ (x ∷ vs)) → T (every (λ y. not (is_ready y)) us)
unfolding choose
first-lowest [] x vs e = tt
first-lowest (u ∷ us) x vs e = go (is_ready u) refl e (λ e. first-lowest us x vs e)
  where
    go : (b : Bool) → is_ready u ≡ b → suc (length us) ≡ choose b 0 (suc (first is_ready (us ++ (x ∷ vs))))
        → (length us ≡ first is_ready (us ++ (x ∷ vs)) → T (every (λ y. not (is_ready y)) us)) → T (not (is_ready u) && every (λ y. not (is_ready y)) us)
    go true h e r = absurd (omega arith)
    go false h e r = rw h (r (omega arith))

module _ (row : ℕ) where
  -- the group that serves is the lowest that could
  pub record OpenLowest (P : Pool) (c : ℕ) (s : Site) : Type 0 where
    pub there : Open P c s
    pub lowest : AllLive s.before c

  -- or none could, and the run is the lowest
  pub record NewLowest (P : Pool) (c : ℕ) (s : Site) : Type 0 where
    pub there : New row P c s
    pub full : AllLive P c
    pub lowest : (W Z : Pool) → P ≡ W ++ (fresh_pool (rows_of row c) ++ Z) → rows row s.before ≤ rows row W

  pub site-lowest : (P : Pool) (c : ℕ) (s : Site) → site row P c ≡ Some s → OpenLowest P c s ⊎ NewLowest P c s
  unfolding site
  site-lowest P c s e = go (open_from [] c P) refl e
    where
      go : (o : Option Site) → open_from [] c P ≡ o → site_or o (run_from row [] c P) ≡ Some s → OpenLowest P c s ⊎ NewLowest P c s
      go None h e =
          inr (record { there = run_found_lem row [] P c s e; full = open_none [] P c h; lowest = λ W Z q. omega (arith, run-lowest row [] P c s e W Z q) })
      go (Some r) h e =
          let (R, a, f) = open_lowest [] P c s (h ∙ e) in
          inl (record { there = open_found [] P c s (h ∙ e); lowest = subst (λ X. AllLive X c) (sym a) f })

  pub site-none : 0 < row → (P : Pool) (c : ℕ) → site row P c ≡ None → NoPlace row P c
  unfolding site
  site-none pos P c e = go (open_from [] c P) refl e
    where
      go : (o : Option Site) → open_from [] c P ≡ o → site_or o (run_from row [] c P) ≡ None → NoPlace row P c
      go None h e = record { all_live = open_none [] P c h; no_run = run_none row pos [] P c e }
      go (Some r) h e = let z : ◌≡◌ {A = ℕ} 0 1 = cc in absurd (omega arith)

  pub site-some : (P : Pool) (c : ℕ) (s : Site) → site row P c ≡ Some s → NoPlace row P c → ⊥
  site-some P c s e n =
      ⊎_elim (λ o. not_all_live s.slots o.room (n.all_live s.before s.after s.slots o.split))
      (λ m. n.no_run s.before s.after m.split)
      (site_found_lem row P c s e)

  -- a grant takes a place exactly if there is one
  pub reserve-none : 0 < row → (P : Pool) (k n : ℕ) → reserve row P k n ≡ None → NoPlace row P (class_of (enlarged k n))
  unfolding reserve
  reserve-none pos P k n e = go (site row P (class_of (enlarged k n))) refl e
    where
      go : (o : Option Site) → site row P (class_of (enlarged k n)) ≡ o → reserve_in row (class_of (enlarged k n)) k n o ≡ None
          → NoPlace row P (class_of (enlarged k n))
      go None h e = site-none pos P (class_of (enlarged k n)) h
      go (Some s) h e = let z : ◌≡◌ {A = ℕ} 0 1 = cc in absurd (omega arith)

  pub reserve-some : (P : Pool) (k n : ℕ) (q : Place) → reserve row P k n ≡ Some q → NoPlace row P (class_of (enlarged k n)) → ⊥
  unfolding reserve
  reserve-some P k n q e = go (site row P (class_of (enlarged k n))) refl e
    where
      go : (o : Option Site) → site row P (class_of (enlarged k n)) ≡ o → reserve_in row (class_of (enlarged k n)) k n o ≡ Some q
          → NoPlace row P (class_of (enlarged k n)) → ⊥
      go None h e = let z : ◌≡◌ {A = ℕ} 0 1 = cc in absurd (omega arith)
      go (Some s) h e = site-some P (class_of (enlarged k n)) s h

-- ---- the search goes on where the last one ended

module _ (row : ℕ) where
  -- no group before that of a grant serves its class
  site_shut : (P : Pool) (c : ℕ) (g : Site) → site row P c ≡ Some g → Shut c g.before
  unfolding site
  site_shut P c g e = go (open_from [] c P) refl e
    where
      go : (o : Option Site) → open_from [] c P ≡ o → site_or o (run_from row [] c P) ≡ Some g → Shut c g.before
      go None f e =
          let m : New row P c g = run_found_lem row [] P c g e in
          every-left (λ s. not (opens c s)) g.before (fresh_pool (rows_of row c) ++ g.after) (subst (Shut c) m.split (none_shut c [] P f))
      go (Some h) f e =
          let z : h ≡ g = cc in
          let (R, k, t) = some_shut c [] P g (f ∙ ap Some z) in
          subst (Shut c) (sym k) t

  pub grant_shut : (P : Pool) (k n : ℕ) (q : Place) → T (well_formed P) → reserve row P k n ≡ Some q → Shut (class_of (enlarged k n)) q.before
  unfolding grant_in
  grant_shut P k n q w e =
      let v : Served row P k n q = served row P k n q w e in
      subst (Shut (class_of (enlarged k n))) (sym (ap (λ p. p.before) v.place)) (site_shut P (class_of (enlarged k n)) v.at v.found)
