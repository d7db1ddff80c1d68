-- A live block that a call does not name is where it was after it, in the same state: so its handle stays.
use Rattle.mem.proofs.Prelude.{◌∙◌, ◌≡◌, sym, ap, refl, subst, Bool, not, ⊎_elim, inl, inr, ◌⊎◌, Some, List, [], ◌∷◌, ◌++◌, append_assoc, append-nil}
use Rattle.mem.proofs.Prelude.{ℕ, ◌<◌, arith, T, T_not, length, length-append, add-zero, lit≤}
use Rattle.mem.specs.Lists.{any, every}
use Rattle.mem.proofs.Tests.{and_left, every-left, every-right, every-not, choose_case}
use Rattle.mem.proofs.Splits.{Before, Within, Behind, splits}
use Rattle.classes.specs.Classes.{rows_of}
use Rattle.classes.specs.Alignments.{ordinary, code_of}
use Rattle.model.specs.declared.Slot.{Slot}
use Rattle.model.specs.State.{Pool, Place, group, is_live, align, well_formed, start_of, pool_of, become, rows, start, handle}
use Rattle.model.specs.Plans.{Plan, reserve, reserve_all, pool_after, vacant, release_at, release, discard}
use Rattle.model.specs.Plans.{resize_at, move_to, resize_in_place, move, measure_at, measure, report, fresh_pool, plan}
use Rattle.model.specs.Plans.{Call, sets_up, grants, grants_aligned, releases, resizes_in_place, moves, measures, reports, grants_list}
use Rattle.model.specs.Calls.{Form, FormLaws, Outcome, call_by}
use Rattle.model.proofs.Fresh.{fresh-rows}
use Rattle.model.proofs.Calls.{Asks}
use Rattle.model.proofs.Lookup.{placed, same-placed, group_of, lookup_found}
use Rattle.model.proofs.Stays.{slot_after, Stays, reserve-keeps, stays_before, stays_behind}
use Rattle.model.proofs.Moves.{live-granted, stays_start}
use Rattle.model.proofs.Lists.{small, by_grants, on_list}
use Rattle.model.proofs.Formed.{on_block_lem, plan_formed}
use Rattle.claims.specs.Demand1.{LiveAt}
use Rattle.claims.specs.Alignment.{sizes_in_place, sizes-move, Names, names_all, names_release, names_sized, OthersStay}
use Rattle.model.proofs.Handles.{stays_handle}
use Rattle.claims.proofs.Cases.{by_call, on_named, on_grant, on_aligned, on_in_place, on_move}
use Rattle.claims.proofs.Demand2.{Accepted, accepted}

-- an element of a list of one
alone : {A : Type 0} (X : List A) (m : A) (Y W : List A) (h : A) (Z : List A) → Within X (m ∷ []) Y W h Z → (W ≡ X) × (m ≡ h) × (Z ≡ Y)
alone X m Y W h Z ([], [], a, b, d) = (b ∙ append-nil X, cc, d)
alone X m Y W h Z ([], r ∷ R, a, b, d) = let z : ◌≡◌ {A = ℕ} 0 1 = cc in absurd (omega arith)
alone X m Y W h Z (l ∷ [], R, a, b, d) = let z : ◌≡◌ {A = ℕ} 0 1 = cc in absurd (omega arith)
alone X m Y W h Z (l ∷ k ∷ L, R, a, b, d) = let z : ◌≡◌ {A = ℕ} 0 1 = cc in absurd (omega arith)

-- ---- two places of one pool

-- the slots of one group: another slot is before one or behind it
abbrev Beside : Place → Place → Type 0
Beside p q =
    Before p.lower (p.state ∷ []) p.upper q.lower q.state q.upper
    ⊎ Behind p.lower (p.state ∷ []) p.upper q.lower q.state q.upper

-- another place in the group of one
record Together (p q : Place) : Type 0 where
  before : q.before ≡ p.before
  cls : q.cls ≡ p.cls
  after : q.after ≡ p.after
  slots : Beside p q

-- in a lower group, and in a higher one
abbrev Lower : Place → Place → Type 0
Lower p q = Before p.before (group_of p ∷ []) p.after q.before (group_of q) q.after

abbrev Higher : Place → Place → Type 0
Higher p q = Behind p.before (group_of p ∷ []) p.after q.before (group_of q) q.after

-- another place of the pool: in a lower group, in the same, or in a higher one
elsewhere : (p q : Place) → pool_of q ≡ pool_of p → (q ≡ p → ⊥) → Lower p q ⊎ (Together p q ⊎ Higher p q)
elsewhere p q e other =
    ⊎_elim inl (λ x. inr (⊎_elim (λ y. inl (inside y)) inr x)) (splits p.before (group_of p ∷ []) p.after q.before (group_of q) q.after (sym e))
  where
    beside : q.before ≡ p.before → q.cls ≡ p.cls → q.after ≡ p.after → p.lower ++ (p.state ∷ p.upper) ≡ q.lower ++ (q.state ∷ q.upper)
        → Beside p q
    beside b c a l =
        ⊎_elim inl
        (λ x. ⊎_elim (λ y.
        let u = alone p.lower p.state p.upper q.lower q.state q.upper y in
        absurd (other (same-placed b c u.0 (sym u.1) u.2 a))) inr x)
        (splits p.lower (p.state ∷ []) p.upper q.lower q.state q.upper l)

    inside : Within p.before (group_of p ∷ []) p.after q.before (group_of q) q.after → Together p q
    inside y =
        let u = alone p.before (group_of p) p.after q.before (group_of q) q.after y in
        let g : group_of p ≡ group_of q = u.1 in
        let c : q.cls ≡ p.cls = cc in
        let l : p.lower ++ (p.state ∷ p.upper) ≡ q.lower ++ (q.state ∷ q.upper) = cc in
        record { before = u.0; cls = c; after = u.2; slots = beside u.0 c u.2 l }

module _ (row : ℕ) where
  -- a slot in a pool, where another has it
  abbrev pub KeptIn : Pool → Place → Type 0
  KeptIn Q p = (q : Place) × (pool_of q ≡ Q) × Stays row p q

  -- in the pool as it is
  as_it_is : (P : Pool) (p : Place) → pool_of p ≡ P → KeptIn P p
  as_it_is P p e = (p, e, record { slot = record { first = refl; cls = refl; number = refl }; state = refl })

  -- one change after another
  stays_twice : (p q r : Place) → Stays row p q → Stays row q r → Stays row p r
  stays_twice p q r s u = record { slot = slot_after row p q r s.slot u.slot; state = u.state ∙ s.state }

  -- ---- one slot changes, or one group's rows become free

  -- another slot of the group, where one becomes x
  beside_kept : (p : Place) (x : Slot) (q : Place) → Together p q → KeptIn (pool_of (become p x)) q
  beside_kept p x q t = ⊎_elim low high t.slots
    where
      kept : (us vs : List Slot) → us ++ (q.state ∷ vs) ≡ p.lower ++ (x ∷ p.upper) → length us ≡ length q.lower → KeptIn (pool_of (become p x)) q
      kept us vs e l = (
        placed p.before p.cls us q.state vs p.after,
        ap (λ s. p.before ++ (group p.cls s ∷ p.after)) e,
        record { slot = record { first = ap (rows row) (sym t.before); cls = sym t.cls; number = l }; state = refl },
      )

      low : Before p.lower (p.state ∷ []) p.upper q.lower q.state q.upper → KeptIn (pool_of (become p x)) q
      low (R, a, b) =
          kept q.lower (R ++ (x ∷ p.upper)) (sym (append_assoc q.lower (q.state ∷ R) (x ∷ p.upper)) ∙ ap (λ z. z ++ (x ∷ p.upper)) (sym a)) refl

      high : Behind p.lower (p.state ∷ []) p.upper q.lower q.state q.upper → KeptIn (pool_of (become p x)) q
      high (R, a, b) =
          kept (p.lower ++ (x ∷ R)) q.upper (append_assoc p.lower (x ∷ R) (q.state ∷ q.upper) ∙ ap (λ z. p.lower ++ (x ∷ z)) (sym b))
          (omega (arith, ap length a, length-append p.lower (x ∷ R), length-append p.lower (p.state ∷ R)))

  -- any other slot of the pool
  pub become-keeps : (p : Place) (x : Slot) (q : Place) → pool_of q ≡ pool_of p → (q ≡ p → ⊥) → KeptIn (pool_of (become p x)) q
  become-keeps p x q e other =
      ⊎_elim (stays_before row p.before (group_of p ∷ []) (group_of (become p x) ∷ []) p.after refl q)
      (⊎_elim (beside_kept p x q) (stays_behind row p.before (group_of p ∷ []) (group_of (become p x) ∷ []) p.after refl q))
      (elsewhere p q e other)

  -- no other slot of the group is live, so a live one is in another group
  apart : (p q : Place) → T (every (λ z. not (is_live z)) (p.lower ++ p.upper)) → T (is_live q.state) → Together p q → ⊥
  apart p q n l t = ⊎_elim (λ (R, a, b). dead q.lower R p.lower a (every-left idle p.lower p.upper n))
      (λ (R, a, b). dead R q.upper p.upper b (every-right idle p.lower p.upper n)) t.slots
    where
      idle : Slot → Bool
      idle z = not (is_live z)

      dead : (us vs ss : List Slot) → ss ≡ us ++ (q.state ∷ vs) → T (every idle ss) → ⊥
      dead us vs ss e h =
          T_not (is_live q.state) (and_left (idle q.state) (every idle vs) (every-right idle us (q.state ∷ vs) (subst (λ z. T (every idle z)) e h))) l

  -- any other live slot, where a group with no other live slot goes
  freed_keeps : (p : Place) (q : Place) → pool_of q ≡ pool_of p → (q ≡ p → ⊥) → T (every (λ z. not (is_live z)) (p.lower ++ p.upper))
      → T (is_live q.state) → KeptIn (p.before ++ (fresh_pool (rows_of row p.cls) ++ p.after)) q
  freed_keeps p q e other n l =
      ⊎_elim (stays_before row p.before (group_of p ∷ []) F p.after long q)
      (⊎_elim (λ t. absurd (apart p q n l t)) (stays_behind row p.before (group_of p ∷ []) F p.after long q))
      (elsewhere p q e other)
    where
      F : Pool
      F = fresh_pool (rows_of row p.cls)

      long : rows row F ≡ rows row (group_of p ∷ [])
      long = fresh-rows row (rows_of row p.cls) ∙ sym (add-zero (rows_of row p.cls))

  -- ---- calls

  module _ (pos : 0 < row) where
    -- a live block at another start than the one that is given back
    given_back : (p q : Place) → pool_of q ≡ pool_of p → T (is_live q.state) → (start row q ≡ start row p → ⊥) → KeptIn (release_at row p).pool q
    unfolding release_at
    given_back p q e l other =
        let d : q ≡ p → ⊥ = λ z. other (ap (start row) z) in
        choose_case (λ (r : Plan). KeptIn r.pool q) (any is_live (p.lower ++ p.upper)) _ _ (λ _. become-keeps p (vacant p) q e d)
        (λ n. freed_keeps p q e d (every-not is_live (p.lower ++ p.upper) n) l)

    pub discard-keeps : (P : Pool) (o q : Place) → pool_of q ≡ P → T (is_live q.state) → (start row q ≡ start row o → ⊥)
        → KeptIn (discard row P o).pool q
    unfolding discard
    discard-keeps P o q e l other =
        on_block_lem row pos (λ (r : Plan). KeptIn r.pool q) P (start row o) (release_at row) (as_it_is P q e) (as_it_is P q e)
        (λ p f i _. given_back p q (e ∙ sym i) l (λ z. other (z ∙ (lookup_found row pos P (start row o) p f).2)))

    release-keeps : (P : Pool) (h : ℕ) (q : Place) → pool_of q ≡ P → T (is_live q.state) → (start row q ≡ start_of h → ⊥) → KeptIn (release row P h).pool q
    unfolding release
    release-keeps P h q e l other =
        on_named row pos P (λ (r : Plan). KeptIn r.pool q) (λ _. as_it_is P q e) h (release_at row)
        (λ p b. given_back p q (e ∙ sym b.pool) l (λ z. other (z ∙ b.starts)))

    module _ (P : Pool) (w : T (well_formed P)) (p : Place) (e : pool_of p ≡ P) (l : T (is_live p.state)) where
      -- what is kept of a plan
      abbrev Keeps : Plan → Type 0
      Keeps r = KeptIn r.pool p

      -- a move is a grant, then a release of the old block
      move-keeps : (old q : Place) (n : ℕ) → (start row p ≡ start row old → ⊥) → reserve row P (align old.state) n ≡ Some q
          → Keeps (move_to row P old n (Some q))
      move-keeps old q n other f =
          let (p', a, s) = reserve-keeps row P (align old.state) n q w f p e l in
          let (p'', b, u) =
          discard-keeps (pool_of q) old p' a (subst (λ x. T (is_live x)) (sym s.state) l) (λ z. other (sym (stays_start row p p' s) ∙ z)) in
          (p'', b, stays_twice p p' p'' s u)

      -- in place another slot changes
      in_place-keeps : (h n : ℕ) → (start row p ≡ start_of h → ⊥) → Keeps (resize_in_place row P h n)
      unfolding resize_at
      in_place-keeps h n other =
          on_in_place row pos P Keeps (λ _. as_it_is P p e) w h n
          (λ old b _. become-keeps old _ p (e ∙ sym b.pool) (λ z. other (ap (start row) z ∙ b.starts))) (λ _ _. as_it_is P p e)

      -- another block moves
      moves-keeps : (h n : ℕ) → (start row p ≡ start_of h → ⊥) → Keeps (move row P h n)
      moves-keeps h n other =
          on_move row pos P Keeps (λ _. as_it_is P p e) w h n (λ _ _. as_it_is P p e) (λ old q b _ f. move-keeps old q n (λ z. other (z ∙ b.starts)) f)

    -- grants, one after the other
    list-keeps : (P : Pool) (ns : List ℕ) (qs : List Place) → T (well_formed P) → T (small ns) → reserve_all row P ns ≡ Some qs → (p : Place) → pool_of p ≡ P
        → T (is_live p.state) → KeptIn (pool_after P qs) p
    list-keeps =
        by_grants row (λ P ns qs. (p : Place) → pool_of p ≡ P → T (is_live p.state) → KeptIn (pool_after P qs) p) (λ P p e l. as_it_is P p e)
        (λ P n ns q qs w h r k p e l.
        let (p', a, s) = reserve-keeps row P ordinary n q w r p e l in
        let (p'', b, u) = k p' a (subst (λ x. T (is_live x)) (sym s.state) l) in
        (p'', b, stays_twice p p' p'' s u))

    -- a live block that a call does not name is in the pool that its plan leaves, refused or not
    pub plan-keeps : (P : Pool) → T (well_formed P) → (p : Place) → pool_of p ≡ P → T (is_live p.state) → (c : Call) → (Names c (start row p) → ⊥)
        → KeptIn (plan row P c).pool p
    unfolding plan measure report
    plan-keeps P w p e l sets_up other = absurd (other names_all)
    plan-keeps P w p e l (grants n) other =
        on_grant row pos P (Keeps P w p e l) (λ _. as_it_is P p e) ordinary n (lit≤ tt) (lit≤ tt) (λ q _ f. reserve-keeps row P ordinary n q w f p e l)
    plan-keeps P w p e l (grants_aligned n b) other =
        on_aligned row pos P (Keeps P w p e l) (λ _. as_it_is P p e) n b (λ q _ f. reserve-keeps row P (code_of b) n q w f p e l)
    plan-keeps P w p e l (releases h) other = release-keeps P h p e l (λ z. other (names_release (sym z)))
    plan-keeps P w p e l (resizes_in_place h n) other = in_place-keeps P w p e l h n (λ z. other (names_sized sizes_in_place (sym z)))
    plan-keeps P w p e l (moves h n) other = moves-keeps P w p e l h n (λ z. other (names_sized sizes-move (sym z)))
    plan-keeps P w p e l (measures h) other =
        on_named row pos P (Keeps P w p e l) (λ _. as_it_is P p e) h (measure_at row P) (λ _ _. as_it_is P p e)
    plan-keeps P w p e l reports other = as_it_is P p e
    plan-keeps P w p e l (grants_list total cap places ns) other =
        on_list row (Keeps P w p e l) P total cap places ns (λ _. as_it_is P p e) (λ qs h f. list-keeps P ns qs w h f p e l)

-- ---- tables

-- a live slot of a pool, by its start
pub live_at : (row : ℕ) (P : Pool) (o : ℕ) (p : Place) → pool_of p ≡ P → T (is_live p.state) → start row p ≡ o → LiveAt row P o p
live_at row P o p e l s = record {
  here = record { slotted = record { pool = e; granted_once = live-granted p.state l }; starts = s };
  live = l;
}

module _ (row : ℕ) (pos : 0 < row) (F : Form) (L : FormLaws row F) (a : List ℕ) (t : F.Kept) where
  -- sound tables say a well-formed pool
  pub sound_formed : T (F.sound (length a) t) → T (well_formed (F.view t))
  sound_formed s = (L.only (length a) t s).0.formed

  -- the tables that an accepted call leaves say the pool of its plan
  pub accepted_pool : (c : Call) → Accepted row pos F L a t c → F.view (call_by row F a t c).kept ≡ (plan row (F.view t) c).pool
  accepted_pool c y =
      ap (λ (r : Outcome F.Kept). F.view r.kept) y.left
      ∙ L.says _ (plan_formed row pos (F.view t) c (sound_formed y.sound-tables)).formed

  -- a live block that an accepted call does not name, in the tables that it leaves
  stays : (c : Call) → Asks c → (call_by row F a t c).answer.number ≡ 0 → (o : ℕ) (p : Place) → LiveAt row (F.view t) o p → (Names c o → ⊥)
      → (q : Place) × LiveAt row (F.view (call_by row F a t c).kept) o q × (handle row q ≡ handle row p) × (q.state ≡ p.state)
  stays c k z o p l other =
      let y : Accepted row pos F L a t c = accepted row pos F L a t c k z in
      let (q, e, s) =
      plan-keeps row pos (F.view t) (sound_formed y.sound-tables) p l.here.slotted.pool l.live c
      (subst (λ i. Names c i → ⊥) (sym l.here.starts) other) in (
        q,
        live_at row _ o q (e ∙ sym (accepted_pool c y)) (subst (λ x. T (is_live x)) (sym s.state) l.live) (stays_start row p q s ∙ l.here.starts),
        stays_handle row p q s,
        s.state,
      )

-- a set up names every block
pub others_stay : (row : ℕ) → 0 < row → (F : Form) → FormLaws row F → OthersStay row F
others_stay row pos F L a t c o p z l other =
    by_call (λ c. (call_by row F a t c).answer.number ≡ 0 → (Names c o → ⊥)
    → (q : Place) × LiveAt row (F.view (call_by row F a t c).kept) o q × (handle row q ≡ handle row p) × (q.state ≡ p.state))
    (λ _ other. absurd (other names_all)) (λ c k z other. stays row pos F L a t c k z o p l other) c z other
