-- What a grant makes of the slots of a pool: the one that it takes is not live before it and steps its count, any other keeps its count and
-- displacement, and a live one its state. So it leaves every live block where it is.
use Rattle.mem.proofs.Prelude.{◌∙◌, ◌≡◌, sym, ap, refl, subst, true, false, true≢false, ⊎_elim, inl, inr, ◌⊎◌, Some, List, [], ◌∷◌}
use Rattle.mem.proofs.Prelude.{◌++◌, append_assoc, map, append-nil, ◌+◌, ℕ, ◌<◌, ◌%◌, suc, zero, add-zero, arith, T}
use Rattle.mem.proofs.Prelude.{length, length-append, length-map}
use mathlib.Core.List.{map-append}
use Rattle.mem.specs.Lists.{any}
use Rattle.mem.proofs.Tests.{choose_case}
use Rattle.mem.proofs.Splits.{Before, Within, Behind, splits}
use Rattle.classes.specs.Classes.{class_of, rows_of}
use Rattle.classes.specs.Alignments.{enlarged}
use Rattle.classes.proofs.Laws.{rows_pos}
use Rattle.model.specs.declared.Slot.{Slot}
use Rattle.model.specs.declared.Slot.TheVariants.{Fresh, Idle, Live}
use Rattle.model.specs.State.{Span, Pool, Place, free, group, is_live, is_ready, count, disp, well_formed, pool_of, become, rows, SameSlot}
use Rattle.model.specs.Plans.{Site, turn_ready, refill, grant_slot, grant_in, reserve, fresh_pool}
use Rattle.model.proofs.Rooms.{rows_append}
use Rattle.model.proofs.Fresh.{fresh-rows}
use Rattle.model.proofs.Lookup.{placed, group_of, InRows, span_unique, split_unique}
use Rattle.model.proofs.Reserve.{Open, New, site_found_lem, Taken, Served, served}

-- ---- one slot of several pools

module _ (row : ℕ) where
  pub slot_after : (p q r : Place) → SameSlot row p q → SameSlot row q r → SameSlot row p r
  slot_after p q r s u = record { first = u.first ∙ s.first; cls = u.cls ∙ s.cls; number = u.number ∙ s.number }

  pub slot_back : (p q : Place) → SameSlot row p q → SameSlot row q p
  slot_back p q s = record { first = sym s.first; cls = sym s.cls; number = sym s.number }

  -- a slot is the same whatever its state
  pub slot_become : (p : Place) (x : Slot) (q : Place) → SameSlot row p q → SameSlot row (become p x) q
  slot_become p x q s = record { first = s.first; cls = s.cls; number = s.number }

-- in the same state
pub record Stays (row : ℕ) (p q : Place) : Type 0 where
  pub slot : SameSlot row p q
  pub state : q.state ≡ p.state

-- ---- a slot before a grant and after it

-- one that the grant does not take: at most it becomes ready
pub record Kept (x y : Slot) : Type 0 where
  pub counts : count y ≡ count x
  pub disps : disp y ≡ disp x
  pub lives : is_live y ≡ is_live x
  pub same : T (is_live x) → y ≡ x

-- the one that it takes
pub record Granted (x y : Slot) : Type 0 where
  pub counts : count y ≡ (count x + 1) % 256
  pub idle : is_live x ≡ false
  pub lives : is_live y ≡ true

abbrev pub Goes : Slot → Slot → Type 0
Goes x y = Kept x y ⊎ Granted x y

pub as_was : (x : Slot) → Kept x x
as_was x = record { counts = refl; disps = refl; lives = refl; same = λ _. refl }

turned : (x : Slot) → Kept x (turn_ready x)
turned Fresh = as_was Fresh
turned (Idle r k d) = record { counts = refl; disps = refl; lives = refl; same = λ l. absurd l }
turned (Live a) = as_was (Live a)

ready_idle : (x : Slot) → T (is_ready x) → is_live x ≡ false
ready_idle Fresh r = refl
ready_idle (Idle b k d) r = refl
ready_idle (Live a) r = absurd r

-- one grant after another
pub goes_twice : (x y z : Slot) → Goes x y → Goes y z → Goes x z
goes_twice x y z (inl a) (inl b) = inl (record {
  counts = b.counts ∙ a.counts;
  disps = b.disps ∙ a.disps;
  lives = b.lives ∙ a.lives;
  same = λ l. b.same (subst T (sym a.lives) l) ∙ a.same l;
})
goes_twice x y z (inl a) (inr b) = inr (record { counts = b.counts ∙ ap (λ k. (k + 1) % 256) a.counts; idle = sym a.lives ∙ b.idle; lives = b.lives })
goes_twice x y z (inr a) (inl b) = inr (record { counts = b.counts ∙ a.counts; idle = a.idle; lives = b.lives ∙ a.lives })
goes_twice x y z (inr a) (inr b) = absurd (true≢false (sym a.lives ∙ b.idle))

-- a slot stays at its number in a refill
refilled : (us : List Slot) (x : Slot) (vs : List Slot)
    → (us' : List Slot) × (y : Slot) × (vs' : List Slot) × (refill (us ++ (x ∷ vs)) ≡ us' ++ (y ∷ vs')) × (length us' ≡ length us) × Kept x y
unfolding refill
refilled us x vs =
    choose_case (λ l. (us' : List Slot) × (y : Slot) × (vs' : List Slot) × (l ≡ us' ++ (y ∷ vs')) × (length us' ≡ length us) × Kept x y)
    (any is_ready (us ++ (x ∷ vs))) _ _ (λ e. (us, x, vs, refl, refl, as_was x))
    (λ e. (map turn_ready us, turn_ready x, map turn_ready vs, map-append turn_ready us (x ∷ vs), length-map us turn_ready, turned x))

pub no_group : (k c : ℕ) (ss : List Slot) (L R : Pool) → fresh_pool k ≡ L ++ (group c ss ∷ R) → ⊥
no_group zero c ss [] R e = let z : ◌≡◌ {A = ℕ} 0 1 = cc in omega arith
no_group zero c ss (l ∷ L) R e = let z : ◌≡◌ {A = ℕ} 0 1 = cc in omega arith
no_group (suc k) c ss [] R e = let z : ◌≡◌ {A = ℕ} 0 1 = cc in omega arith
no_group (suc k) c ss (l ∷ L) R e = let q : fresh_pool k ≡ L ++ (group c ss ∷ R) = cc in no_group k c ss L R q

-- a place outside the part of a pool that another part of as many rows takes the place of
module _ (row : ℕ) (X M N Y : Pool) (long : rows row N ≡ rows row M) (p : Place) where
  pub stays_before : Before X M Y p.before (group_of p) p.after → (q : Place) × (pool_of q ≡ X ++ (N ++ Y)) × Stays row p q
  stays_before (R, e, f) = (
    placed p.before p.cls p.lower p.state p.upper (R ++ (N ++ Y)),
    sym (append_assoc p.before (group_of p ∷ R) (N ++ Y)) ∙ ap (λ Z. Z ++ (N ++ Y)) (sym e),
    record { slot = record { first = refl; cls = refl; number = refl }; state = refl },
  )

  pub stays_behind : Behind X M Y p.before (group_of p) p.after → (q : Place) × (pool_of q ≡ X ++ (N ++ Y)) × Stays row p q
  stays_behind (R, e, f) = (
    placed (X ++ (N ++ R)) p.cls p.lower p.state p.upper p.after,
    append_assoc X (N ++ R) (group_of p ∷ p.after)
        ∙ ap (λ Z. X ++ Z) (append_assoc N R (group_of p ∷ p.after) ∙ ap (λ Z. N ++ Z) (sym f)),
    record {
      slot = record {
        first =
            omega (arith, ap (rows row) e, rows_append row X (N ++ R), rows_append row N R, rows_append row X (M ++ R), rows_append row M R);
        cls = refl;
        number = refl;
      };
      state = refl;
    },
  )

only : {A : Type 0} (m : A) (L : List A) (h : A) (R : List A) → m ∷ [] ≡ L ++ (h ∷ R) → (L ≡ []) × (m ≡ h) × (R ≡ [])
only m [] h R e = (refl, cc, cc)
only m (l ∷ []) h R e = let z : ◌≡◌ {A = ℕ} 0 1 = cc in absurd (omega arith)
only m (l ∷ k ∷ L) h R e = let z : ◌≡◌ {A = ℕ} 0 1 = cc in absurd (omega arith)

-- in the group that serves, one slot becomes live
module _ (row : ℕ) (c j n : ℕ) (s : Site) (q : Place) (k : Taken row c j n s q) where
  -- the slot that is taken
  taken_goes : (x : Slot) → Kept x k.old → Goes x q.state
  unfolding grant_slot
  taken_goes x h = inr (record {
    counts = ap count k.state ∙ ap (λ m. (m + 1) % 256) h.counts;
    idle = sym h.lives ∙ ready_idle k.old k.ready;
    lives = ap is_live k.state;
  })

  -- slot x of the group, which has the number of us before it
  abbrev GoesBeside : List Slot → Slot → Type 0
  GoesBeside us x = (ls : List Slot) × (y : Slot) × (hs : List Slot) × (q.lower ++ (q.state ∷ q.upper) ≡ ls ++ (y ∷ hs)) × (length ls ≡ length us) × Goes x y

  goes_beside : (us : List Slot) (x : Slot) (vs : List Slot) → s.slots ≡ us ++ (x ∷ vs) → GoesBeside us x
  goes_beside us x vs e =
      let (us', y, vs', f, l, h) = refilled us x vs in
      let g : q.lower ++ ((k.old ∷ []) ++ q.upper) ≡ us' ++ (y ∷ vs') = sym k.slots ∙ ap refill e ∙ f in
      ⊎_elim
      (λ (R, a, b). (
        us',
        y,
        R ++ (q.state ∷ q.upper),
        ap (λ z. z ++ (q.state ∷ q.upper)) a ∙ append_assoc us' (y ∷ R) (q.state ∷ q.upper),
        l,
        inl h,
      ))
      (λ w. ⊎_elim
      (λ (L, R, a, b, d).
      let u : (L ≡ []) × (k.old ≡ y) × (R ≡ []) = only k.old L y R a in (
        q.lower,
        q.state,
        q.upper,
        refl,
        sym (ap length (b ∙ ap (λ z. q.lower ++ z) u.0 ∙ append-nil q.lower)) ∙ l,
        taken_goes x (subst (Kept x) (sym u.1) h),
      ))
      (λ (R, a, b). (
        q.lower ++ (q.state ∷ R),
        y,
        vs',
        ap (λ z. q.lower ++ (q.state ∷ z)) b ∙ sym (append_assoc q.lower (q.state ∷ R) (y ∷ vs')),
        omega (arith, l, ap length a, length-append q.lower (k.old ∷ R), length-append q.lower (q.state ∷ R)),
        inl h,
      )) w)
      (splits q.lower (k.old ∷ []) q.upper us' y vs' g)

-- a slot of a pool in another pool, as a grant leaves it
abbrev pub GoesIn : ℕ → Pool → Place → Type 0
GoesIn row Q p = (p' : Place) × (pool_of p' ≡ Q) × SameSlot row p p' × Goes p.state p'.state

stays_goes : (row : ℕ) (Q : Pool) (p : Place) → (p' : Place) × (pool_of p' ≡ Q) × Stays row p p' → GoesIn row Q p
stays_goes row Q p (p', a, s) = (p', a, s.slot, inl (subst (Kept p.state) (sym s.state) (as_was p.state)))

module _ (row : ℕ) (P : Pool) (j n : ℕ) (q : Place) (w : T (well_formed P)) (r : reserve row P j n ≡ Some q) where
  -- a slot of the pool in the pool that a grant makes
  pub reserve_goes : (p : Place) → pool_of p ≡ P → GoesIn row (pool_of q) p
  unfolding grant_in
  reserve_goes p e = ⊎_elim opened made (site_found_lem row P c s v.found)
    where
      c : ℕ
      c = class_of (enlarged j n)

      v : Served row P j n q
      v = served row P j n q w r

      s : Site
      s = v.at

      g : Span
      g = group c (q.lower ++ (q.state ∷ q.upper))

      pool : s.before ++ (g ∷ s.after) ≡ pool_of q
      pool =
          let b : q.before ≡ s.before = ap (λ p. p.before) v.place in
          let a : q.after ≡ s.after = ap (λ p. p.after) v.place in
          let i : q.cls ≡ c = ap (λ p. p.cls) v.place in
          cc

      onto : GoesIn row (s.before ++ (g ∷ s.after)) p → GoesIn row (pool_of q) p
      onto (p', a, b, h) = (p', a ∙ pool, b, h)

      elsewhere : (p' : Place) × (pool_of p' ≡ s.before ++ (g ∷ s.after)) × Stays row p p' → GoesIn row (pool_of q) p
      elsewhere x = onto (stays_goes row (s.before ++ (g ∷ s.after)) p x)

      beside : p.before ≡ s.before → p.cls ≡ c → GoesBeside row c j n s q v.taken p.lower p.state
          → GoesIn row (s.before ++ (g ∷ s.after)) p
      beside f i (ls, y, hs, a, b, h) = (
        placed s.before c ls y hs s.after,
        ap (λ z. s.before ++ (group c z ∷ s.after)) (sym a),
        record { first = ap (rows row) (sym f); cls = sym i; number = b },
        h,
      )

      inside : Within s.before (group c s.slots ∷ []) s.after p.before (group_of p) p.after → GoesIn row (s.before ++ (g ∷ s.after)) p
      inside (L, R, a, b, d) =
          let u : (L ≡ []) × (group c s.slots ≡ group_of p) × (R ≡ []) = only (group c s.slots) L (group_of p) R a in
          let k : group c s.slots ≡ group_of p = u.1 in
          let i : c ≡ p.cls = cc in
          let l : s.slots ≡ p.lower ++ (p.state ∷ p.upper) = cc in
          let f : p.before ≡ s.before = b ∙ ap (λ z. s.before ++ z) u.0 ∙ append-nil s.before in
          beside f (sym i) (goes_beside row c j n s q v.taken p.lower p.state p.upper l)

      opened : Open P c s → GoesIn row (pool_of q) p
      opened o =
          let M : Pool = group c s.slots ∷ [] in
          ⊎_elim (λ x. elsewhere (stays_before row s.before M (g ∷ []) s.after refl p x))
          (λ y. ⊎_elim (λ x. onto (inside x)) (λ x. elsewhere (stays_behind row s.before M (g ∷ []) s.after refl p x)) y)
          (splits s.before M s.after p.before (group_of p) p.after (sym o.split ∙ sym e))

      made : New row P c s → GoesIn row (pool_of q) p
      made m =
          let M : Pool = fresh_pool (rows_of row c) in
          let l : rows row (g ∷ []) ≡ rows row M = add-zero (rows_of row c) ∙ sym (fresh-rows row (rows_of row c)) in
          ⊎_elim (λ x. elsewhere (stays_before row s.before M (g ∷ []) s.after l p x))
          (λ y. ⊎_elim (λ (L, R, a, b, d). absurd (no_group (rows_of row c) p.cls (p.lower ++ (p.state ∷ p.upper)) L R a))
          (λ x. elsewhere (stays_behind row s.before M (g ∷ []) s.after l p x)) y)
          (splits s.before M s.after p.before (group_of p) p.after (sym m.split ∙ sym e))

  -- a live block of the pool is where it was in it
  pub reserve-keeps : (p : Place) → pool_of p ≡ P → T (is_live p.state) → (p' : Place) × (pool_of p' ≡ pool_of q) × Stays row p p'
  reserve-keeps p e t =
      let (p', a, s, h) = reserve_goes p e in
      (p', a, record { slot = s; state = ⊎_elim (λ k. k.same t) (λ k. absurd (subst T k.idle t)) h })

module _ (row : ℕ) (pos : 0 < row) (P : Pool) (j n : ℕ) (q : Place) (w : T (well_formed P)) (r : reserve row P j n ≡ Some q) where
  -- the slot that a grant takes is no live block's
  pub reserve_other : (p : Place) → pool_of p ≡ P → T (is_live p.state) → SameSlot row p q → ⊥
  unfolding grant_in
  reserve_other p e t k = ⊎_elim opened made (site_found_lem row P c s v.found)
    where
      c : ℕ
      c = class_of (enlarged j n)

      v : Served row P j n q
      v = served row P j n q w r

      s : Site
      s = v.at

      first_row_lem : rows row s.before ≡ rows row p.before
      first_row_lem = sym (ap (rows row) (ap (λ p. p.before) v.place)) ∙ k.first

      here : InRows row pos (rows row p.before) p.before (group_of p)
      here = record { from = omega arith; to = omega (arith, rows_pos row p.cls pos) }

      opened : Open P c s → ⊥
      opened o =
          let g : Span = group c s.slots in
          let u : (p.before ≡ s.before) × (group_of p ≡ g) × (p.after ≡ s.after) =
          span_unique row pos (rows row p.before) p.before (group_of p) p.after s.before g s.after (e ∙ o.split) here
          (record { from = omega (arith, first_row_lem); to = omega (arith, first_row_lem, rows_pos row c pos) }) in
          let i : group_of p ≡ g = u.1 in
          let l : p.lower ++ (p.state ∷ p.upper) ≡ s.slots = cc in
          let (us, y, vs, f, m, h) = refilled p.lower p.state p.upper in
          let z : us ++ (y ∷ vs) ≡ q.lower ++ (v.taken.old ∷ q.upper) = sym f ∙ ap refill l ∙ v.taken.slots in
          let x : y ≡ v.taken.old = (split_unique us vs q.lower q.upper y v.taken.old z (m ∙ sym k.number)).1 in
          subst T (sym h.lives ∙ ap is_live x ∙ ready_idle v.taken.old v.taken.ready) t

      made : New row P c s → ⊥
      made m = go (rows_of row c) refl m.split
        where
          go : (k : ℕ) → rows_of row c ≡ k → P ≡ s.before ++ (fresh_pool k ++ s.after) → ⊥
          go zero h f = omega (arith, rows_pos row c pos)
          go (suc k) h f =
              let u : (p.before ≡ s.before) × (group_of p ≡ free) × (p.after ≡ fresh_pool k ++ s.after) =
              span_unique row pos (rows row p.before) p.before (group_of p) p.after s.before free (fresh_pool k ++ s.after) (e ∙ f) here
              (record { from = omega (arith, first_row_lem); to = omega (arith, first_row_lem) }) in
              let i : group_of p ≡ free = u.1 in
              let z : ◌≡◌ {A = ℕ} 0 1 = cc in
              omega arith
