-- A slot over a call: it keeps its count and displacement, and is live only if it was; or it was not live, and a grant takes it.
use Rattle.mem.proofs.Prelude.{◌∙◌, ◌≡◌, sym, ap, refl, subst, not, ⊎_elim, inl, inr, Some, List, [], ◌∷◌, ◌++◌, ℕ, ◌<◌, arith}
use Rattle.mem.proofs.Prelude.{T, add-zero, lit≤}
use Rattle.mem.specs.Lists.{any}
use Rattle.mem.proofs.Tests.{choose_case, true-T}
use Rattle.mem.proofs.Splits.{splits}
use Rattle.classes.specs.Classes.{rows_of}
use Rattle.classes.specs.Alignments.{ordinary, code_of, Askable}
use Rattle.classes.proofs.Laws.{rows_pos}
use Rattle.model.specs.declared.Slot.{Slot}
use Rattle.model.specs.State.{Pool, Place, is_live, align, well_formed, pool_of, become, rows, SameSlot}
use Rattle.model.specs.Plans.{Plan, reserve, reserve_all, pool_after, vacant, release_at, release, resize_at, move_to}
use Rattle.model.specs.Plans.{measure, measure_at, report, fresh_pool, plan}
use Rattle.model.specs.Plans.{Call, sets_up, grants, grants_aligned, releases, resizes_in_place, moves, measures, reports, grants_list}
use Rattle.model.proofs.Rooms.{rows_append}
use Rattle.model.proofs.Fresh.{fresh-rows}
use Rattle.model.proofs.Lookup.{group_of, fits, one_or_other}
use Rattle.model.proofs.Stays.{slot_after, slot_back, slot_become, Goes, GoesIn, goes_twice, as_was, reserve_goes, stays_before, stays_behind, no_group}
use Rattle.model.proofs.Moves.{slot_unique, Old, old, old_released}
use Rattle.model.proofs.Lists.{small, by_grants, on_list}
use Rattle.model.proofs.Formed.{any_middle, vacant-sound, become_formed}
use Rattle.model.proofs.Calls.{Asks}
use Rattle.claims.specs.Stale.{Grants, grants_one, grants_by_alignment, grants_moved, grants_by_list, NotGranted, Steps}
use Rattle.claims.proofs.Cases.{Named, on_named, on_grant, on_aligned, on_in_place, on_move}
use Rattle.claims.proofs.Stays.{KeptIn, become-keeps}

module _ (row : ℕ) (pos : 0 < row) where
  -- ---- one slot changes

  -- a slot of a pool in which one becomes x
  became : (o : Place) (x : Slot) (R : Slot → Slot → Type 0) → T (well_formed (pool_of o)) → T (well_formed (pool_of (become o x)))
      → R o.state x → ((y : Slot) → R y y)
      → (p q : Place) → pool_of p ≡ pool_of o → pool_of q ≡ pool_of (become o x) → SameSlot row p q → R p.state q.state
  became o x R w v r same p q e f s = ⊎_elim here other (one_or_other row pos o p w e)
    where
      here : p ≡ o → R p.state q.state
      here z =
          let i : q ≡ become o x = slot_unique row pos (become o x) q v f (slot_become row o x q (subst (λ p. SameSlot row p q) z s)) in
          subst (λ y. R y q.state) (ap (λ p. p.state) (sym z)) (subst (R o.state) (ap (λ p. p.state) (sym i)) r)

      other : (p ≡ o → ⊥) → R p.state q.state
      other d =
          let (p', g, u) = become-keeps row o x p e d in
          let i : q ≡ p' = slot_unique row pos p' q (subst (λ P. T (well_formed P)) (sym g) v) (f ∙ sym g)
          (slot_after row p' p q (slot_back row p p' u.slot) s) in
          subst (R p.state) (sym (ap (λ p. p.state) i ∙ u.state)) (same p.state)

  -- ---- a block given back

  module _ (o : Place) (w : T (well_formed (pool_of o))) (l : T (is_live o.state)) where
    -- where its group goes, every slot that is left was there before
    freed : (q : Place) → pool_of q ≡ o.before ++ (fresh_pool (rows_of row o.cls) ++ o.after) → KeptIn row (pool_of o) q
    freed q e =
        ⊎_elim (stays_before row o.before F (group_of o ∷ []) o.after long q)
        (⊎_elim (λ (L, R, a, b, d). absurd (no_group (rows_of row o.cls) q.cls (q.lower ++ (q.state ∷ q.upper)) L R a))
        (stays_behind row o.before F (group_of o ∷ []) o.after long q))
        (splits o.before F o.after q.before (group_of q) q.after (sym e))
      where
        F : Pool
        F = fresh_pool (rows_of row o.cls)

        long : rows row (group_of o ∷ []) ≡ rows row F
        long = add-zero (rows_of row o.cls) ∙ sym (fresh-rows row (rows_of row o.cls))

    -- and no group begins where it began
    gone : (q : Place) → pool_of q ≡ o.before ++ (fresh_pool (rows_of row o.cls) ++ o.after) → rows row q.before ≡ rows row o.before → ⊥
    gone q e h =
        ⊎_elim (λ (R, a, b). omega (arith, h, ap (rows row) a, rows_append row q.before (group_of q ∷ R), rows_pos row q.cls pos))
        (⊎_elim (λ (L, R, a, b, d). no_group k q.cls (q.lower ++ (q.state ∷ q.upper)) L R a)
        (λ (R, a, b).
        omega (
          arith,
          h,
          ap (rows row) a,
          rows_append row o.before (fresh_pool k ++ R),
          rows_append row (fresh_pool k) R,
          fresh-rows row k,
          rows_pos row o.cls pos,
        )))
        (splits o.before (fresh_pool k) o.after q.before (group_of q) q.after (sym e))
      where
        k : ℕ
        k = rows_of row o.cls

    -- its own slot, if the group stays, waits; any other keeps its state
    pub record GivenBack (q : Place) : Type 0 where
      pub own : SameSlot row o q → q.state ≡ vacant o
      pub others : (p : Place) → pool_of p ≡ pool_of o → SameSlot row p q → NotGranted p.state q.state

    pub given_back : (q : Place) → pool_of q ≡ (release_at row o).pool → GivenBack q
    unfolding release_at
    given_back q =
        choose_case (λ (r : Plan). pool_of q ≡ r.pool → GivenBack q) (any is_live (o.lower ++ o.upper)) _ _
        (λ e f.
        let b : Place = become o (vacant o) in
        let v : T (well_formed (pool_of b)) =
        (become_formed row o (vacant o) w (vacant-sound o.cls o.state l (fits o w).state)
        (true-T _ (any_middle is_live o.lower (vacant o) o.upper ∙ e)) (λ _. tt)).formed in
        record {
          own = λ s. ap (λ p. p.state) (slot_unique row pos b q v f (slot_become row o (vacant o) q s));
          others = λ p i s. became o (vacant o) NotGranted w v (refl, refl, λ z. absurd z) (λ y. (refl, refl, λ z. z)) p q i f s;
        })
        (λ e f. record {
          own = λ s. absurd (gone q f s.first);
          others = λ p i s.
              let (p', g, u) = freed q f in
              let z : p' ≡ p = slot_unique row pos p p' (subst (λ P. T (well_formed P)) (sym i) w) (g ∙ sym i) (slot_after row p q p' s u.slot) in
              subst (NotGranted p.state) (ap (λ p. p.state) (sym z) ∙ u.state) (refl, refl, λ z. z);
        })

  -- ---- calls

  module _ (P : Pool) (w : T (well_formed P)) (p : Place) (e : pool_of p ≡ P) where
    -- what becomes of the slot in the pool that a plan leaves
    abbrev Fate : Call → Plan → Type 0
    Fate c r = T (well_formed r.pool) → (q : Place) → pool_of q ≡ r.pool → SameSlot row p q → Steps c p.state q.state

    formed : T (well_formed (pool_of p))
    formed = subst (λ Q. T (well_formed Q)) (sym e) w

    -- the pool as it is
    pub as_it_was : (c : Call) (q : Place) → pool_of q ≡ P → SameSlot row p q → Steps c p.state q.state
    as_it_was c q f s = subst (Steps c p.state) (ap (λ p. p.state) (sym (slot_unique row pos p q formed (f ∙ sym e) s))) (inl (refl, refl, λ z. z))

    -- a grant, and then perhaps what gives another block back
    steps-after : (c : Call) → Grants c → (x y : Slot) → Goes p.state x → NotGranted x y → Steps c p.state y
    steps-after c k x y (inl a) (b, m, d) = inl (b ∙ a.counts, m ∙ a.disps, λ z. subst T a.lives (d z))
    steps-after c k x y (inr a) (b, m, d) = inr (k, subst (λ v. T (not v)) (sym a.idle) tt, b ∙ a.counts)

    goes_steps : (c : Call) → Grants c → (Q : Pool) → T (well_formed Q) → GoesIn row Q p → (q : Place) → pool_of q ≡ Q → SameSlot row p q
        → Steps c p.state q.state
    goes_steps c k Q v (p', a, s, g) q f u =
        let z : q ≡ p' =
        slot_unique row pos p' q (subst (λ P. T (well_formed P)) (sym a) v) (f ∙ sym a) (slot_after row p' p q (slot_back row p p' s) u) in
        steps-after c k p'.state q.state g (subst (NotGranted p'.state) (ap (λ p. p.state) (sym z)) (refl, refl, λ z. z))

    -- a move: a grant, and the old block is given back
    move-steps : (h n : ℕ) (o g : Place) → Named row P h o → Askable (align o.state) n → reserve row P (align o.state) n ≡ Some g
        → Fate (moves h n) (move_to row P o n (Some g))
    move-steps h n o g b s f _ q i u =
        let (p', a, v, go) = reserve_goes row P (align o.state) n g w f p e in
        let y : Old row pos P w (align o.state) n s g f o b.pool b.live = old row pos P w (align o.state) n s g f o b.pool b.live in
        let d : pool_of q ≡ (release_at row y.place).pool =
        i ∙ ap (λ (r : Plan). r.pool) (old_released row pos P w (align o.state) n s g f o b.pool b.live) in
        steps-after (moves h n) grants_moved p'.state q.state go ((given_back y.place y.formed y.live q d).others p' (a ∙ sym y.pool)
        (slot_after row p' p q (slot_back row p p' v) u))

    -- in place another slot changes, or this one keeps its count
    in_place-steps : (h n : ℕ) (o : Place) → Named row P h o → Fate (resizes_in_place h n) (resize_at row o n)
    unfolding resize_at
    in_place-steps h n o b v q i u =
        became o _ (Steps (resizes_in_place h n)) (subst (λ Q. T (well_formed Q)) (sym b.pool) w) v (inl (refl, refl, λ _. b.live))
        (λ y. inl (refl, refl, λ z. z)) p q (e ∙ sym b.pool) i u

    release-steps : (h : ℕ) (o : Place) → Named row P h o → Fate (releases h) (release_at row o)
    release-steps h o b _ q i u =
        inl ((given_back o (subst (λ Q. T (well_formed Q)) (sym b.pool) w) b.live q i).others p (e ∙ sym b.pool) u)

  -- grants, one after the other
  list_goes : (P : Pool) (ns : List ℕ) (qs : List Place) → T (well_formed P) → T (small ns) → reserve_all row P ns ≡ Some qs → (p : Place) → pool_of p ≡ P
      → GoesIn row (pool_after P qs) p
  list_goes =
      by_grants row (λ P ns qs. (p : Place) → pool_of p ≡ P → GoesIn row (pool_after P qs) p)
      (λ P p e. (p, e, record { first = refl; cls = refl; number = refl }, inl (as_was p.state)))
      (λ P n ns q qs w h r k p e.
      let (p', a, s, g) = reserve_goes row P ordinary n q w r p e in
      let (p'', b, u, i) = k p' a in
      (p'', b, slot_after row p p' p'' s u, goes_twice p.state p'.state p''.state g i))

  -- a slot of the pool in the pool that a call's plan leaves, refused or not
  pub plan-steps : (P : Pool) (w : T (well_formed P)) (p : Place) (e : pool_of p ≡ P) (c : Call) → Asks c → Fate P w p e c (plan row P c)
  unfolding plan release measure report
  plan-steps P w p e sets_up k = absurd k
  plan-steps P w p e (grants n) k =
      on_grant row pos P (Fate P w p e (grants n)) (λ _ _. as_it_was P w p e (grants n)) ordinary n (lit≤ tt) (lit≤ tt)
      (λ g _ f v. goes_steps P w p e (grants n) grants_one (pool_of g) v (reserve_goes row P ordinary n g w f p e))
  plan-steps P w p e (grants_aligned n b) k =
      on_aligned row pos P (Fate P w p e (grants_aligned n b)) (λ _ _. as_it_was P w p e (grants_aligned n b)) n b
      (λ g _ f v. goes_steps P w p e (grants_aligned n b) grants_by_alignment (pool_of g) v (reserve_goes row P (code_of b) n g w f p e))
  plan-steps P w p e (releases h) k =
      on_named row pos P (Fate P w p e (releases h)) (λ _ _. as_it_was P w p e (releases h)) h (release_at row) (release-steps P w p e h)
  plan-steps P w p e (resizes_in_place h n) k =
      let c : Call = resizes_in_place h n in
      on_in_place row pos P (Fate P w p e c) (λ _ _. as_it_was P w p e c) w h n (λ o b _. in_place-steps P w p e h n o b) (λ _ _ _. as_it_was P w p e c)
  plan-steps P w p e (moves h n) k =
      let c : Call = moves h n in
      on_move row pos P (Fate P w p e c) (λ _ _. as_it_was P w p e c) w h n (λ _ _ _. as_it_was P w p e c) (λ o g b s f. move-steps P w p e h n o g b s f)
  plan-steps P w p e (measures h) k =
      on_named row pos P (Fate P w p e (measures h)) (λ _ _. as_it_was P w p e (measures h)) h (measure_at row P) (λ _ _ _. as_it_was P w p e (measures h))
  plan-steps P w p e reports k = λ _. as_it_was P w p e reports
  plan-steps P w p e (grants_list total cap places ns) k =
      let c : Call = grants_list total cap places ns in
      on_list row (Fate P w p e c) P total cap places ns (λ _ _. as_it_was P w p e c)
      (λ qs h f v. goes_steps P w p e c grants_by_list (pool_after P qs) v (list_goes P ns qs w h f p e))
