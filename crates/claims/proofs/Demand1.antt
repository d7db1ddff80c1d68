-- Demand 1: every call ends with the number of the first reason that is due, or 0, and a refusal changes no byte.
use Rattle.mem.proofs.Prelude.{◌≡◌, sym, ap, refl, subst, true, Bool, false, inl, inr, Some, None, Option, List, [], ◌∷◌, ℕ, ◌<◌, ◌≤◌, ◌+◌, ◌-◌, ◌%◌, arith}
use Rattle.mem.proofs.Prelude.{◌&&◌, not, leb-false, leb-true, eqb-true, eqb-false, T, eqb, leb, ltb, T_not, length, replicate, ⊎_elim, true≢false}
use mathlib.Core.Logic.{◌↔◌}
use borrow.Author.Tests.{ltb-true, ltb-false}
use Rattle.mem.specs.Lists.{choose}
use Rattle.mem.proofs.Tests.{true-T, choose_case}
use Rattle.classes.specs.Classes.{class_of, size_limit}
use Rattle.classes.specs.Alignments.{ordinary, align_of, code_of, enlarged}
use Rattle.classes.proofs.Alignments.{enlarged_least}
use Rattle.model.specs.declared.Slot.{Slot}
use Rattle.model.specs.declared.Slot.TheVariants.{Fresh, Idle, Live}
use Rattle.model.specs.declared.Refusal.TheVariants.{BadArena, TooLarge, AlreadyFree, Stale, NotInPlace, NoRoom}
use Rattle.model.specs.declared.Refusal.TheVariants.{TooLong, BadProposal, BadAlignment}
use Rattle.model.specs.State.{Pool, Place, is_live, granted, count, align, well_formed, use_bits, start_of, pool_of, start, handle}
use Rattle.model.specs.Blocks.{damage_in, Damage}
use Rattle.model.specs.Answers.{number_of, refusal}
use Rattle.model.specs.Plans.{Plan, Call, sets_up, grants, grants_aligned, releases, resizes_in_place, moves, measures, reports, grants_list, values_of}
use Rattle.model.specs.Plans.{refused, refused_on, plan, NoPlace}
use Rattle.model.specs.Proposals.{entries, accepts, plannable}
use Rattle.model.specs.Plans.{reserve_all, grant_all_at, grant_list}
use Rattle.model.specs.Plans.{reserve, grant_at, grant_as, grant_aligned, lookup, new_size, on_block, by_handle, on_handle, release_at, on_handle_for, resize_at}
use Rattle.model.specs.Plans.{move_to, move_at, fits_in_place, in_place_at, measure_at}
use Rattle.model.specs.Calls as calls
use Rattle.model.specs.Calls.{Form, FormLaws, Stands, Outcome, keeps, applied, unless, set_up_right_by, call_by, carried_by, checked_by, set_up_by}
use Rattle.model.proofs.Lookup.{fits, lookup-start, lookup_found}
use Rattle.model.proofs.Formed.{code_kept}
use Rattle.model.proofs.Lowest.{reserve-none, reserve-some}
use Rattle.claims.specs.Demand1.{StaysInPlace, Reason, when, FirstDue, RefusedValues, six-zeros}
use Rattle.claims.specs.Demand1.{one_zero, StartsAt, LiveAt, header_due, guard_due, TooLargeAt}
use Rattle.claims.specs.Demand1.{already_free, stale, header_damaged, overrun, block_reasons, size_reasons, NotServed, NoRoomToMove, new_size_reasons}
use Rattle.claims.specs.Demand1.{list_reasons}
use Rattle.claims.specs.Demand1.{NoAlignment, Meets, unsound_reason, reasons, Demand1}
use Rattle.claims.proofs.StaysInPlace.{in_place_serves}
use Rattle.claims.proofs.Codes.{no_code, some_code, enlarged-align, enlarged_code}
use Rattle.model.proofs.Handles.{by_bits}
use Rattle.claims.proofs.Cases.{release_parts}
use Rattle.claims.proofs.Meets.{too_long, short_enough, meets, meets_none}

-- a slot that is not live has no alignment: the size that answer 3 goes by is n itself
idle_size : (x : Slot) (n : ℕ) → is_live x ≡ false → enlarged (align x) n ≡ n
idle_size Fresh n e = refl
idle_size (Idle r k d) n e = refl
idle_size (Live a) n e = absurd (true≢false e)

module _ (row : ℕ) (pos : 0 < row) (P : Pool) (o : ℕ) where
  -- the look-up finds the one granted slot that starts at an offset
  pub starts_found : (p : Place) → T (well_formed P) → StartsAt row P o p → lookup row P o ≡ Some p
  starts_found p w s =
      rw (← s.slotted.pool, ← s.starts) (lookup-start row pos p (subst (λ Q. T (well_formed Q)) (sym s.slotted.pool) w) s.slotted.granted_once)

  pub none-starts : (p : Place) → T (well_formed P) → lookup row P o ≡ None → StartsAt row P o p → ⊥
  none-starts p w e s =
      let f : lookup row P o ≡ Some p = starts_found p w s in
      let z : ◌≡◌ {A = ℕ} 0 1 = cc in
      omega arith

  pub found_starts : (p : Place) → lookup row P o ≡ Some p → StartsAt row P o p
  found_starts p e =
      let f : (pool_of p ≡ P) × T (granted p.state) × (start row p ≡ o) = lookup_found row pos P o p e in
      record { slotted = record { pool = f.0; granted_once = f.1 }; starts = f.2 }

  -- so there is but one
  pub starts-same : (p q : Place) → T (well_formed P) → StartsAt row P o p → StartsAt row P o q → p ≡ q
  starts-same p q w s r =
      let e : lookup row P o ≡ Some p = starts_found p w s in
      let f : lookup row P o ≡ Some q = starts_found q w r in
      cc

  pub starts_alike : (M : Place → Bool) (p q : Place) → T (well_formed P) → StartsAt row P o p → StartsAt row P o q → T (M p) → T (M q)
  starts_alike M p q w s r m = subst (λ x. T (M x)) (starts-same p q w s r) m

  -- the enlarged size of a live block
  live_code : (p : Place) → T (well_formed P) → LiveAt row P o p → 1 ≤ align p.state
  live_code p w l =
      let f = fits p (subst (λ Q. T (well_formed Q)) (sym l.here.slotted.pool) w) in (code_kept p.cls p.state l.live f.state).0

  pub live-enlarged : (p : Place) (n : ℕ) → T (well_formed P) → LiveAt row P o p → enlarged (align p.state) n ≡ n + (align_of (align p.state) - 16)
  live-enlarged p n w l = enlarged-align (align p.state) n (live_code p w l)

  -- and what serves it in place
  pub live_serves : (p : Place) (n : ℕ) → T (well_formed P) → LiveAt row P o p → T (fits_in_place p n) ↔ StaysInPlace p n
  live_serves p n w l = in_place_serves p n (live_code p w l)

-- answer 3 of a call that gives a block another size, by what is found at the start of its handle
module _ (row : ℕ) (pos : 0 < row) (P : Pool) (h : ℕ) where
  pub size_large : (n : ℕ) → T (well_formed P) → (size_limit ≤ new_size (lookup row P (start_of h)) n) ↔ TooLargeAt row P h n
  size_large n w = go (lookup row P o) refl
    where
      o : ℕ
      o = start_of h

      go : (r : Option Place) → lookup row P o ≡ r → (size_limit ≤ new_size r n) ↔ TooLargeAt row P h n
      go None e = (inl, ⊎_elim (λ x. x) (λ (p, l, _). absurd (none-starts row pos P o p w e l.here)))
      go (Some p) e = (
        by_state (is_live p.state) refl,
        ⊎_elim (λ x. omega (arith, x, enlarged_least (align p.state) n))
            (λ (q, l, x). subst (λ y. size_limit ≤ enlarged (align y.state) n) (starts-same row pos P o q p w l.here (found_starts row pos P o p e))
            (subst (λ m. size_limit ≤ m) (sym (live-enlarged row pos P o q n w l)) x)),
      )
        where
          by_state : (b : Bool) → is_live p.state ≡ b → size_limit ≤ enlarged (align p.state) n → TooLargeAt row P h n
          by_state true i x =
              let l : LiveAt row P o p = record { here = found_starts row pos P o p e; live = true-T (is_live p.state) i } in
              inr (p, l, subst (λ m. size_limit ≤ m) (live-enlarged row pos P o p n w l) x)
          by_state false i x = inl (subst (λ m. size_limit ≤ m) (idle_size p.state n i) x)

-- the value of a call that gives one, where it is refused
gives_one : (c : Call) → values_of c ≡ 1 → RefusedValues c (0 ∷ [])
gives_one c v = one_zero {c = c} (λ e. omega (arith, v, ap values_of e))

module _ (row : ℕ) (pos : 0 < row) (F : Form) (L : FormLaws row F) (a : List ℕ) (t : F.Kept) where
  -- what is claimed of a call, of the reasons that are left to test and a result
  record Right (c : Call) (rs : List Reason) (r : Outcome F.Kept) : Type 0 where
    number : FirstDue rs r.answer.number
    refused : (r.answer.number ≡ 0 → ⊥) → (r.arena ≡ a) × (r.kept ≡ t) × RefusedValues c r.answer.values × (r.answer.lent ≡ [])

  abbrev P : Pool
  P = F.view t

  -- what is lent is the form of a state that stands
  abbrev Sound : Type 0
  Sound = Stands row (length a) P × (t ≡ F.encode P)

  module _ (c : Call) where
    -- no reason is left
    done-right : (r : Outcome F.Kept) → r.answer.number ≡ 0 → Right c [] r
    done-right r e = record { number = e; refused = λ n. absurd (n e) }

    -- a reason that is not due is passed by
    later_right : {d : Reason} {rs : List Reason} {r : Outcome F.Kept} → (d.due → ⊥) → Right c rs r → Right c (d ∷ rs) r
    later_right n s = record { number = inr (n, s.number); refused = s.refused }

    -- one that is due is given
    due-right : {d : Reason} {rs : List Reason} {vs : List ℕ} {u : F.Kept} → RefusedValues c vs → u ≡ t → d.due
        → Right c (d ∷ rs) (keeps (record { number = number_of d.refusal; values = vs; lent = [] }) a u)
    due-right v e x = record { number = inl (refl, x); refused = λ n. (refl, e, v, refl) }

  -- a call on tables that must be sound
  checked-right : (c : Call) (rs : List Reason) → RefusedValues c (replicate (values_of c) 0)
      → (Sound → Right c rs (carried_by row F a t (plan row P c))) → Right c (unsound_reason row F a t ∷ rs) (checked_by row F a t c)
  unfolding checked_by
  checked-right c rs v f =
      choose_case (Right c (unsound_reason row F a t ∷ rs)) (F.sound (length a) t) (carried_by row F a t (plan row P c)) (keeps (calls.unsound c) a t)
      (λ e.
      let s : T (F.sound (length a) t) = true-T (F.sound (length a) t) e in
      later_right c (λ d. T_not (F.sound (length a) t) d s) (f (L.only (length a) t s)))
      (λ e. due-right c v refl (rw e tt))

  set_up_right_lem : Right sets_up (reasons row F a t sets_up) (set_up_by row F a t)
  unfolding set_up_by
  set_up_right_lem =
      choose_case (Right sets_up (reasons row F a t sets_up)) (set_up_right_by row F a t) _ (keeps (refusal BadArena) a t)
      (λ e. later_right sets_up (λ d. T_not (set_up_right_by row F a t) d (true-T (set_up_right_by row F a t) e)) (done-right sets_up _ refl))
      (λ e. due-right sets_up (gives_one sets_up refl) refl (rw e tt))

  -- a call on sound tables that gives one value
  module _ (s : Sound) (c : Call) (v : values_of c ≡ 1) where
    refused-right : {d : Reason} {rs : List Reason} → d.due → Right c (d ∷ rs) (carried_by row F a t (refused d.refusal P))
    unfolding carried_by unless
    refused-right x = due-right c (gives_one c v) (sym s.1) x

    -- the size is tested first
    small-right : {D : Type 0} {rs : List Reason} (p : Plan) (m : ℕ) → (size_limit ≤ m) ↔ D → Right c rs (carried_by row F a t p)
        → Right c (when TooLarge D ∷ rs) (carried_by row F a t (choose (leb size_limit m) (refused TooLarge P) p))
    small-right {D} {rs} p m due r =
        choose_case (λ p. Right c (when TooLarge D ∷ rs) (carried_by row F a t p)) (leb size_limit m) (refused TooLarge P) p
        (λ e. refused-right (due.0 (leb-true size_limit m e)))
        (λ e. later_right c (λ d. omega (arith, due.1 d, leb-false size_limit m e)) r)

    -- a grant with the code k
    granted-right : (k n : ℕ) {D E : Type 0} → (size_limit ≤ enlarged k n) ↔ D → NoPlace row P (class_of (enlarged k n)) ↔ E
        → Right c (when TooLarge D ∷ when NoRoom E ∷ []) (carried_by row F a t (grant_as row P k n))
    unfolding grant_as carried_by unless
    granted-right k n {D} {E} large full = small-right _ (enlarged k n) large (room (reserve row P k n) refl)
      where
        room : (r : Option Place) → reserve row P k n ≡ r → Right c (when NoRoom E ∷ []) (carried_by row F a t (grant_at row P r))
        room None e = refused-right (full.0 (reserve-none row pos P k n e))
        room (Some q) e = later_right c (λ d. reserve-some row P k n q e (full.1 d)) (done-right c _ refl)

  -- and on a block by its handle
  module _ (s : Sound) (c : Call) (v : values_of c ≡ 1) (h : ℕ) where
    abbrev o : ℕ
    o = start_of h

    -- a live block's header and guard
    intact_right : (rs : List Reason) (p : Place) (f : Plan) → f.checks ≡ Some p → LiveAt row P o p
        → Right c rs (applied F a f) → Right c (header_damaged row a P h ∷ overrun row a P h ∷ rs) (carried_by row F a t f)
    unfolding carried_by unless damage_in
    intact_right rs p f k l r =
        rw k
        (choose_case (M (header_damaged row a P h ∷ overrun row a P h ∷ rs)) (header_due row a p) _ _
        (λ e. later_right c (λ (q, m, d). T_not (header_due row a q) d (alike (header_due row a) q m e))
        (choose_case (M (overrun row a P h ∷ rs)) (guard_due row a p) _ _
        (λ g. later_right c (λ (q, m, _, d). T_not (guard_due row a q) d (alike (guard_due row a) q m g)) r)
        (λ g. due-right c (gives_one c v) refl (p, l, true-T (header_due row a p) e, rw g tt))))
        (λ e. due-right c (gives_one c v) refl (p, l, rw e tt)))
      where
        M : List Reason → Damage → Type 0
        M rs d = Right c rs (unless d (applied F a f) (λ r. keeps (refusal r) a t))

        alike : (M : Place → Bool) (q : Place) → LiveAt row P o q → M p ≡ true → T (M q)
        alike M q m e = starts_alike row pos P o M p q s.0.formed l.here m.here (true-T (M p) e)

    -- and before them the bits of the handle
    present_right : (rs : List Reason) (p : Place) (f : Place → Plan) → (f p).checks ≡ Some p → LiveAt row P o p → Right c rs (applied F a (f p))
        → Right c (stale row a P h ∷ header_damaged row a P h ∷ overrun row a P h ∷ rs) (carried_by row F a t (by_handle P h f p))
    present_right rs p f k l r =
        let bits : (handle row p ≡ h) ↔ (h % 16 ≡ use_bits (count p.state)) = by_bits row p h l.here.starts in
        choose_case (λ z. Right c (stale row a P h ∷ header_damaged row a P h ∷ overrun row a P h ∷ rs) (carried_by row F a t z))
        (eqb (h % 16) (use_bits (count p.state))) (f p) (refused Stale P)
        (λ e. later_right c
        (λ (q, m, d). d (subst (λ x. handle row x ≡ h) (starts-same row pos P o p q s.0.formed l.here m.here) (bits.1 (eqb-true _ _ e))))
        (intact_right rs p (f p) k l r))
        (λ e. refused-right s c v (p, l, λ i. eqb-false _ _ e (bits.0 i)))

    -- what is done with the block of a handle
    block_right : (rs : List Reason) (f : Place → Plan)
        → ((p : Place) → ((f p).checks ≡ Some p) × (LiveAt row P o p → Right c rs (applied F a (f p))))
        → Right c (block_reasons row a P h rs) (carried_by row F a t (on_handle row P h f))
    unfolding on_handle
    block_right rs f k = found (lookup row P o) refl
      where
        found : (r : Option Place) → lookup row P o ≡ r → Right c (block_reasons row a P h rs) (carried_by row F a t (on_block P (by_handle P h f) r))
        found None e = refused-right s c v (λ p h. none-starts row pos P o p s.0.formed e h)
        found (Some p) e =
            let i : StartsAt row P o p = found_starts row pos P o p e in
            later_right c (λ d. d p i)
            (choose_case (λ z. Right c (already_free row a P h ∷ stale row a P h ∷ header_damaged row a P h ∷ overrun row a P h ∷ rs) (carried_by row F a t z))
            (is_live p.state) (by_handle P h f p) (refused AlreadyFree P)
            (λ e.
            let l : T (is_live p.state) = true-T (is_live p.state) e in
            let m : LiveAt row P o p = record { here = i; live = l } in
            later_right c (λ (q, g, d). T_not (is_live q.state) d (starts_alike row pos P o (λ z. is_live z.state) p q s.0.formed i g l))
            (present_right rs p f (k p).0 m ((k p).1 m)))
            (λ e. refused-right s c v (p, i, rw e tt)))

  module _ (s : Sound) where
    grants-right : (n : ℕ) → Right (grants n) (size_reasons row P n) (carried_by row F a t (plan row P (grants n)))
    unfolding plan
    grants-right n = granted-right s (grants n) refl ordinary n ((λ h. h), λ h. h) ((λ h. h), λ h. h)

    -- an aligned grant is one of the alignment's code, if it has one
    aligned-right : (n b : ℕ) → Right (grants_aligned n b) (when BadAlignment (NoAlignment b) ∷ size_reasons row P (n + (b - 16)))
        (carried_by row F a t (plan row P (grants_aligned n b)))
    unfolding plan grant_aligned
    aligned-right n b =
        choose_case (λ p. Right c (when BadAlignment (NoAlignment b) ∷ size_reasons row P (n + (b - 16))) (carried_by row F a t p)) (ltb 0 (code_of b))
        (grant_as row P (code_of b) n) (refused BadAlignment P)
        (λ e.
        let h : 0 < code_of b = ltb-true 0 (code_of b) e in
        later_right c (some_code b h)
        (granted-right s c refl (code_of b) n (sized h (λ m. size_limit ≤ m)) (sized h (λ m. NoPlace row P (class_of m)))))
        (λ e. refused-right s c refl (no_code b (omega (arith, ltb-false 0 (code_of b) e))))
      where
        c : Call
        c = grants_aligned n b

        -- the enlarged size, by the code and by the alignment
        sized : 0 < code_of b → (M : ℕ → Type 0) → M (enlarged (code_of b) n) ↔ M (n + (b - 16))
        sized h M = (subst M (enlarged_code b n h), subst M (sym (enlarged_code b n h)))

    -- a call that gives the block of a handle n bytes, and that the block itself may refuse
    sized-right : (c : Call) → values_of c ≡ 1 → (h n : ℕ) (r : Reason) (f : Place → Plan)
        → ((p : Place) → ((f p).checks ≡ Some p) × (LiveAt row P (start_of h) p → Right c (r ∷ []) (applied F a (f p))))
        → Right c (new_size_reasons row a P h n r) (carried_by row F a t (on_handle_for row P h n f))
    unfolding on_handle_for
    sized-right c v h n r f k =
        small-right s c v _ (new_size (lookup row P (start_of h)) n) (size_large row pos P h n s.0.formed) (block_right s c v h (r ∷ []) f k)

    in_place-right : (h n : ℕ) → Right (resizes_in_place h n) (new_size_reasons row a P h n (when NotInPlace (NotServed row P h n)))
        (carried_by row F a t (plan row P (resizes_in_place h n)))
    unfolding plan
    in_place-right h n =
        sized-right c refl h n no_place (in_place_at row P n)
        (λ p. choose_case (λ (z : Plan). (z.checks ≡ Some p) × (LiveAt row P o p → Right c (no_place ∷ []) (applied F a z))) (fits_in_place p n)
        (resize_at row p n) (refused_on NotInPlace P p)
        (λ e. (refl, λ l. later_right c (λ (q, m, d). d (fitting p q e l m)) (done-right c _ refl)))
        (λ e. (refl, λ l. due-right c (gives_one c refl) (sym s.1) (p, l, λ v. subst T e ((live_serves row pos P o p n s.0.formed l).1 v)))))
      where
        c : Call
        c = resizes_in_place h n

        o : ℕ
        o = start_of h

        no_place : Reason
        no_place = when NotInPlace (NotServed row P h n)

        -- the block at the start is but one
        fitting : (p q : Place) → fits_in_place p n ≡ true → LiveAt row P o p → LiveAt row P o q → StaysInPlace q n
        fitting p q e l m =
            (live_serves row pos P o q n s.0.formed m).0
            (starts_alike row pos P o (λ z. fits_in_place z n) p q s.0.formed l.here m.here (true-T (fits_in_place p n) e))

    moves-right : (h n : ℕ) → Right (moves h n) (new_size_reasons row a P h n (when NoRoom (NoRoomToMove row P h n)))
        (carried_by row F a t (plan row P (moves h n)))
    unfolding plan
    moves-right h n = sized-right c refl h n no_room (move_at row P n) (λ p. room p (reserve row P (align p.state) n) refl)
      where
        c : Call
        c = moves h n

        o : ℕ
        o = start_of h

        no_room : Reason
        no_room = when NoRoom (NoRoomToMove row P h n)

        -- there is no place for a size
        Full : ℕ → Type 0
        Full m = NoPlace row P (class_of m)

        room : (p : Place) (r : Option Place) → reserve row P (align p.state) n ≡ r
            → ((move_to row P p n r).checks ≡ Some p) × (LiveAt row P o p → Right c (no_room ∷ []) (applied F a (move_to row P p n r)))
        room p None f = (
          refl,
          λ l. due-right c (gives_one c refl) (sym s.1)
              (p, l, subst Full (live-enlarged row pos P o p n s.0.formed l) (reserve-none row pos P (align p.state) n f)),
        )
        room p (Some q) f = (
          refl,
          λ l. later_right c
              (λ (x, m, d). reserve-some row P (align p.state) n q f
              (subst (λ (x : Place). Full (enlarged (align x.state) n))
              (starts-same row pos P o x p s.0.formed m.here l.here)
              (subst Full (sym (live-enlarged row pos P o x n s.0.formed m)) d)))
              (done-right c _ refl),
        )

    lists-right : (total cap places : ℕ) (ns : List ℕ) → (let c = grants_list total cap places ns in
        Right c (list_reasons row P total cap places ns) (carried_by row F a t (plan row P c)))
    unfolding plan grant_list carried_by unless
    lists-right total cap places ns =
        choose_case (M (list_reasons row P total cap places ns)) (plannable total cap && leb entries places) _ (refused TooLong P)
        (λ e. later_right c (short_enough total cap places e)
        (choose_case (M (when BadProposal (T (not (accepts total cap ns))) ∷ when NoRoom (Meets row P ns) ∷ [])) (accepts total cap ns) (grant_all_at row P
        (reserve_all row P ns)) (refused BadProposal P)
        (λ f. later_right c (λ d. T_not (accepts total cap ns) d (true-T (accepts total cap ns) f))
        (room (reserve_all row P ns) refl))
        (λ f. refused-right s c refl (rw f tt))))
        (λ e. refused-right s c refl (too_long total cap places e))
      where
        c : Call
        c = grants_list total cap places ns

        M : List Reason → Plan → Type 0
        M rs p = Right c rs (carried_by row F a t p)

        room : (o : Option (List Place)) → reserve_all row P ns ≡ o → M (when NoRoom (Meets row P ns) ∷ []) (grant_all_at row P o)
        room None e = refused-right s c refl (meets row pos P ns e)
        room (Some qs) e = later_right c (meets_none row P ns qs e) (done-right c _ refl)

  call-right : (c : Call) → Right c (reasons row F a t c) (call_by row F a t c)
  unfolding call_by choose plan carried_by unless
  call-right sets_up = set_up_right_lem
  call-right (grants n) = checked-right (grants n) _ (gives_one _ refl) (λ s. grants-right s n)
  call-right (grants_aligned n b) = checked-right (grants_aligned n b) _ (gives_one _ refl) (λ s. aligned-right s n b)
  call-right (releases h) =
      checked-right (releases h) _ (gives_one _ refl)
      (λ s. block_right s (releases h) refl h [] (release_at row)
      (λ p. ((release_parts row p).0, λ l. done-right (releases h) _ (ap (λ r. r.number) (release_parts row p).1))))
  call-right (resizes_in_place h n) = checked-right (resizes_in_place h n) _ (gives_one _ refl) (λ s. in_place-right s h n)
  call-right (moves h n) = checked-right (moves h n) _ (gives_one _ refl) (λ s. moves-right s h n)
  call-right (measures h) =
      checked-right (measures h) _ (gives_one _ refl)
      (λ s. block_right s (measures h) refl h [] (measure_at row P) (λ p. (refl, λ l. done-right (measures h) _ refl)))
  call-right reports = checked-right reports [] six-zeros (λ s. done-right reports _ refl)
  call-right (grants_list total cap places ns) = checked-right (grants_list total cap places ns) _ (gives_one _ refl) (λ s. lists-right s total cap places ns)

pub demand1 : (row : ℕ) → 0 < row → (F : Form) → FormLaws row F → Demand1 row F
demand1 row pos F L a t c =
    let r : Right row pos F L a t c (reasons row F a t c) (call_by row F a t c) = call-right row pos F L a t c in
    record { number = r.number; refused = r.refused }
