-- Every call keeps tables and arena in agreement, finds no damage, and leaves zeros where a block gains bytes.
use Rattle.mem.proofs.Prelude.{◌∙◌, ◌≡◌, sym, ap, refl, subst, Some, List, [], ◌∷◌, ◌++◌, map, ◌+◌, ℕ, ◌<◌, ◌≤◌, ◌*◌, ◌-◌, ◌%◌, suc, zero, min, arith, Ok}
use Rattle.mem.proofs.Prelude.{T, leb, leb→le, lit≤, length, drop, get_or, replicate}
use native.Mathlib.Nat.{zero-mul}
use lib.ListN.{length-take}
use Rattle.mem.specs.Lists.{choose, every, any}
use Rattle.mem.specs.Bytes.{zeros, put, part}
use Rattle.mem.proofs.Tests.{and_left, and_both, every-right, every_append, choose_case}
use Rattle.mem.proofs.Laws.{zeros-length, zeros-none, zero-put, zeros-put, put_all, put-past}
use Rattle.classes.specs.Classes.{slot_bytes, class_of, slots_of, rows_of}
use Rattle.classes.specs.Alignments.{ordinary, code_of, enlarged, Askable}
use Rattle.classes.proofs.Laws.{rows_hold}
use Rattle.model.specs.declared.Slot.{Slot}
use Rattle.model.specs.declared.Slot.TheVariants.{Fresh, Idle, Live}
use Rattle.model.specs.declared.Refusal.{Refusal}
use Rattle.model.specs.declared.Refusal.TheVariants.{NotInPlace, NoRoom}
use Rattle.model.specs.State.{Pool, Place, group, is_live, disp, size, align, slot_sound, well_formed, start_of, pool_of, become, slot_number, rows, base, start}
use Rattle.model.specs.State.{owned, handle}
use Rattle.model.specs.Blocks.{reserved, header, spare}
use Rattle.model.specs.Answers.{done}
use Rattle.model.specs.Plans.{Plan, refused, refused_on, turn_ready, refill, grant_in, reserve, enframe, vacant, release_at, release, discard, fits_in_place, resize_at}
use Rattle.model.specs.Plans.{move_to, measure_at, measure, report, fresh_pool}
use Rattle.model.specs.Plans.{Call, sets_up, grants, grants_aligned, releases, resizes_in_place, moves, measures, reports, grants_list}
use Rattle.model.specs.Plans.{plan, grant_at, reserve_all, pool_after}
use Rattle.model.proofs.Lists.{small, by_grants, on_list}
use Rattle.model.specs.Calls.{write, written, damaged}
use Rattle.model.proofs.Lookup.{Fits, fits, disp_inside, place_unique}
use Rattle.model.proofs.Reserve.{plain, Served, served, reserve_formed, refill-sound, reserve-size}
use Rattle.model.proofs.Formed.{on_block_lem, become-fits, vacant-sound}
use Rattle.claims.specs.Demand1.{LiveAt}
use Rattle.claims.specs.Demand3.{Gains, gains_grant, gains_aligned, gains_in_place, gains_move, gains_list, Cleared}
use Rattle.model.proofs.Handles.{start_cleared}
use Rattle.claims.proofs.Cases.{release_parts, Named, on_named, on_grant, on_aligned, on_in_place, on_move, reserve-live, taken-same, refuses}
use Rattle.claims.proofs.Gathers.{framed, list_clears}
use Rattle.claims.proofs.Cells.{due, slot_cells, slots_cells, pad, span_cells, cells, cells-append, cells-length, group-length, fresh_pool-cells, zeros-due}
use Rattle.claims.proofs.Cells.{due-zeros, Agrees, agrees_length, agrees_due, agrees_over, agrees_frame, undamaged, slot_written, copied, resized}

-- ---- slots that become ready, and new groups, change no cell

turned-cells : (c i : ℕ) (ss : List Slot) → slots_cells c i (map turn_ready ss) ≡ slots_cells c i ss
unfolding slot_cells choose
turned-cells c i [] = refl
turned-cells c i (Fresh ∷ ss) = ap (λ l. due (zeros (slot_bytes c)) ++ l) (turned-cells c (suc i) ss)
turned-cells c i (Idle r k d ∷ ss) = ap (λ l. due (zeros (slot_bytes c)) ++ l) (turned-cells c (suc i) ss)
turned-cells c i (Live a ∷ ss) = ap (λ l. slot_cells c i (Live a) ++ l) (turned-cells c (suc i) ss)

refill-cells : (c i : ℕ) (ss : List Slot) → slots_cells c i (refill ss) ≡ slots_cells c i ss
unfolding refill
refill-cells c i ss = choose_case (λ l. slots_cells c i l ≡ slots_cells c i ss) _ ss (map turn_ready ss) (λ e. refl) (λ e. turned-cells c i ss)

fresh_cells : (c i m : ℕ) → slots_cells c i (replicate m Fresh) ≡ due (zeros (m * slot_bytes c))
unfolding slot_cells choose
fresh_cells c i zero = ap due (sym zeros-none) ∙ ap (λ k. due (zeros k)) (sym (zero-mul (slot_bytes c)))
fresh_cells c i (suc m) =
    let e : slot_bytes c + m * slot_bytes c ≡ suc m * slot_bytes c = omega arith in simp (fresh_cells c (suc i) m, due-zeros, e)

module _ (row : ℕ) (pos : 0 < row) where
  new_cells : (c : ℕ) → span_cells row (group c (replicate (slots_of c) Fresh)) ≡ due (zeros (row * rows_of row c))
  unfolding pad
  new_cells c =
      let e : 12 + (slots_of c * slot_bytes c + pad row c) ≡ row * rows_of row c = omega (arith, rows_hold row c pos) in
      simp (fresh_cells, due-zeros, e)

  -- ---- grant

  module _ (P : Pool) (k n : ℕ) (q : Place) (w : T (well_formed P)) (h : Askable k n) (r : reserve row P k n ≡ Some q) where
    -- framed in an arena that agrees, it leaves one that agrees
    reserve_agrees : (a : List ℕ) → Agrees (cells row P) a → Agrees (cells row (pool_of q)) (write a (enframe row q))
    unfolding grant_in enframe
    reserve_agrees a g =
        let v : Served row P k n q = served row P k n q w r in
        let c : ℕ = class_of (enlarged k n) in
        let x : Slot = v.taken.old in
        let f : Fits q = fits q (reserve_formed row P k n q w h r).formed in
        let t : T (every (slot_sound c) (q.lower ++ (x ∷ q.upper))) =
        subst (λ ss. T (every (slot_sound c) ss)) v.taken.slots (refill-sound c v.at.slots v.ground.sound) in
        let u : T (slot_sound c x) = and_left (slot_sound c x) (every (slot_sound c) q.upper) (every-right (slot_sound c) q.lower (x ∷ q.upper) t) in
        let y : T (slot_sound q.cls x) = subst (λ i. T (slot_sound i x)) (sym (ap (λ p. p.cls) v.place)) u in
        let e : cells row (pool_of (become q x)) ≡ cells row P =
        taken-same row (cells row) (λ X c ss Y. simp (cells-append, refill-cells)) (λ X c Y. simp (cells-append, new_cells, fresh_pool-cells)) P k n q v in
        slot_written row pos (become q x) (become-fits q x f y) a q.state _ f.state
        (agrees_frame q.cls (slot_number q) q.state (reserve-live row P k n q v)) (subst (λ l. Agrees l a) (sym e) g)

  -- a list of grants
  list_agrees : (P : Pool) (ns : List ℕ) (qs : List Place) → T (well_formed P) → T (small ns) → reserve_all row P ns ≡ Some qs
      → (a : List ℕ) → Agrees (cells row P) a → Agrees (cells row (pool_after P qs)) (written a (map (enframe row) qs))
  list_agrees =
      by_grants row (λ P ns qs. (a : List ℕ) → Agrees (cells row P) a → Agrees (cells row (pool_after P qs)) (written a (map (enframe row) qs)))
      (λ P a g. g) (λ P n ns q qs w h r k a g. k (write a (enframe row q)) (reserve_agrees P ordinary n q w (plain h) r a g))

  -- ---- release

  released : (p : Place) (a : List ℕ) → Fits p → T (is_live p.state) → Agrees (cells row (pool_of p)) a
      → Agrees (cells row (release_at row p).pool) (written a (release_at row p).changes)
  unfolding release_at slot_cells choose
  released p a f l g =
      choose_case (λ (r : Plan). Agrees (cells row r.pool) (written a r.changes)) (any is_live (p.lower ++ p.upper)) _ _
      (λ e. slot_written row pos p f a (vacant p) (zeros (slot_bytes p.cls)) (vacant-sound p.cls p.state l f.state) (agrees_due _) g)
      (λ e. gone)
    where
      n : ℕ
      n = row * rows_of row p.cls

      ss : List Slot
      ss = p.lower ++ (p.state ∷ p.upper)

      gone : Agrees (cells row (p.before ++ (fresh_pool (rows_of row p.cls) ++ p.after))) (put (base row p) (zeros n) a)
      gone =
          let t : T (every (slot_sound p.cls) ss) =
          every_append (slot_sound p.cls) p.lower (p.state ∷ p.upper) f.others.0
          (and_both (slot_sound p.cls p.state) (every (slot_sound p.cls) p.upper) f.state f.others.1) in
          agrees_over (base row p) (cells row p.before) (span_cells row (group p.cls ss)) (due (zeros n)) (cells row p.after)
          (cells-append row p.before (group p.cls ss ∷ p.after)) (simp (cells-append, fresh_pool-cells))
          (cells-length row pos p.before f.before) (zeros-due n ∙ sym (group-length row pos p.cls ss f.class f.slots t)) (agrees_due (zeros n)) g

  -- the old block of a move
  discarded : (P : Pool) (o : Place) (a : List ℕ) → T (well_formed P) → Agrees (cells row P) a
      → Agrees (cells row (discard row P o).pool) (written a (discard row P o).changes)
  unfolding discard
  discarded P o a w g =
      on_block_lem row pos (λ (r : Plan). Agrees (cells row r.pool) (written a r.changes)) P (start row o) (release_at row) g g
      (λ p e i l. released p a (fits p (subst (λ Q. T (well_formed Q)) (sym i) w)) l (subst (λ Q. Agrees (cells row Q) a) (sym i) g))

  -- ---- what each write leaves where a block gains bytes

  -- a block given back writes zeros only
  discard-zero : (P : Pool) (o : Place) (a : List ℕ) (j : ℕ) → get_or a j 0 ≡ 0 → get_or (written a (discard row P o).changes) j 0 ≡ 0
  unfolding discard release_at
  discard-zero P o a j e =
      let M : Plan → Type 0 = λ r. get_or (written a r.changes) j 0 ≡ 0 in
      on_block_lem row pos M P (start row o) (release_at row) e e
      (λ p _ _ _. choose_case M (any is_live (p.lower ++ p.upper)) _ _ (λ t. zero-put (owned row p) (slot_bytes p.cls) a j e)
      (λ t. zero-put (base row p) (row * rows_of row p.cls) a j e))

  -- ---- every call

  -- What a plan does to an arena: tables and arena agree afterwards, the block that it names is undamaged, and what a block gains is zero.
  pub record Kept (P : Pool) (c : Call) (a : List ℕ) (l : Plan) : Type 0 where
    pub agrees : Agrees (cells row l.pool) (written a l.changes)
    pub whole : damaged row a l.checks ≡ Ok tt
    pub cleared : Cleared row P c l.answer (written a l.changes)

  -- a pool with no groups, over zeros
  pub fresh_agrees : (n : ℕ) → Agrees (cells row (fresh_pool n)) (zeros (row * n))
  fresh_agrees n = subst (λ l. Agrees l (zeros (row * n))) (sym (fresh_pool-cells row n)) (agrees_due (zeros (row * n)))

  module _ (P : Pool) (w : T (well_formed P)) (a : List ℕ) (g : Agrees (cells row P) a) where
    refused_kept : (c : Call) (r : Refusal) → Kept P c a (refused r P)
    unfolding Cleared
    refused_kept c r = record { agrees = g; whole = refl; cleared = λ z. absurd (refuses r z) }

    -- a live block of the pool
    block_fits : (p : Place) (h : ℕ) → Named row P h p → Fits p
    block_fits p h b = fits p (subst (λ Q. T (well_formed Q)) (sym b.pool) w)

    block_agrees : (p : Place) (h : ℕ) → Named row P h p → Agrees (cells row (pool_of p)) a
    block_agrees p h b = subst (λ Q. Agrees (cells row Q) a) (sym b.pool) g

    block_whole : (p : Place) (h : ℕ) → Named row P h p → damaged row a (Some p) ≡ Ok tt
    block_whole p h b = undamaged row pos p (block_fits p h b) a b.live (block_agrees p h b)

    release_kept : (h : ℕ) → Kept P (releases h) a (release row P h)
    unfolding release Cleared
    release_kept h =
        on_named row pos P (Kept P (releases h) a) (refused_kept (releases h)) h (release_at row)
        (λ p b. record {
          agrees = released p a (block_fits p h b) b.live (block_agrees p h b);
          whole = ap (damaged row a) (release_parts row p).0 ∙ block_whole p h b;
          cleared = λ z i g. elim g [ ];
        })

    -- a refusal that names its block
    refused_on_kept : (c : Call) (r : Refusal) (p : Place) (h : ℕ) → Named row P h p → Kept P c a (refused_on r P p)
    unfolding Cleared
    refused_on_kept c r p h b = record { agrees = g; whole = block_whole p h b; cleared = λ z. absurd (refuses r z) }

    -- the block that a call names is the live one at the start of its handle
    named_only : (p q : Place) (h : ℕ) → Named row P h p → LiveAt row P (start_of h) q → q ≡ p
    named_only p q h b l =
        place_unique row pos p q (subst (λ Q. T (well_formed Q)) (sym b.pool) w) (l.here.slotted.pool ∙ sym b.pool) (l.here.starts ∙ sym b.starts)

    in_place_kept : (p : Place) (h n : ℕ) → Named row P h p → T (fits_in_place p n) → Kept P (resizes_in_place h n) a (resize_at row p n)
    unfolding resize_at fits_in_place Cleared
    in_place_kept p h n b t =
        let f : Fits p = block_fits p h b in
        let l : n ≤ slot_bytes p.cls - 4 - 16 * disp p.state = leb→le _ _ (and_left (leb n (slot_bytes p.cls - 4 - 16 * disp p.state)) _ t) in
        let k : ℕ = min (size p.state) n in
        let x : List ℕ = put (start row p - 4) (header p.cls (slot_number p) (disp p.state) n) a in
        record {
          agrees = resized row pos p f b.live a n (omega (arith, disp_inside p.cls p.state f.class f.state)) (block_agrees p h b);
          whole = block_whole p h b;
          cleared = λ z i g.
              let (from, to) : (start row p + size p.state ≤ i) × (i < start row p + n) = elim g [
                | gains_in_place q l f t ↦
                    subst (λ (q : Place). (start row q + size q.state ≤ i) × (i < start row q + n)) (named_only p q h b l) (f, t)
              ] in
              zeros-put (start row p + k) [] (n - k) (spare (reserved p.cls (disp p.state) n)) x i (omega (arith, from)) (omega (arith, to));
        }

    pub arena_length : length a ≡ row * rows row P
    arena_length = agrees_length g ∙ cells-length row pos P w

    pub set_up-zero : put 0 (zeros (row * rows row P)) a ≡ zeros (row * rows row P)
    set_up-zero = put_all (zeros (row * rows row P)) a (zeros-length (row * rows row P) ∙ sym arena_length)

  -- in an arena of whole units, where a handle tells the start
  module _ (u : row % 16 ≡ 0) (P : Pool) (w : T (well_formed P)) (a : List ℕ) (g : Agrees (cells row P) a) where
    -- "a grant of n is made while the old block is live, that many bytes are copied, then the old is released"
    moved_kept : (p q : Place) (h n : ℕ) → Named row P h p → Askable (align p.state) n → reserve row P (align p.state) n ≡ Some q
        → Kept P (moves h n) a (move_to row P p n (Some q))
    unfolding Cleared
    moved_kept p q h n b s r =
        let m : ℕ = align p.state in
        let k : ℕ = min (size p.state) n in
        let x : List ℕ = write a (enframe row q) in
        let bs : List ℕ = part (start row p) k x in
        let z : size q.state ≡ n = reserve-size row P m n q w r in
        let j : length bs ≤ k = omega (arith, length-take k (drop (start row p) x)) in
        let w' : T (well_formed (pool_of q)) = (reserve_formed row P m n q w s r).formed in
        let y : Agrees (cells row (pool_of q)) (put (start row q) bs x) =
        copied row pos q (fits q w') (reserve-live row P m n q (served row P m n q w r)) x bs (omega arith) (reserve_agrees P m n q w s r a g) in
        record {
          agrees = discarded (pool_of q) p (put (start row q) bs x) w' y;
          whole = block_whole P w a g p h b;
          cleared = λ _ i y'.
              let (from, to) : (start row q + size p.state ≤ i) × (i < start row q + n) =
              subst (λ v. (v + size p.state ≤ i) × (i < v + n)) (start_cleared row u q) (elim y' [
                | gains_move o l f t ↦
                    subst (λ (o : Place). (start_of (handle row q) + size o.state ≤ i) × (i < start_of (handle row q) + n)) (named_only P w a g p o h b l)
                    (f, t)
              ]) in
              discard-zero (pool_of q) p (put (start row q) bs x) i
              (put-past (start row q) bs x i 0 (omega (arith, from)) ∙ framed row q a i (omega (arith, from)) (omega (arith, to)));
        }

    -- a call that grants a block, whose bytes it gains
    granted_kept : (c : Call) (k n : ℕ) (q : Place) → Askable k n → reserve row P k n ≡ Some q
        → ((i : ℕ) → Gains row P c (done (handle row q ∷ [])) i → (start_of (handle row q) ≤ i) × (i < start_of (handle row q) + n))
        → Kept P c a (grant_at row P (Some q))
    unfolding Cleared
    granted_kept c k n q h e gains = record {
      agrees = reserve_agrees P k n q w h e a g;
      whole = refl;
      cleared = λ z i x.
          let (from, to) = subst (λ v. (v ≤ i) × (i < v + n)) (start_cleared row u q) (gains i x) in
          framed row q a i from (omega (arith, to, reserve-size row P k n q w e));
    }

    pub plan_kept : (c : Call) → Kept P c a (plan row P c)
    unfolding plan measure report Cleared
    plan_kept sets_up = record {
      agrees = subst (λ l. Agrees (cells row (fresh_pool (rows row P))) l) (sym (set_up-zero P w a g)) (fresh_agrees (rows row P));
      whole = refl;
      cleared = λ z i g. elim g [ ];
    }
    plan_kept (grants n) =
        on_grant row pos P (Kept P (grants n) a) (refused_kept P w a g (grants n)) ordinary n (lit≤ tt) (lit≤ tt)
        (λ q h e. granted_kept (grants n) ordinary n q h e (λ i x. elim x [ gains_grant f t ↦ (f, t) ]))
    plan_kept (grants_aligned n b) =
        on_aligned row pos P (Kept P (grants_aligned n b) a) (refused_kept P w a g (grants_aligned n b)) n b
        (λ q h e. granted_kept (grants_aligned n b) (code_of b) n q h e (λ i x. elim x [ gains_aligned f t ↦ (f, t) ]))
    plan_kept (releases h) = release_kept P w a g h
    plan_kept (resizes_in_place h n) =
        let c : Call = resizes_in_place h n in
        on_in_place row pos P (Kept P c a) (refused_kept P w a g c) w h n (λ p b t. in_place_kept P w a g p h n b t)
        (λ p b. refused_on_kept P w a g c NotInPlace p h b)
    plan_kept (moves h n) =
        let c : Call = moves h n in
        on_move row pos P (Kept P c a) (refused_kept P w a g c) w h n (λ p b. refused_on_kept P w a g c NoRoom p h b)
        (λ p q b s e. moved_kept p q h n b s e)
    plan_kept (measures h) =
        on_named row pos P (Kept P (measures h) a) (refused_kept P w a g (measures h)) h (measure_at row P)
        (λ p b. record { agrees = g; whole = block_whole P w a g p h b; cleared = λ z i g. elim g [ ] })
    plan_kept reports = record { agrees = g; whole = refl; cleared = λ z i g. elim g [ ] }
    plan_kept (grants_list total cap places ns) =
        let c : Call = grants_list total cap places ns in
        on_list row (Kept P c a) P total cap places ns (refused_kept P w a g c)
        (λ qs h e. record {
          agrees = list_agrees P ns qs w h e a g;
          whole = refl;
          cleared = λ z i x. list_clears row pos u P ns qs w h e a i (elim x
              [ gains_list y ↦ y ]);
        })
