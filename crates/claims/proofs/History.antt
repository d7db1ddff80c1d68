-- The history of report: what the tables count to is what the calls since the last set up come to.
use Rattle.mem.proofs.Prelude.{◌∙◌, ◌≡◌, sym, ap, refl, ap₂, subst, true, Bool, false, ◌&&◌, not, true≢false, Some, List, [], ◌∷◌, ◌++◌, append_assoc, map, ◌+◌}
use Rattle.mem.proofs.Prelude.{ℕ, ◌<◌, ◌≤◌, ◌*◌, suc, ◌/◌, ◌%◌, zero, add-zero, zero-add, add_assoc, mul-div_cancel_left, arith, eqb-false, eqb-true, T, eqb}
use Rattle.mem.proofs.Prelude.{eqb_refl, lit≤, length, length-append, replicate}
use Rattle.mem.specs.Lists.{choose, any, sum}
use Rattle.mem.specs.Bytes.{bit}
use Rattle.mem.proofs.Tests.{T_true, true-T, choose-true, choose_case, and_right, eq→eqb}
use Rattle.classes.specs.Classes.{slot_bytes, slots_of, rows_of}
use Rattle.classes.specs.Alignments.{ordinary, code_of, Askable}
use Rattle.model.specs.declared.Slot.{Slot}
use Rattle.model.specs.declared.Slot.TheVariants.{Fresh, Idle, Live}
use Rattle.model.specs.declared.Refusal.{Refusal}
use Rattle.model.specs.State.{Span, Pool, Place, free, group, is_live, is_ready, disp, size, well_formed, pool_of, become, slot_number, rows_in, rows, beginning}
use Rattle.model.specs.State.{handle, count, align, use_bits}
use Rattle.model.specs.Plans.{Plan, turn_ready, refill, reserve, vacant, release_at, fresh_pool, refused, release, discard, resize_at, move_to, measure_at}
use Rattle.model.specs.Plans.{slot_sum, totals, report, measure, reserve_all, pool_after, plan}
use Rattle.model.specs.Plans.{Call, sets_up, grants, grants_aligned, releases, resizes_in_place, moves, measures, reports, grants_list}
use Rattle.model.proofs.Lists.{small, by_grants, on_list}
use Rattle.model.specs.Calls.{Form, FormLaws, Outcome, Stands, call_by, set_up_by, set_up_right_by}
use Rattle.model.proofs.Rooms.{rows_append}
use Rattle.model.proofs.Counts.{held_free}
use Rattle.model.proofs.Fresh.{fresh-rows, fresh_formed, whole_units, set_up_lawful, set_up-done, set_up-sound}
use Rattle.model.proofs.Lookup.{placed, group_of, place_unique}
use Rattle.model.proofs.Reserve.{Served, served, reserve-size}
use Rattle.model.proofs.Formed.{any_middle, plan_formed}
use Rattle.model.proofs.Calls.{Asks}
use Rattle.model.proofs.Moves.{Old, old, old_released}
use Rattle.claims.specs.History.{LedgerBlock, Ledger, opening, without, entered_grant, entered_each}
use Rattle.claims.specs.History.{entered, Asked, booked, books_after, Balances, ReportTells, History}
use Rattle.model.proofs.Handles.{same_start, stays_handle}
use Rattle.claims.proofs.Cases.{reserve-live, taken-same, refuses, by_call, Named, on_named, on_grant, on_aligned, on_in_place, on_move}
use Rattle.claims.proofs.Demand1.{demand1}
use Rattle.claims.proofs.Demand2.{Accepted, accepted, set_up_accepted, sound-leaves}
use Rattle.claims.proofs.AsSaid.{reports_as_said}

-- ---- What a pool weighs: each live block as much as f says of its handle and size. That the blocks of a ledger and of a pool are the same,
-- in whatever order, is said so: whatever f says, they weigh the same.

-- a slot that begins at b
unfoldable weight : (LedgerBlock → ℕ) → ℕ → Slot → ℕ
weight f b x = choose (is_live x) (f (record { handle = b + 16 * disp x + use_bits (count x); size = size x })) 0

-- a live block
abbrev entry : ℕ → Place → LedgerBlock
entry row p = record { handle = handle row p; size = size p.state }

ready_weight : (f : LedgerBlock → ℕ) (b : ℕ) (x : Slot) → T (is_ready x) → weight f b x ≡ 0
unfolding weight choose
ready_weight f b Fresh t = refl
ready_weight f b (Idle r k d) t = refl
ready_weight f b (Live a) t = absurd t

fresh_idle : (n : ℕ) → any is_live (replicate n Fresh) ≡ false
fresh_idle zero = refl
fresh_idle (suc n) = fresh_idle n

module _ (row : ℕ) (f : LedgerBlock → ℕ) where
  -- slots of a group of class c whose first row is r, from number i on
  abbrev weigh_slots : ℕ → ℕ → ℕ → List Slot → ℕ
  weigh_slots r c i [] = 0
  weigh_slots r c i (x ∷ xs) = weight f (row * r + 16 + i * slot_bytes c) x + weigh_slots r c (suc i) xs

  -- spans from row r on
  abbrev weigh_span : ℕ → Span → ℕ
  weigh_span r free = 0
  weigh_span r (group c ss) = weigh_slots r c 0 ss

  abbrev weigh : ℕ → Pool → ℕ
  weigh r [] = 0
  weigh r (s ∷ P) = weigh_span r s + weigh (r + rows_in row s) P

  slots-append : (r c i : ℕ) (us vs : List Slot) → weigh_slots r c i (us ++ vs) ≡ weigh_slots r c i us + weigh_slots r c (i + length us) vs
  slots-append r c i [] vs = omega (arith, ap (λ j. weigh_slots r c j vs) (add-zero i))
  slots-append r c i (u ∷ us) vs =
      let e : suc i + length us ≡ i + suc (length us) = omega arith in
      omega (arith, slots-append r c (suc i) us vs, ap (λ j. weigh_slots r c j vs) e)

  weigh_append : (r : ℕ) (X Y : Pool) → weigh r (X ++ Y) ≡ weigh r X + weigh (r + rows row X) Y
  weigh_append r [] Y = omega (arith, ap (λ k. weigh k Y) (add-zero r))
  weigh_append r (s ∷ X) Y =
      omega (arith, weigh_append (r + rows_in row s) X Y, ap (λ k. weigh k Y) (add_assoc r (rows_in row s) (rows row X)))

  fresh_weigh : (r n : ℕ) → weigh r (fresh_pool n) ≡ 0
  fresh_weigh r zero = refl
  fresh_weigh r (suc n) = omega (arith, fresh_weigh (r + 1) n)

  -- what follows X
  behind : (X Y : Pool) → weigh 0 (X ++ Y) ≡ weigh 0 X + weigh (rows row X) Y
  behind X Y = omega (arith, weigh_append 0 X Y, ap (λ k. weigh k Y) (zero-add (rows row X)))

  none-live : (r c i : ℕ) (ss : List Slot) → any is_live ss ≡ false → weigh_slots r c i ss ≡ 0
  unfolding weight choose
  none-live r c i [] e = refl
  none-live r c i (Fresh ∷ ss) e = omega (arith, none-live r c (suc i) ss e)
  none-live r c i (Idle b k d ∷ ss) e = omega (arith, none-live r c (suc i) ss e)
  none-live r c i (Live a ∷ ss) e = absurd (true≢false e)

  -- a group with no live slot weighs what free rows do
  idle_weigh : (X : Pool) (c : ℕ) (ss : List Slot) (Y : Pool) → any is_live ss ≡ false
      → weigh 0 (X ++ (group c ss ∷ Y)) ≡ weigh 0 (X ++ (fresh_pool (rows_of row c) ++ Y))
  idle_weigh X c ss Y e =
      let F : Pool = fresh_pool (rows_of row c) in
      omega (
        arith,
        behind X (group c ss ∷ Y),
        none-live (rows row X) c 0 ss e,
        behind X (F ++ Y),
        weigh_append (rows row X) F Y,
        fresh_weigh (rows row X) (rows_of row c),
        ap (λ j. weigh (rows row X + j) Y) (fresh-rows row (rows_of row c)),
      )

  turned_weigh : (r c i : ℕ) (ss : List Slot) → weigh_slots r c i (map turn_ready ss) ≡ weigh_slots r c i ss
  unfolding weight choose
  turned_weigh r c i [] = refl
  turned_weigh r c i (Fresh ∷ ss) = omega (arith, turned_weigh r c (suc i) ss)
  turned_weigh r c i (Idle b k d ∷ ss) = omega (arith, turned_weigh r c (suc i) ss)
  turned_weigh r c i (Live a ∷ ss) = omega (arith, turned_weigh r c (suc i) ss)

  refill_weigh : (r c : ℕ) (ss : List Slot) → weigh_slots r c 0 (refill ss) ≡ weigh_slots r c 0 ss
  unfolding refill
  refill_weigh r c ss =
      choose_case (λ l. weigh_slots r c 0 l ≡ weigh_slots r c 0 ss) (any is_ready ss) _ _ (λ e. refl) (λ e. turned_weigh r c 0 ss)

  -- ---- a pool with one slot in another state

  -- all but the slot of a place
  unfoldable rest : Place → ℕ
  rest p =
      let r : ℕ = rows row p.before in
      weigh 0 p.before + (weigh_slots r p.cls 0 p.lower + weigh_slots r p.cls (suc (slot_number p)) p.upper)
      + weigh (r + rows_of row p.cls) p.after

  place_weigh : (p : Place) → weigh 0 (pool_of p) ≡ rest p + weight f (beginning row p) p.state
  unfolding rest
  place_weigh p =
      let r : ℕ = rows row p.before in
      omega (
        arith,
        slots-append r p.cls 0 p.lower (p.state ∷ p.upper),
        ap (λ j. weigh_slots r p.cls j (p.state ∷ p.upper)) (zero-add (slot_number p)),
        behind p.before (group_of p ∷ p.after),
      )

  live_weigh : (p : Place) → T (is_live p.state) → weigh 0 (pool_of p) ≡ rest p + f (entry row p)
  unfolding weight
  live_weigh p l = place_weigh p ∙ ap (λ k. rest p + k) (choose-true (is_live p.state) _ 0 (T_true (is_live p.state) l))

  released_weigh : (p : Place) → weigh 0 (release_at row p).pool ≡ rest p
  unfolding release_at rest weight choose
  released_weigh p =
      choose_case (λ (r : Plan). weigh 0 r.pool ≡ rest p) (any is_live (p.lower ++ p.upper)) _ _ (λ e. omega (arith, place_weigh (become p (vacant p))))
      (λ e. omega (
        arith,
        idle_weigh p.before p.cls (p.lower ++ (vacant p ∷ p.upper)) p.after (any_middle is_live p.lower (vacant p) p.upper ∙ e),
        place_weigh (become p (vacant p)),
      ))

  -- the slot that a grant takes
  reserve_weigh : (P : Pool) (k n : ℕ) (q : Place) → T (well_formed P) → reserve row P k n ≡ Some q
      → weigh 0 (pool_of q) ≡ f (record { handle = handle row q; size = n }) + weigh 0 P
  unfolding rest
  reserve_weigh P k n q w e =
      let v : Served row P k n q = served row P k n q w e in
      let x : Slot = v.taken.old in
      omega (
        arith,
        live_weigh q (reserve-live row P k n q v),
        ap (λ m. f (record { handle = handle row q; size = m })) (reserve-size row P k n q w e),
        place_weigh (become q x),
        ready_weight f (beginning row q) x v.taken.ready,
        taken-same row (weigh 0)
            (λ X c ss Y. omega (arith, behind X (group c (refill ss) ∷ Y), behind X (group c ss ∷ Y), refill_weigh (rows row X) c ss))
            (λ X c Y. idle_weigh X c (replicate (slots_of c) Fresh) Y (fresh_idle (slots_of c)))
            P k n q v,
      )

  -- ---- a pool weighs nothing where no live block does

  slots-zero : (X : Pool) (c : ℕ) (us xs : List Slot) (Y : Pool)
      → ((p : Place) → pool_of p ≡ X ++ (group c (us ++ xs) ∷ Y) → T (is_live p.state) → f (entry row p) ≡ 0) → weigh_slots (rows row X) c (length us) xs ≡ 0
  unfolding weight
  slots-zero X c us [] Y h = refl
  slots-zero X c us (x ∷ xs) Y h =
      let l : length (us ++ (x ∷ [])) ≡ suc (length us) = omega (arith, length-append us (x ∷ [])) in
      let p : Place = placed X c us x xs Y in
      omega (
        arith,
        choose_case (λ k. k ≡ 0) (is_live x) (f (entry row p)) 0 (λ e. h p refl (true-T (is_live x) e)) (λ e. refl),
        slots-zero X c (us ++ (x ∷ [])) xs Y (λ q e. h q (e ∙ ap (λ l. X ++ (group c l ∷ Y)) (append_assoc us (x ∷ []) xs))),
        ap (λ j. weigh_slots (rows row X) c j xs) l,
      )

  weigh_zero : (X P : Pool) → ((p : Place) → pool_of p ≡ X ++ P → T (is_live p.state) → f (entry row p) ≡ 0) → weigh (rows row X) P ≡ 0
  weigh_zero X [] h = refl
  weigh_zero X (s ∷ P) h =
      omega (
        arith,
        span s h,
        weigh_zero (X ++ (s ∷ [])) P (λ p e. h p (e ∙ append_assoc X (s ∷ []) P)),
        ap (λ k. weigh k P) (rows_append row X (s ∷ []) ∙ ap (λ k. rows row X + k) (add-zero (rows_in row s))),
      )
    where
      span : (s : Span) → ((p : Place) → pool_of p ≡ X ++ (s ∷ P) → T (is_live p.state) → f (entry row p) ≡ 0) → weigh_span (rows row X) s ≡ 0
      span free h = refl
      span (group c ss) h = slots-zero X c [] ss P h

-- ---- a block struck from a ledger

module _ (b : LedgerBlock) where
  -- a block of the same handle, and one of another size
  abbrev meets : LedgerBlock → ℕ
  meets e = bit (eqb e.handle b.handle)

  abbrev strays : LedgerBlock → ℕ
  strays e = bit (eqb e.handle b.handle && not (eqb e.size b.size))

  without-sum : (f : LedgerBlock → ℕ) (es : List LedgerBlock) → sum strays es ≡ 0 → 1 ≤ sum meets es → sum f (without b.handle es) + f b ≡ sum f es
  without-sum f [] h k = absurd (omega arith)
  without-sum f (e ∷ es) h k =
      choose_case (λ l. sum f l + f b ≡ f e + sum f es) (eqb e.handle b.handle) es (e ∷ without b.handle es)
      (λ q.
      let m : e.size ≡ b.size = same (eqb e.size b.size) refl (rw q at h) in
      let n : e.handle ≡ b.handle = eqb-true e.handle b.handle q in
      omega (arith, ap₂ (λ x y. f (record { handle = x; size = y })) n m))
      (λ q. omega (arith, without-sum f es (omega (arith, rw q at h)) (omega (arith, rw q at k))))
    where
      same : (c : Bool) → eqb e.size b.size ≡ c → bit (not c) + sum strays es ≡ 0 → e.size ≡ b.size
      same true q h = eqb-true e.size b.size q
      same false q h = absurd (omega arith)

-- ---- calls on a pool whose live blocks are those of a ledger

module _ (row : ℕ) where
  -- the ledger's blocks are the pool's live ones, and they are as many as its grants less its releases
  record Tallies (l : Ledger) (P : Pool) : Type 0 where
    sums : (f : LedgerBlock → ℕ) → sum f l.blocks ≡ weigh row f 0 P
    count : sum (λ e. 1) l.blocks + l.released ≡ l.granted

  fresh_tallies : (n : ℕ) → Tallies opening (fresh_pool n)
  fresh_tallies n = record { sums = λ f. sym (fresh_weigh row f 0 n); count = refl }

  -- a grant, with whatever alignment
  grant_tallies : (P : Pool) (k n : ℕ) (q : Place) → T (well_formed P) → reserve row P k n ≡ Some q → (l : Ledger) → Tallies l P
      → Tallies (entered_grant l (handle row q) n) (pool_of q)
  grant_tallies P k n q w r l t = record { sums = λ f. omega (arith, t.sums f, reserve_weigh row f P k n q w r); count = omega (arith, t.count) }

  -- each entry of a list is a grant
  list_tallies : (P : Pool) (ns : List ℕ) (qs : List Place) → T (well_formed P) → T (small ns) → reserve_all row P ns ≡ Some qs
      → (l : Ledger) → Tallies l P → Tallies (entered_each l (map (handle row) qs) ns) (pool_after P qs)
  list_tallies =
      by_grants row (λ P ns qs. (l : Ledger) → Tallies l P → Tallies (entered_each l (map (handle row) qs) ns) (pool_after P qs)) (λ P l t. t)
      (λ P n ns q qs w h r k l t. k _ (grant_tallies P ordinary n q w r l t))

  module _ (pos : 0 < row) (u : row % 16 ≡ 0) (P : Pool) (w : T (well_formed P)) (l : Ledger) (t : Tallies l P) where
    -- the ledger's block that has the handle of a live block of the pool is that one
    struck : (p : Place) (h : ℕ) → Named row P h p → (f : LedgerBlock → ℕ) → sum f (without h l.blocks) + f (entry row p) ≡ sum f l.blocks
    struck p h n f =
        subst (λ k. sum f (without k l.blocks) + f b ≡ sum f l.blocks) n.present
        (without-sum b f l.blocks (t.sums (strays b) ∙ weigh_zero row (strays b) [] P (λ q i _. one q i (eqb (handle row q) (handle row p)) refl))
        (omega (
          arith,
          t.sums (meets b),
          ap (weigh row (meets b) 0) n.pool,
          live_weigh row (meets b) p n.live,
          ap bit (T_true (eqb (handle row p) (handle row p)) (eqb_refl (handle row p))),
        )))
      where
        b : LedgerBlock
        b = entry row p

        one : (q : Place) → pool_of q ≡ P → (c : Bool) → eqb (handle row q) (handle row p) ≡ c → bit (c && not (eqb (size q.state) (size p.state))) ≡ 0
        one q i true e =
            let w' : T (well_formed (pool_of p)) = subst (λ Q. T (well_formed Q)) (sym n.pool) w in
            let z : q ≡ p = place_unique row pos p q w' (i ∙ sym n.pool) (same_start row u p q (eqb-true (handle row q) (handle row p) e)) in
            ap (λ c. bit (not c)) (T_true (eqb (size q.state) (size p.state)) (eq→eqb _ _ (ap (λ r. size r.state) z)))
        one q i false e = refl

    -- the ledger after an accepted plan
    abbrev Enters : Call → Plan → Type 0
    Enters c r = r.answer.number ≡ 0 → Tallies (entered l c r.answer) r.pool

    refused_enters : (c : Call) (r : Refusal) → Enters c (refused r P)
    refused_enters c r z = absurd (refuses r z)

    release_enters : (h : ℕ) (p : Place) → Named row P h p → Enters (releases h) (release_at row p)
    release_enters h p n z =
        record {
          sums = λ g. omega (arith, struck p h n g, t.sums g, ap (weigh row g 0) n.pool, live_weigh row g p n.live, released_weigh row g p);
          count = omega (arith, struck p h n (λ e. 1), t.count);
        }

    in_place_enters : (h m : ℕ) (p : Place) → Named row P h p → Enters (resizes_in_place h m) (resize_at row p m)
    unfolding resize_at rest
    in_place_enters h m p n z =
        let q : Place = become p (Live (record { count = count p.state; disp = disp p.state; size = m; align = align p.state })) in
        record {
          sums = λ g.
              omega (
                arith,
                struck p h n g,
                t.sums g,
                ap (weigh row g 0) n.pool,
                live_weigh row g p n.live,
                live_weigh row g q tt,
                ap (λ v. g (record { handle = v; size = m })) n.present,
              );
          count = omega (arith, struck p h n (λ e. 1), t.count);
        }

    -- the old block is where it was when the new one has been granted
    moved_enters : (h m : ℕ) (p q : Place) → Named row P h p → Askable (align p.state) m → reserve row P (align p.state) m ≡ Some q
        → Enters (moves h m) (move_to row P p m (Some q))
    moved_enters h m p q n s e z =
        let k : ℕ = align p.state in
        let y : Old row pos P w k m s q e p n.pool n.live = old row pos P w k m s q e p n.pool n.live in
        let p' : Place = y.place in
        let i : handle row p' ≡ handle row p = stays_handle row p p' y.stays in
        let d : discard row (pool_of q) p ≡ release_at row p' = old_released row pos P w k m s q e p n.pool n.live in
        record {
          sums = λ g.
              omega (
                arith,
                struck p h n g,
                t.sums g,
                reserve_weigh row g P k m q w e,
                ap (weigh row g 0) y.pool,
                live_weigh row g p' y.live,
                ap₂ (λ x y. g (record { handle = x; size = y })) i (ap size y.stays.state),
                released_weigh row g p',
                ap (λ (r : Plan). weigh row g 0 r.pool) d,
              );
          count = omega (arith, struck p h n (λ e. 1), t.count);
        }

    plan_enters : (c : Call) → Enters c (plan row P c)
    unfolding plan release measure report
    plan_enters sets_up = λ z. fresh_tallies (rows row P)
    plan_enters (grants m) =
        on_grant row pos P (Enters (grants m)) (refused_enters (grants m)) ordinary m (lit≤ tt) (lit≤ tt)
        (λ q h e z. grant_tallies P ordinary m q w e l t)
    plan_enters (grants_aligned m b) =
        on_aligned row pos P (Enters (grants_aligned m b)) (refused_enters (grants_aligned m b)) m b (λ q h e z. grant_tallies P (code_of b) m q w e l t)
    plan_enters (releases h) =
        on_named row pos P (Enters (releases h)) (refused_enters (releases h)) h (release_at row) (λ p n. release_enters h p n)
    plan_enters (resizes_in_place h m) =
        on_in_place row pos P (Enters (resizes_in_place h m)) (refused_enters (resizes_in_place h m)) w h m (λ p n i. in_place_enters h m p n)
        (λ p n z. absurd (omega arith))
    plan_enters (moves h m) =
        on_move row pos P (Enters (moves h m)) (refused_enters (moves h m)) w h m (λ p n z. absurd (omega arith))
        (λ p q n s e. moved_enters h m p q n s e)
    plan_enters (measures h) = on_named row pos P (Enters (measures h)) (refused_enters (measures h)) h (measure_at row P) (λ p n z. t)
    plan_enters reports = λ z. t
    plan_enters (grants_list total cap places ns) =
        let c : Call = grants_list total cap places ns in
        on_list row (Enters c) P total cap places ns (refused_enters c) (λ qs h e z. list_tallies P ns qs w h e l t)

-- ---- what report counts

-- a sum over slots of which only the live ones count
total_weigh : (row : ℕ) (g : Slot → ℕ) (f : LedgerBlock → ℕ) → ((b : ℕ) (x : Slot) → g x ≡ weight f b x)
    → (r : ℕ) (P : Pool) → sum (slot_sum g) P ≡ weigh row f r P
total_weigh row g f h r [] = refl
total_weigh row g f h r (free ∷ P) = ap (λ k. 0 + k) (total_weigh row g f h (r + 1) P)
total_weigh row g f h r (group c ss ∷ P) = ap₂ (λ j k. j + k) (slots 0 ss) (total_weigh row g f h (r + rows_of row c) P)
  where
    slots : (i : ℕ) (ss : List Slot) → sum g ss ≡ weigh_slots row f r c i ss
    slots i [] = refl
    slots i (x ∷ ss) = ap₂ (λ j k. j + k) (h (row * r + 16 + i * slot_bytes c) x) (slots (suc i) ss)

-- ---- a list of calls

module _ (row : ℕ) (pos : 0 < row) (F : Form) (L : FormLaws row F) (n : ℕ) where
  -- tables that are sound for an arena of n bytes, with the blocks of a ledger
  record Kept (l : Ledger) (t : F.Kept) : Type 0 where
    tables : T (F.sound n t)
    tallies : Tallies row l (F.view t)

  kept_counts : (l : Ledger) (t : F.Kept) → Kept l t → Balances row l (totals row (F.view t)) n
  unfolding totals weight choose
  kept_counts l t k =
      let P : Pool = F.view t in
      record {
        blocks = omega (arith, total_weigh row (λ x. bit (is_live x)) (λ e. 1) live_one 0 P, k.tallies.sums (λ e. 1), k.tallies.count);
        bytes = total_weigh row size (λ e. e.size) live-size 0 P ∙ sym (k.tallies.sums (λ e. e.size));
        rows = held_free row P ∙ sym (ap (λ m. m / row) (L.only n t k.tables).0.long ∙ mul-div_cancel_left (rows row P) pos);
      }
    where
      live_one : (b : ℕ) (x : Slot) → bit (is_live x) ≡ weight (λ e. 1) b x
      live_one b x = choose_case (λ k. bit (is_live x) ≡ k) (is_live x) 1 0 (ap bit) (ap bit)

      live-size : (b : ℕ) (x : Slot) → size x ≡ weight (λ e. e.size) b x
      live-size b Fresh = refl
      live-size b (Idle r k d) = refl
      live-size b (Live a) = refl

  -- an accepted set up
  fresh_kept : (a : List ℕ) (t : F.Kept) → T (set_up_right_by row F a t) → length a ≡ n → Kept opening (set_up_by row F a t).kept
  fresh_kept a t h e =
      let Q : Pool = fresh_pool (length a / row) in
      subst (λ (r : Outcome F.Kept). Kept opening r.kept) (sym (set_up-done row F a t h)) (record {
        tables = subst (λ m. T (F.sound m (F.encode Q))) e (set_up-sound row F a t h L);
        tallies = subst (Tallies row opening) (sym (L.says Q (fresh_formed (length a / row)))) (fresh_tallies row (length a / row));
      })

  -- one call, over whatever arena
  module _ (l : Ledger) (a : List ℕ) (t : F.Kept) (k : Kept l t) where
    s : Stands row n (F.view t)
    s = (L.only n t k.tables).0

    abbrev Keeps : Call → Type 0
    Keeps c = (call_by row F a t c).answer.number ≡ 0 → Kept (entered l c (call_by row F a t c).answer) (call_by row F a t c).kept

    -- a call but set up is accepted only over an arena of n bytes
    asks_kept : (c : Call) → Asks c → Keeps c
    asks_kept c i z =
        let y : Accepted row pos F L a t c = accepted row pos F L a t c i z in
        let P : Pool = F.view t in
        let e : length a ≡ n = (L.only (length a) t y.sound-tables).0.long ∙ sym s.long in
        let p : Plan = plan row P c in
        record {
          tables = subst (λ m. T (F.sound m (call_by row F a t c).kept)) e (sound-leaves row pos F L a t y.sound-tables c).tables;
          tallies =
              subst (λ (r : Outcome F.Kept). Tallies row (entered l c r.answer) (F.view r.kept)) (sym y.left)
              (subst (Tallies row (entered l c p.answer))
              (sym (L.says p.pool (plan_formed row pos P c s.formed).formed))
              (plan_enters row pos (whole_units row n s.lawful) P s.formed l k.tallies c
              (ap (λ (r : Outcome F.Kept). r.answer.number) (sym y.left) ∙ z)));
        }

    -- a set up too, since what is lent tells the arena's length
    set_up_kept : Keeps sets_up
    unfolding call_by set_up_right_by
    set_up_kept z =
        let h : T (set_up_right_by row F a t) = set_up_accepted row pos F L a t z in
        let (s, e) = L.only n t k.tables in
        let f : T (F.fits (length a) (F.encode (F.view t))) = subst (λ u. T (F.fits (length a) u)) e (search and_right) in
        fresh_kept a t h (L.sized n (length a) (F.view t) s (set_up_lawful row F a t h) f)

    call_kept : (c : Call) → Kept (booked l c (call_by row F a t c).answer) (call_by row F a t c).kept
    call_kept c =
        choose_case (λ m. Kept m (call_by row F a t c).kept) (eqb (call_by row F a t c).answer.number 0) _ _
        (λ e. by_call Keeps set_up_kept asks_kept c (eqb-true (call_by row F a t c).answer.number 0 e))
        (λ e. subst (Kept l) (sym ((demand1 row pos F L a t c).refused (eqb-false (call_by row F a t c).answer.number 0 e)).1) k)

  calls_kept : (l : Ledger) (t : F.Kept) (cs : List Asked) → Kept l t → Kept (books_after row F l t cs).ledger (books_after row F l t cs).kept
  unfolding books_after
  calls_kept l t [] k = k
  calls_kept l t (c ∷ cs) k =
      let r = call_by row F c.arena t c.asks in
      calls_kept (booked l c.asks r.answer) r.kept cs (call_kept l c.arena t k c.asks)

  -- what report gives over an arena of n bytes
  kept_told : (b : List ℕ) → length b ≡ n → (l : Ledger) (t : F.Kept) → Kept l t → ReportTells row F b (record { ledger = l; kept = t }) n
  kept_told b e l t k = record {
    totals = totals row (F.view t);
    given = reports_as_said row F b t (subst (λ m. T (F.sound m t)) (sym e) k.tables);
    counts = kept_counts l t k;
  }

-- what is lent after any calls from an accepted set up on
module _ (row : ℕ) (pos : 0 < row) (F : Form) (L : FormLaws row F) where
  run_kept : (a : List ℕ) (t : F.Kept) (cs : List Asked) → T (set_up_right_by row F a t) → (let k = books_after row F opening (set_up_by row F a t).kept cs in
      Kept row pos F L (length a) k.ledger k.kept)
  run_kept a t cs h = calls_kept row pos F L (length a) opening (set_up_by row F a t).kept cs (fresh_kept row pos F L (length a) a t h refl)

  pub history_sound : (a : List ℕ) (t : F.Kept) (cs : List Asked) → T (set_up_right_by row F a t)
      → T (F.sound (length a) (books_after row F opening (set_up_by row F a t).kept cs).kept)
  history_sound a t cs h = (run_kept a t cs h).tables

  pub history : History row F
  history a t cs b h e = kept_told row pos F L (length a) b e _ _ (run_kept a t cs h)
