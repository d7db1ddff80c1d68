-- What a change of one group is to the totals of the pool.
use Rattle.mem.proofs.Prelude.{◌∙◌, ◌≡◌, ap, refl, true, false, Bool, not, true≢false, List, [], ◌∷◌, ◌++◌, map, ◌+◌, ℕ, ◌<◌, ◌≤◌, ◌*◌, arith, T}
use Rattle.mem.proofs.Prelude.{replicate}
use Rattle.mem.specs.Lists.{choose, any, sum}
use Rattle.mem.specs.Bytes.{bit}
use Rattle.mem.proofs.Laws.{sum-append, sum-replicate}
use Rattle.classes.specs.Classes.{slots_of, rows_of}
use Rattle.model.specs.declared.Alloc.{Alloc}
use Rattle.model.specs.declared.Slot.{Slot}
use Rattle.model.specs.declared.Slot.TheVariants.{Fresh, Idle, Live}
use Rattle.model.specs.declared.Totals.{Totals}
use Rattle.model.specs.State.{Span, Pool, Place, free, group, is_ready, is_waiting, is_live, size, well_formed, pool_of, become, rows}
use Rattle.model.specs.Plans.{Site, turn_ready, refill, grant_slot, grant_in, vacant, fresh_pool, slot_sum, free_row, held_rows, totals}
use Rattle.model.proofs.Counts.{Few, totals_few}
use Rattle.model.proofs.Reserve as reserve
use Rattle.totals.specs.Changes.{refills, Small, Makes, Takes, Gives, Drops, Sizes}

-- the totals of a sound pool are small
pub totals-small : (row : ℕ) → 0 < row → (P : Pool) → T (well_formed P) → rows row P ≤ 512 → Small (totals row P)
totals-small row pos P t h =
    let f = totals_few row pos P t h in
    record {
      blocks = omega (arith, f.blocks);
      bytes = omega (arith, f.bytes);
      held = omega (arith, f.held);
      free = omega (arith, f.free);
      ready = omega (arith, f.ready);
      waiting = omega (arith, f.waiting);
    }

-- and so they are after a change
pub made-small : (r k : ℕ) (t s : Totals) → Makes r k t s → Few t → r ≤ 512 → k ≤ 31 → Small s
made-small r k t s m f hr hk = record {
  blocks = omega (arith, m.blocks, f.blocks);
  bytes = omega (arith, m.bytes, f.bytes);
  held = omega (arith, m.held, f.held);
  free = omega (arith, m.free, f.free);
  ready = omega (arith, m.ready, f.ready);
  waiting = omega (arith, m.waiting, f.waiting);
}

pub given-small : (n : ℕ) (t s : Totals) → Gives n t s → Few t → Small s
given-small n t s m f = record {
  blocks = omega (arith, m.blocks, f.blocks);
  bytes = omega (arith, m.bytes, f.bytes);
  held = omega (arith, m.held, f.held);
  free = omega (arith, m.free, f.free);
  ready = omega (arith, m.ready, f.ready);
  waiting = omega (arith, m.waiting, f.waiting);
}

pub dropped-small : (n r a w : ℕ) (t s : Totals) → Drops n r a w t s → Few t → r ≤ 512 → Small s
dropped-small n r a w t s m f hr = record {
  blocks = omega (arith, m.blocks, f.blocks);
  bytes = omega (arith, m.bytes, f.bytes);
  held = omega (arith, m.held, f.held);
  free = omega (arith, m.free, f.free);
  ready = omega (arith, m.ready, f.ready);
  waiting = omega (arith, m.waiting, f.waiting);
}

pub sized-small : (k n : ℕ) (t s : Totals) → Sizes k n t s → Few t → n ≤ 131051 → Small s
sized-small k n t s m f hn = record {
  blocks = omega (arith, m.blocks, f.blocks);
  bytes = omega (arith, m.bytes, f.bytes);
  held = omega (arith, m.held, f.held);
  free = omega (arith, m.free, f.free);
  ready = omega (arith, m.ready, f.ready);
  waiting = omega (arith, m.waiting, f.waiting);
}

-- totals are their six numbers
-- ---- sums over slots

abbrev ready_in : Slot → ℕ
ready_in x = bit (is_ready x)

abbrev waiting_in : Slot → ℕ
waiting_in x = bit (is_waiting x)

abbrev live_in : Slot → ℕ
live_in x = bit (is_live x)

-- what a slot counts, by its condition
pub record Idles (x : Slot) (r w : ℕ) : Type 0 where
  pub live : live_in x ≡ 0
  pub bytes : size x ≡ 0
  pub ready : ready_in x ≡ r
  pub waiting : waiting_in x ≡ w

ready_counts : (x : Slot) → T (is_ready x) → Idles x 1 0
ready_counts Fresh t = record { live = refl; bytes = refl; ready = refl; waiting = refl }
ready_counts (Idle true k d) t = record { live = refl; bytes = refl; ready = refl; waiting = refl }
ready_counts (Idle false k d) t = absurd t
ready_counts (Live a) t = absurd t

live_counts : (x : Slot) → T (is_live x) → (live_in x ≡ 1) × (ready_in x ≡ 0) × (waiting_in x ≡ 0)
live_counts Fresh t = absurd t
live_counts (Idle r k d) t = absurd t
live_counts (Live a) t = (refl, refl, refl)

-- slots of which none is live
idle_sums : (ss : List Slot) → any is_live ss ≡ false → (sum live_in ss ≡ 0) × (sum size ss ≡ 0)
idle_sums [] e = (refl, refl)
idle_sums (Fresh ∷ ss) e = let f = idle_sums ss e in (omega (arith, f.0), omega (arith, f.1))
idle_sums (Idle r k d ∷ ss) e = let f = idle_sums ss e in (omega (arith, f.0), omega (arith, f.1))
idle_sums (Live a ∷ ss) e = absurd (true≢false e)

-- a refill
pub record Refills (ss rs : List Slot) (k : ℕ) : Type 0 where
  pub live : sum live_in rs ≡ sum live_in ss
  pub bytes : sum size rs ≡ sum size ss
  pub ready : sum ready_in rs ≡ sum ready_in ss + k
  pub waiting : sum waiting_in rs + k ≡ sum waiting_in ss

turned : (ss : List Slot) → any is_ready ss ≡ false → Refills ss (map turn_ready ss) (sum waiting_in ss)
turned [] e = record { live = refl; bytes = refl; ready = refl; waiting = refl }
turned (Fresh ∷ ss) e = absurd (true≢false e)
turned (Idle true k d ∷ ss) e = absurd (true≢false e)
turned (Idle false k d ∷ ss) e =
    let t = turned ss e in
    record {
      live = omega (arith, t.live);
      bytes = omega (arith, t.bytes);
      ready = omega (arith, t.ready);
      waiting = omega (arith, t.waiting);
    }
turned (Live a ∷ ss) e =
    let t = turned ss e in
    record {
      live = omega (arith, t.live);
      bytes = omega (arith, t.bytes);
      ready = omega (arith, t.ready);
      waiting = omega (arith, t.waiting);
    }

refilled : (ss : List Slot) → Refills ss (refill ss) (refills ss)
unfolding refill refills choose
refilled ss = go (any is_ready ss) refl
  where
    go : (b : Bool) → any is_ready ss ≡ b → Refills ss (choose b ss (map turn_ready ss)) (choose b 0 (sum waiting_in ss))
    go true e = record { live = refl; bytes = refl; ready = omega arith; waiting = omega arith }
    go false e = turned ss e

-- ---- totals over spans

-- what a run of free rows counts, between others
gap : (f : Span → ℕ) (X : Pool) (n : ℕ) (Y : Pool) → sum f (X ++ (fresh_pool n ++ Y)) ≡ sum f X + (f free * n + sum f Y)
gap f X n Y = omega (arith, sum-append f X (fresh_pool n ++ Y), sum-append f (fresh_pool n) Y, sum-replicate f n free)

module _ (row : ℕ) where
  -- a group is made at a run of free rows
  pub made-totals : (X : Pool) (c : ℕ) (Y : Pool) → Makes (rows_of row c) (slots_of c) (totals row (X ++ (fresh_pool (rows_of row c) ++ Y)))
      (totals row (X ++ (group c (replicate (slots_of c) Fresh) ∷ Y)))
  unfolding totals
  made-totals X c Y =
      let R = rows_of row c in
      let S = slots_of c in
      let G = group c (replicate S Fresh) ∷ Y in
      record {
        blocks = omega (arith, sum-append (slot_sum live_in) X G, gap (slot_sum live_in) X R Y, sum-replicate live_in S Fresh);
        bytes = omega (arith, sum-append (slot_sum size) X G, gap (slot_sum size) X R Y, sum-replicate size S Fresh);
        held = omega (arith, sum-append (held_rows row) X G, gap (held_rows row) X R Y);
        free = omega (arith, sum-append free_row X G, gap free_row X R Y);
        ready = omega (arith, sum-append (slot_sum ready_in) X G, gap (slot_sum ready_in) X R Y, sum-replicate ready_in S Fresh);
        waiting = omega (arith, sum-append (slot_sum waiting_in) X G, gap (slot_sum waiting_in) X R Y, sum-replicate waiting_in S Fresh);
      }

  -- a ready slot of the group of a site is taken
  pub taken-totals : (c k n : ℕ) (g : Site) → T (any (λ x. not (is_live x)) g.slots)
      → Takes n (refills g.slots) (totals row (g.before ++ (group c g.slots ∷ g.after))) (totals row (pool_of (grant_in row c k n g)))
  unfolding totals grant_in grant_slot
  taken-totals c code n g spare =
      let q = grant_in row c code n g in
      let k = reserve.grant-taken row c code n g spare in
      let x = ready_counts k.old k.ready in
      let r = refilled g.slots in
      let A = group c g.slots ∷ g.after in
      let B = group c (q.lower ++ (q.state ∷ q.upper)) ∷ g.after in
      let old : (f : Slot → ℕ) → sum f (refill g.slots) ≡ sum f q.lower + (f k.old + sum f q.upper) =
      λ f. ap (sum f) k.slots ∙ sum-append f q.lower (k.old ∷ q.upper) in
      let new : (f : Slot → ℕ) → sum f (q.lower ++ (q.state ∷ q.upper)) ≡ sum f q.lower + (f q.state + sum f q.upper) =
      λ f. sum-append f q.lower (q.state ∷ q.upper) in
      record {
        blocks = omega (arith, sum-append (slot_sum live_in) g.before A, sum-append (slot_sum live_in) g.before B, old live_in, new live_in, x.live, r.live);
        bytes = omega (arith, sum-append (slot_sum size) g.before A, sum-append (slot_sum size) g.before B, old size, new size, x.bytes, r.bytes);
        held = omega (arith, sum-append (held_rows row) g.before A, sum-append (held_rows row) g.before B);
        free = omega (arith, sum-append free_row g.before A, sum-append free_row g.before B);
        ready = omega (
          arith,
          sum-append (slot_sum ready_in) g.before A,
          sum-append (slot_sum ready_in) g.before B,
          old ready_in,
          new ready_in,
          x.ready,
          r.ready,
        );
        waiting = omega (
          arith,
          sum-append (slot_sum waiting_in) g.before A,
          sum-append (slot_sum waiting_in) g.before B,
          old waiting_in,
          new waiting_in,
          x.waiting,
          r.waiting,
        );
      }

  module _ (p : Place) (l : T (is_live p.state)) where
    -- what a pool counts around the slot of a place, in whatever state
    at_slot : (f : Slot → ℕ) (x : Slot) → sum (slot_sum f) (pool_of (become p x))
        ≡ sum (slot_sum f) p.before + (sum f p.lower + (f x + sum f p.upper) + sum (slot_sum f) p.after)
    at_slot f x =
        omega (
          arith,
          sum-append (slot_sum f) p.before (group p.cls (p.lower ++ (x ∷ p.upper)) ∷ p.after),
          sum-append f p.lower (x ∷ p.upper),
        )

    -- the rows around it
    at_group : (f : Span → ℕ) (x : Slot) → sum f (pool_of (become p x))
        ≡ sum f p.before + (f (group p.cls (p.lower ++ (x ∷ p.upper))) + sum f p.after)
    at_group f x = sum-append f p.before (group p.cls (p.lower ++ (x ∷ p.upper)) ∷ p.after)

    live : (live_in p.state ≡ 1) × (ready_in p.state ≡ 0) × (waiting_in p.state ≡ 0)
    live = live_counts p.state l

    -- the slot is given back
    pub given-totals : Gives (size p.state) (totals row (pool_of p)) (totals row (pool_of (become p (vacant p))))
    unfolding totals
    given-totals = record {
      blocks = omega (arith, at_slot live_in p.state, at_slot live_in (vacant p), live.0);
      bytes = omega (arith, at_slot size p.state, at_slot size (vacant p));
      held = omega (arith, at_group (held_rows row) p.state, at_group (held_rows row) (vacant p));
      free = omega (arith, at_group free_row p.state, at_group free_row (vacant p));
      ready = omega (arith, at_slot ready_in p.state, at_slot ready_in (vacant p), live.1);
      waiting = omega (arith, at_slot waiting_in p.state, at_slot waiting_in (vacant p), live.2);
    }

    -- the block gets another size
    pub sized-totals : (a : Alloc) → Sizes (size p.state) a.size (totals row (pool_of p)) (totals row (pool_of (become p (Live a))))
    unfolding totals
    sized-totals a = record {
      blocks = omega (arith, at_slot live_in p.state, at_slot live_in (Live a), live.0);
      bytes = omega (arith, at_slot size p.state, at_slot size (Live a));
      fits = omega (arith, at_slot size p.state);
      held = omega (arith, at_group (held_rows row) p.state, at_group (held_rows row) (Live a));
      free = omega (arith, at_group free_row p.state, at_group free_row (Live a));
      ready = omega (arith, at_slot ready_in p.state, at_slot ready_in (Live a), live.1);
      waiting = omega (arith, at_slot waiting_in p.state, at_slot waiting_in (Live a), live.2);
    }

    -- the group goes with it
    pub dropped-totals : any is_live (p.lower ++ p.upper) ≡ false
        → Drops (size p.state) (rows_of row p.cls) (sum ready_in (p.lower ++ (p.state ∷ p.upper))) (sum waiting_in (p.lower ++ (p.state ∷ p.upper)))
        (totals row (pool_of p)) (totals row (p.before ++ (fresh_pool (rows_of row p.cls) ++ p.after)))
    unfolding totals
    dropped-totals none =
        let R = rows_of row p.cls in
        let z = idle_sums (p.lower ++ p.upper) none in
        let away : (f : Span → ℕ) → sum f (p.before ++ (fresh_pool R ++ p.after)) ≡ sum f p.before + (f free * R + sum f p.after) =
        λ f. gap f p.before R p.after in
        record {
          blocks = omega (arith, at_slot live_in p.state, away (slot_sum live_in), live.0, z.0, sum-append live_in p.lower p.upper);
          bytes = omega (arith, at_slot size p.state, away (slot_sum size), z.1, sum-append size p.lower p.upper);
          held = omega (arith, at_group (held_rows row) p.state, away (held_rows row));
          free = omega (arith, at_group free_row p.state, away free_row);
          ready = omega (arith, at_group (slot_sum ready_in) p.state, away (slot_sum ready_in));
          waiting = omega (arith, at_group (slot_sum waiting_in) p.state, away (slot_sum waiting_in));
        }
