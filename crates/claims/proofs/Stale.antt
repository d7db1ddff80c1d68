-- Stale handles: a slot's count tells how often it was granted since a block in it ended; while that is fewer than sixteen times, the bits of the
-- block's handle are not those of a live block there.
use Rattle.mem.proofs.Prelude.{◌∙◌, ◌≡◌, sym, ap, refl, subst, true, Bool, false, inl, inr, List, [], ◌∷◌, ◌++◌, ℕ, ◌+◌, ◌-◌, ◌/◌, ◌%◌, ◌<◌, ◌≤◌, ◌*◌}
use Rattle.mem.proofs.Prelude.{arith, T, eqb, eqb-true, eqb-false, length}
use Rattle.classes.specs.Classes.{slot_bytes}
use Rattle.classes.proofs.Laws.{bytes-units}
use Rattle.model.specs.declared.Slot.{Slot}
use Rattle.model.specs.State.{Pool, Place, is_live, count, disp, size, align, well_formed, use_bits, start_of, pool_of, start, SameSlot, handle}
use Rattle.model.specs.Plans.{Plan, release_at, release, fresh_pool, plan, vacant, Call, sets_up, moves}
use Rattle.model.specs.Calls.{Form, FormLaws, Outcome, call_by}
use Rattle.model.proofs.Fresh.{whole_units, fresh_formed}
use Rattle.model.proofs.Tables.{count_small}
use Rattle.model.proofs.Lookup.{fits, disp_inside, place_unique, owned_unique}
use Rattle.model.proofs.Stays.{slot_after, slot_back, no_group}
use Rattle.model.proofs.Moves.{slot_owned, Old, old, old_released}
use Rattle.model.proofs.Formed.{plan_formed}
use Rattle.model.proofs.Calls.{Asks}
use Rattle.claims.specs.Demand2.{Intact}
use Rattle.claims.specs.History.{Asked}
use Rattle.claims.specs.Alignment.{sizes_in_place, sizes-move}
use Rattle.claims.specs.Stale.{Uses, uses_release, uses_sized, uses_measure, Ends, ends_release, ends_move}
use Rattle.claims.specs.Stale.{Steps, StartsCleared, CountsStep, Remains, RemainsAll, after, StaleRefused}
use Rattle.model.proofs.Handles.{start_cleared}
use Rattle.claims.proofs.Cases.{refuses, by_call, Named, on_named, on_move}
use Rattle.claims.proofs.Demand1.{demand1}
use Rattle.claims.proofs.Demand2.{Accepted, accepted, measures_exactly}
use Rattle.claims.proofs.AsSaid.{sets_up_as_said, releases_as_said}
use Rattle.claims.proofs.Resizes.{in_place_as_said, moves_as_said}
use Rattle.claims.proofs.Stays.{sound_formed, accepted_pool}
use Rattle.claims.proofs.Slots.{given_back, as_it_was, plan-steps}

pub starts_cleared : (row : ℕ) (F : Form) → FormLaws row F → StartsCleared row F
starts_cleared row F L n t p s e = start_cleared row (whole_units row n (L.only n t s).0.lawful) p

-- set up ends no block by its handle
ends_asks : {h : ℕ} (c : Call) → Ends c h → Asks c
ends_asks c ends_release = tt
ends_asks c ends_move = tt

-- ---- what a call leaves of the pool

module _ (row : ℕ) (pos : 0 < row) (F : Form) (L : FormLaws row F) where
  -- a refused call leaves it, a set up makes a fresh one, and any other leaves that of its plan
  after_call : (a : List ℕ) (t : F.Kept) (M : Call → Pool → Type 0) → ((c : Call) → M c (F.view t)) → ((n : ℕ) → M sets_up (fresh_pool n))
      → ((c : Call) → Asks c → M c (plan row (F.view t) c).pool) → (c : Call) → M c (F.view (call_by row F a t c).kept)
  after_call a t M as_is fresh planned c = go (eqb (call_by row F a t c).answer.number 0) refl
    where
      go : (b : Bool) → eqb (call_by row F a t c).answer.number 0 ≡ b → M c (F.view (call_by row F a t c).kept)
      go true e =
          by_call (λ c. (call_by row F a t c).answer.number ≡ 0 → M c (F.view (call_by row F a t c).kept))
          (λ z. subst (M sets_up) (sym (sets_up_as_said row pos F L a t z).pool) (fresh (length a / row)))
          (λ c k z. subst (M c) (sym (accepted_pool row pos F L a t c (accepted row pos F L a t c k z))) (planned c k)) c
          (eqb-true (call_by row F a t c).answer.number 0 e)
      go false e =
          subst (λ (u : F.Kept). M c (F.view u))
          (sym ((demand1 row pos F L a t c).refused (eqb-false (call_by row F a t c).answer.number 0 e)).1) (as_is c)

  call_formed : (a : List ℕ) (t : F.Kept) (c : Call) → T (well_formed (F.view t)) → T (well_formed (F.view (call_by row F a t c).kept))
  call_formed a t c w =
      after_call a t (λ _ P. T (well_formed P)) (λ _. w) fresh_formed (λ c _. (plan_formed row pos (F.view t) c w).formed) c

  -- a slot over a call
  call-steps : (a : List ℕ) (t : F.Kept) (c : Call) (p q : Place) → T (well_formed (F.view t)) → pool_of p ≡ F.view t
      → pool_of q ≡ F.view (call_by row F a t c).kept → SameSlot row p q → Steps c p.state q.state
  call-steps a t c p q w e =
      after_call a t (λ c P. pool_of q ≡ P → SameSlot row p q → Steps c p.state q.state)
      (λ c. as_it_was row pos (F.view t) w p e c q)
      (λ n f _. absurd (no_group n q.cls (q.lower ++ (q.state ∷ q.upper)) q.before q.after (sym f)))
      (λ c k. plan-steps row pos (F.view t) w p e c k (plan_formed row pos (F.view t) c w).formed q) c

  pub counts_step : CountsStep row F
  counts_step a t c p q s e f = call-steps a t c p q (sound_formed row pos F L a t s) e f

  -- ---- a block that a call ends

  module _ (P : Pool) (w : T (well_formed P)) (h : ℕ) (p : Place) (e : pool_of p ≡ P) (starts : start row p ≡ start_of h) where
    -- its slot is not live, and has its count
    abbrev Idles : Place → Type 0
    Idles q = (count q.state ≡ count p.state) × (T (is_live q.state) → ⊥)

    abbrev EndedBy : Plan → Type 0
    EndedBy r = r.answer.number ≡ 0 → (q : Place) → pool_of q ≡ r.pool → SameSlot row p q → Idles q

    -- the block that the handle names
    the_block : (o : Place) → Named row P h o → o ≡ p
    the_block o b = place_unique row pos p o (subst (λ Q. T (well_formed Q)) (sym e) w) (b.pool ∙ sym e) (b.starts ∙ sym starts)

    waits : (o q : Place) → count o.state ≡ count p.state → q.state ≡ vacant o → Idles q
    waits o q k z = (ap count z ∙ k, λ l. subst (λ x. T (is_live x)) z l)

    release_ends : (o : Place) → Named row P h o → (q : Place) → pool_of q ≡ (release_at row o).pool → SameSlot row p q → Idles q
    release_ends o b q f s =
        let z : o ≡ p = the_block o b in
        waits o q (ap (λ p. count p.state) z)
        ((given_back row pos o (subst (λ Q. T (well_formed Q)) (sym b.pool) w) b.live q f).own (subst (λ p. SameSlot row p q) (sym z) s))

    move_ends : (n : ℕ) → EndedBy (plan row P (moves h n))
    unfolding plan
    move_ends n =
        on_move row pos P EndedBy (λ r z. absurd (refuses r z)) w h n (λ o b z. absurd (omega arith))
        (λ o g b s f _ q i u.
        let z : o ≡ p = the_block o b in
        let y : Old row pos P w (align o.state) n s g f o b.pool b.live = old row pos P w (align o.state) n s g f o b.pool b.live in
        waits y.place q (ap count y.stays.state ∙ ap (λ p. count p.state) z)
        ((given_back row pos y.place y.formed y.live q
        (i ∙ ap (λ (r : Plan). r.pool) (old_released row pos P w (align o.state) n s g f o b.pool b.live))).own
        (slot_after row y.place o q (slot_back row o y.place y.stays.slot) (subst (λ p. SameSlot row p q) (sym z) u))))

    plan_ends : (c : Call) → Ends c h → EndedBy (plan row P c)
    unfolding plan release
    plan_ends c ends_release = on_named row pos P EndedBy (λ r z. absurd (refuses r z)) h (release_at row) (λ o b _. release_ends o b)
    plan_ends c (ends_move {n = n}) = move_ends n

  -- the slot of a block in the tables that a call leaves which ends it
  call_ends : (a : List ℕ) (t : F.Kept) (h : ℕ) (p : Place) → Intact row a (F.view t) h p → (c : Call) → (call_by row F a t c).answer.number ≡ 0
      → Ends c h → (q : Place) → pool_of q ≡ F.view (call_by row F a t c).kept → SameSlot row p q
      → (count q.state ≡ count p.state) × (T (is_live q.state) → ⊥)
  call_ends a t h p i c z d q f s =
      let y : Accepted row pos F L a t c = accepted row pos F L a t c (ends_asks c d) z in
      plan_ends (F.view t) (sound_formed row pos F L a t y.sound-tables) h p i.live.here.slotted.pool i.live.here.starts c d
      (ap (λ (r : Outcome F.Kept). r.answer.number) (sym y.left) ∙ z) q (f ∙ accepted_pool row pos F L a t c y) s

  -- a call that is done on a handle has found its block
  call_finds : (b : List ℕ) (t : F.Kept) (h : ℕ) (c : Call) → Uses c h → (call_by row F b t c).answer.number ≡ 0
      → (p : Place) × Intact row b (F.view t) h p
  call_finds b t h c uses_release z = let (p, r) = releases_as_said row pos F L b t h z in (p, r.block)
  call_finds b t h c (uses_sized (sizes_in_place {n = n})) z = let (p, r) = in_place_as_said row pos F L b t h n z in (p, r.block)
  call_finds b t h c (uses_sized (sizes-move {n = n})) z = let (p, r) = moves_as_said row pos F L b t h n z in (p, r.block)
  call_finds b t h c uses_measure z = (measures_exactly row pos F L b t h (accepted row pos F L b t c tt z).sound-tables).0.0 z

-- ---- how often a slot was granted since

-- a slot whose count was k has been granted m times more, fewer than sixteen, and at least once if it is live
record Since (k : ℕ) (x : Slot) : Type 0 where
  times : ℕ
  counts : count x ≡ (k + times) % 256
  few : times < 16
  again : T (is_live x) → 1 ≤ times

since_steps : (c : Call) (k : ℕ) (x y : Slot) → k < 256 → Since k x → Steps c x y → (count y + 256 - k) % 256 < 16 → Since k y
since_steps c k x y l s (inl (e, _, d)) f = record { times = s.times; counts = e ∙ s.counts; few = s.few; again = λ z. s.again (d z) }
since_steps c k x y l s (inr (g, d, e)) f = record {
  times = s.times + 1;
  counts = e ∙ ap (λ j. (j + 1) % 256) s.counts ∙ omega arith;
  few = least s.times s.few (e ∙ ap (λ j. (j + 1) % 256) s.counts);
  again = λ _. omega arith;
}
  where
    least : (m : ℕ) → m < 16 → count y ≡ ((k + m) % 256 + 1) % 256 → m + 1 < 16
    least m b i = omega arith

-- one start and one handle
one_handle : (s t b d : ℕ) → s ≡ t → s + b ≡ t + d → b ≡ d
one_handle s t b d e f = omega arith

-- fewer than sixteen grants later the bits are others
bits_differ : (k m j : ℕ) → j ≡ (k + m) % 256 → 1 ≤ m → m < 16 → use_bits j ≡ use_bits k → ⊥
bits_differ k m j e a b f = omega arith

module _ (row : ℕ) (pos : 0 < row) where
  -- a live block r with the handle of p, which has ended, would be in its slot, now q; but that has been granted since, so the bits are others
  since_refused : (P : Pool) (w : T (well_formed P)) (h : ℕ) (p q r : Place) → T (well_formed (pool_of p)) → start row p ≡ start_of h → handle row p ≡ h
      → pool_of q ≡ P → SameSlot row p q → Since (count p.state) q.state
      → pool_of r ≡ P → T (is_live r.state) → start row r ≡ start_of h → handle row r ≡ h → ⊥
  since_refused P w h p q r v s i e u n f l s' i' =
      let wq : T (well_formed (pool_of q)) = subst (λ Q. T (well_formed Q)) (sym e) w in
      let wr : T (well_formed (pool_of r)) = subst (λ Q. T (well_formed Q)) (sym f) w in
      let dp : 16 * disp p.state + size p.state + 4 ≤ slot_bytes p.cls = disp_inside p.cls p.state (fits p v).class (fits p v).state in
      let dr : 16 * disp r.state + size r.state + 4 ≤ slot_bytes r.cls = disp_inside r.cls r.state (fits r wr).class (fits r wr).state in
      let z : r ≡ q =
      owned_unique row pos q r (start_of h) wq (f ∙ sym e)
      (record { from = omega (arith, slot_owned row p q u, s); to = omega (arith, slot_owned row p q u, s, dp, ap slot_bytes u.cls, bytes-units p.cls) })
      (record { from = omega (arith, s'); to = omega (arith, s', dr, bytes-units r.cls) }) in
      let j : use_bits (count q.state) ≡ use_bits (count p.state) =
      subst (λ x. use_bits (count x.state) ≡ use_bits (count p.state)) z
      (one_handle (start row r) (start row p) (use_bits (count r.state)) (use_bits (count p.state)) (s' ∙ sym s) (i' ∙ sym i)) in
      bits_differ (count p.state) n.times (count q.state) n.counts (n.again (subst (λ p. T (is_live p.state)) z l)) n.few j

-- what holds after every call holds at first
remains_first : (row : ℕ) (F : Form) (p : Place) (t : F.Kept) (cs : List Asked) → RemainsAll row F p t cs → Remains row F p t
unfolding RemainsAll
remains_first row F p t [] r = r
remains_first row F p t (c ∷ cs) r = r.0

pub stale-refused : (row : ℕ) → 0 < row → (F : Form) → FormLaws row F → StaleRefused row F
unfolding RemainsAll after
stale-refused row pos F L a t h p ends i z n cs all b c u y =
    let k : ℕ = count p.state in
    let t₁ : F.Kept = (call_by row F a t ends).kept in
    let r : Remains row F p t₁ = remains_first row F p t₁ cs all in
    let d = call_ends row pos F L a t h p i ends z n r.now r.there r.slot in
    go cs t₁ (call_formed row pos F L a t ends first) r.now r.there r.slot
    (record { times = 0; counts = d.0 ∙ omega (arith, byte); few = omega arith; again = λ l. absurd (d.1 l) }) all y
  where
    first : T (well_formed (F.view t))
    first =
        let k : Asks ends = ends_asks ends n in
        sound_formed row pos F L a t (accepted row pos F L a t ends k z).sound-tables

    formed : T (well_formed (pool_of p))
    formed = subst (λ Q. T (well_formed Q)) (sym i.live.here.slotted.pool) first

    byte : count p.state < 256
    byte = count_small p.cls p.state (fits p formed).state

    go : (cs : List Asked) (t : F.Kept) → T (well_formed (F.view t)) → (q : Place) → pool_of q ≡ F.view t → SameSlot row p q
        → Since (count p.state) q.state → RemainsAll row F p t cs → (call_by row F b (after row F t cs) c).answer.number ≡ 0 → ⊥
    go [] t w q e s m all y =
        let (r, x) = call_finds row pos F L b t h c u y in
        since_refused row pos (F.view t) w h p q r formed i.live.here.starts i.present e s m
        x.live.here.slotted.pool x.live.live x.live.here.starts x.present
    go (x ∷ cs) t w q e s m (_, all) y =
        let t' : F.Kept = (call_by row F x.arena t x.asks).kept in
        let r : Remains row F p t' = remains_first row F p t' cs all in
        let d : Steps x.asks q.state r.now.state =
        call-steps row pos F L x.arena t x.asks q r.now w e r.there (slot_after row q p r.now (slot_back row p q s) r.slot) in
        go cs t' (call_formed row pos F L x.arena t x.asks w) r.now r.there r.slot
        (since_steps x.asks (count p.state) q.state r.now.state byte m d r.few) all y
