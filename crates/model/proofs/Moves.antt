-- A block that moves: in the pool that the grant makes it lives on where it was, beside the new block, and is given back by its place.
use Rattle.mem.proofs.Prelude.{◌∙◌, ◌≡◌, sym, ap, ap₂, subst, ⊎_elim, inl, inr, ◌⊎◌, Some, ◌+◌, ℕ, ◌<◌, ◌≤◌, ◌*◌, arith, T}
use Rattle.classes.specs.Classes.{slot_bytes}
use Rattle.classes.specs.Alignments.{Askable}
use Rattle.classes.proofs.Laws.{bytes_least}
use Rattle.model.specs.declared.Slot.{Slot}
use Rattle.model.specs.declared.Slot.TheVariants.{Fresh, Idle, Live}
use Rattle.model.specs.State.{Pool, Place, is_live, granted, disp, well_formed, pool_of, owned, start, SameSlot}
use Rattle.model.specs.Plans.{on_block, lookup, release_at, discard, reserve}
use Rattle.model.proofs.Lookup.{fits, lookup-start, owned_unique, owned_apart}
use Rattle.model.proofs.Calls.{on_live}
use Rattle.model.proofs.Reserve.{reserve_formed}
use Rattle.model.proofs.Stays.{Stays, reserve-keeps, reserve_other}

pub live-granted : (x : Slot) → T (is_live x) → T (granted x)
live-granted Fresh l = l
live-granted (Idle r k d) l = tt
live-granted (Live a) l = tt

module _ (row : ℕ) where
  -- one slot of two pools owns the same bytes, and in one state it has the same start
  pub slot_owned : (p q : Place) → SameSlot row p q → owned row q ≡ owned row p
  slot_owned p q s = omega (arith, ap (λ r. row * r) s.first, ap₂ (λ i c. i * slot_bytes c) s.number s.cls)

  pub stays_start : (p q : Place) → Stays row p q → start row q ≡ start row p
  stays_start p q s = omega (arith, slot_owned p q s.slot, ap disp s.state)

  module _ (pos : 0 < row) where
    -- a slot is one place of its pool
    pub slot_unique : (p q : Place) → T (well_formed (pool_of p)) → pool_of q ≡ pool_of p → SameSlot row p q → q ≡ p
    slot_unique p q w e s =
        let i : owned row q ≡ owned row p = slot_owned p q s in
        let b : 0 < slot_bytes p.cls = omega (arith, bytes_least p.cls (fits p w).class) in
        owned_unique row pos p q (owned row p) w e (record { from = omega arith; to = omega arith })
        (record { from = omega (arith, i); to = omega (arith, i, ap slot_bytes s.cls) })

    -- a live block is given back
    pub discard_found : (p : Place) → T (well_formed (pool_of p)) → T (is_live p.state) → discard row (pool_of p) p ≡ release_at row p
    unfolding discard
    discard_found p w l =
        ap (on_block (pool_of p) (release_at row)) (lookup-start row pos p w (live-granted p.state l)) ∙ on_live (pool_of p) (release_at row) p l

    module _ (P : Pool) (w : T (well_formed P)) (k n : ℕ) (small : Askable k n) (q : Place) (found : reserve row P k n ≡ Some q)
        (p : Place) (here : pool_of p ≡ P) (lives : T (is_live p.state)) where
      -- the old block in the pool that a grant makes
      pub record Old : Type 0 where
        pub place : Place
        pub pool : pool_of place ≡ pool_of q
        pub stays : Stays row p place
        pub live : T (is_live place.state)
        pub formed : T (well_formed (pool_of place))
        pub other : place ≡ q → ⊥

      pub old : Old
      old =
          let (p', e, s) = reserve-keeps row P k n q w found p here lives in
          record {
            place = p';
            pool = e;
            stays = s;
            live = subst (λ x. T (is_live x)) (sym s.state) lives;
            formed = subst (λ Q. T (well_formed Q)) (sym e) (reserve_formed row P k n q w small found).formed;
            other = λ z. reserve_other row pos P k n q w found p here lives (subst (SameSlot row p) z s.slot);
          }

      pub old_released : discard row (pool_of q) p ≡ release_at row old.place
      unfolding discard
      old_released =
          ap₂ (λ P o. on_block P (release_at row) (lookup row P o)) (sym old.pool) (sym (stays_start p old.place old.stays))
          ∙ discard_found old.place old.formed old.live

      -- the bytes of the two slots are apart
      pub old_apart : (owned row p + slot_bytes p.cls ≤ owned row q) ⊎ (owned row q + slot_bytes q.cls ≤ owned row p)
      old_apart =
          let o : Place = old.place in
          let e : owned row o ≡ owned row p = slot_owned p o old.stays.slot in
          let f : slot_bytes o.cls ≡ slot_bytes p.cls = ap slot_bytes old.stays.slot.cls in
          ⊎_elim (λ x. inl (omega (arith, x))) (λ x. inr (omega (arith, x)))
          (owned_apart row pos o q old.formed (sym old.pool) (λ z. old.other (sym z)))
