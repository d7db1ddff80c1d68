-- What a list of grants does to the arena: it leaves the requested bytes of live blocks, and those of its own blocks are zero when it ends.
use Rattle.mem.proofs.Prelude.{◌∙◌, ◌≡◌, sym, ap, subst, ⊎_elim, inl, inr, Some, List, ◌∷◌, ◌++◌, append_assoc, map, ◌+◌, ℕ, ◌<◌, ◌≤◌, ◌*◌, ◌%◌, refl, arith, T}
use Rattle.mem.proofs.Prelude.{length, get_or, length-append}
use Rattle.mem.specs.Bytes.{zeros, put}
use Rattle.mem.proofs.Laws.{zeros-length, zeros-put, put-before, put-past}
use Rattle.classes.specs.Classes.{slot_bytes}
use Rattle.classes.specs.Alignments.{ordinary, Askable}
use Rattle.model.specs.State.{Pool, Place, is_live, disp, size, well_formed, pool_of, slot_number, owned, start, handle}
use Rattle.model.specs.Blocks.{reserved, header, spare, frame}
use Rattle.model.specs.Plans.{reserve, enframe, reserve_all}
use Rattle.model.specs.Calls.{write, written}
use Rattle.model.proofs.Lookup.{Fits, fits, disp_inside}
use Rattle.model.proofs.Reserve.{plain, served, reserve_formed, reserve-size}
use Rattle.model.proofs.Blocks.{header-length, frame-length}
use Rattle.model.proofs.Moves.{Old, old, old_apart, stays_start}
use Rattle.model.proofs.Lists.{small, by_grants}
use Rattle.claims.specs.Demand3.{GainsEach}
use Rattle.model.proofs.Handles.{start_cleared}
use Rattle.claims.proofs.Cases.{reserve-live}

module _ (row : ℕ) where
  -- a framed block's requested bytes are zero
  pub framed : (q : Place) (a : List ℕ) (i : ℕ) → start row q ≤ i → i < start row q + size q.state → get_or (write a (enframe row q)) i 0 ≡ 0
  unfolding enframe frame
  framed q a i h₁ h₂ =
      let c : ℕ = q.cls in
      let d : ℕ = disp q.state in
      let n : ℕ = size q.state in
      let Z : List ℕ = zeros (16 * d) in
      let H : List ℕ = header c (slot_number q) d n in
      let R : List ℕ = zeros n ++ spare (reserved c d n) in
      let l : length (Z ++ H) ≡ 16 * d + 4 = simp (length-append, zeros-length, header-length) in
      ap (λ bs. get_or (put (owned row q) bs a) i 0) (sym (append_assoc Z H R))
      ∙ zeros-put (owned row q) (Z ++ H) n (spare (reserved c d n)) a i (omega arith) (omega arith)

  module _ (pos : 0 < row) where
    -- the writes of grants leave the requested bytes of a pool's live blocks
    abbrev Leaves : Pool → List Place → Type 0
    Leaves P qs = (p : Place) → pool_of p ≡ P → T (is_live p.state) → (a : List ℕ) (i : ℕ) → start row p ≤ i → i < start row p + size p.state
        → get_or (written a (map (enframe row) qs)) i 0 ≡ get_or a i 0

    module _ (P : Pool) (j n : ℕ) (q : Place) (w : T (well_formed P)) (s : Askable j n) (r : reserve row P j n ≡ Some q) where
      grant-leaves : (p : Place) → pool_of p ≡ P → T (is_live p.state) → (a : List ℕ) (i : ℕ) → start row p ≤ i → i < start row p + size p.state
          → get_or (write a (enframe row q)) i 0 ≡ get_or a i 0
      unfolding enframe
      grant-leaves p e t a i h₁ h₂ =
          let fp : Fits p = fits p (subst (λ Q. T (well_formed Q)) (sym e) w) in
          let fq : Fits q = fits q (reserve_formed row P j n q w s r).formed in
          let ip : 16 * disp p.state + size p.state + 4 ≤ slot_bytes p.cls = disp_inside p.cls p.state fp.class fp.state in
          let iq : 16 * disp q.state + size q.state + 4 ≤ slot_bytes q.cls = disp_inside q.cls q.state fq.class fq.state in
          let bs : List ℕ = frame q.cls (slot_number q) (disp q.state) (size q.state) in
          let z : length bs ≡ slot_bytes q.cls = frame-length q.cls (slot_number q) (disp q.state) (size q.state) iq in
          ⊎_elim (λ x. put-before (owned row q) bs a i 0 (omega (arith, x, ip, h₂))) (λ x. put-past (owned row q) bs a i 0 (omega (arith, x, z, h₁)))
          (old_apart row pos P w j n s q r p e t)

      leaves-more : (qs : List Place) → Leaves (pool_of q) qs → Leaves P (q ∷ qs)
      leaves-more qs k p e t a i h₁ h₂ =
          let o : Old row pos P w j n s q r p e t = old row pos P w j n s q r p e t in
          let b : start row o.place ≡ start row p = stays_start row p o.place o.stays in
          let c : size o.place.state ≡ size p.state = ap size o.stays.state in
          k o.place o.pool o.live (write a (enframe row q)) i (omega (arith, b, h₁)) (omega (arith, b, c, h₂)) ∙ grant-leaves p e t a i h₁ h₂

    abbrev Clears : Pool → List ℕ → List Place → Type 0
    Clears P ns qs = Leaves P qs × ((a : List ℕ) (i : ℕ) → GainsEach row (map (handle row) qs) ns i → get_or (written a (map (enframe row) qs)) i 0 ≡ 0)

    clears_more : row % 16 ≡ 0 → (P : Pool) (n : ℕ) (ns : List ℕ) (q : Place) (qs : List Place) → T (well_formed P) → reserve row P ordinary n ≡ Some q
        → Clears (pool_of q) ns qs → (a : List ℕ) (i : ℕ) → GainsEach row (map (handle row) (q ∷ qs)) (n ∷ ns) i
        → get_or (written a (map (enframe row) (q ∷ qs))) i 0 ≡ 0
    clears_more u P n ns q qs w r k a i (inl g) =
        let z : size q.state ≡ n = reserve-size row P ordinary n q w r in
        let (from, to) = subst (λ s. (s ≤ i) × (i < s + n)) (start_cleared row u q) g in
        k.0 q refl (reserve-live row P ordinary n q (served row P ordinary n q w r)) (write a (enframe row q)) i from (omega (arith, to, z))
        ∙ framed q a i from (omega (arith, to, z))
    clears_more u P n ns q qs w r k a i (inr g) = k.1 (write a (enframe row q)) i g

    pub list_clears : row % 16 ≡ 0 → (P : Pool) (ns : List ℕ) (qs : List Place) → T (well_formed P) → T (small ns) → reserve_all row P ns ≡ Some qs
        → (a : List ℕ) (i : ℕ) → GainsEach row (map (handle row) qs) ns i → get_or (written a (map (enframe row) qs)) i 0 ≡ 0
    list_clears u P ns qs w h e =
        (by_grants row Clears (λ P. ((λ p e t a i h₁ h₂. refl), λ a i g. absurd g))
        (λ P n ns q qs w s r k. (leaves-more P ordinary n q w (plain s) r qs k.0, clears_more u P n ns q qs w r k)) P ns qs w h e).1
