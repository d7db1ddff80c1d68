-- A byte is a requested byte of a live block exactly where the cells say so; what agrees with them is fixed everywhere else.
use Rattle.mem.proofs.Prelude.{◌∙◌, ◌≡◌, sym, ap, refl, ap₂, subst, true, Bool, false, ◌&&◌, ◌||◌, true≢false, and-false, List, [], ◌∷◌, ◌++◌, ◌+◌, ℕ}
use Rattle.mem.proofs.Prelude.{◌<◌, ◌*◌, ◌-◌, suc, zero, add-zero, zero-add, mul-add, arith, eq-eqb, ne_eqb, leb-false, leb-true, le-ltb, lt-ltb, T}
use Rattle.mem.proofs.Prelude.{eqb, leb, ltb, leb→le, ltb→lt, le→leb, lt→ltb, T_not, length, get_or, length-append}
use mathlib.Core.Bool.{or-false, or_assoc}
use mathlib.Core.Logic.{◌↔◌}
use native.Mathlib.Nat.{mul-zero}
use Rattle.mem.specs.Lists.{choose, every, any}
use Rattle.mem.specs.Bytes.{zeros}
use Rattle.mem.proofs.Tests.{true-T, and_left, and_right, and_both}
use Rattle.mem.proofs.Laws.{zeros-length}
use Rattle.classes.specs.Classes.{slot_bytes, rows_of}
use Rattle.model.specs.declared.Slot.{Slot}
use Rattle.model.specs.declared.Slot.TheVariants.{Fresh, Idle, Live}
use Rattle.model.specs.State.{Pool, Place, free, group, is_live, granted, size, slot_sound, span_sound, well_formed, pool_of, slot_places, places_from, places, rows}
use Rattle.model.specs.State.{start}
use Rattle.model.proofs.Tables.{group-slots}
use Rattle.model.proofs.Rooms.{rows_append}
use Rattle.model.proofs.Blocks.{header-length}
use Rattle.model.proofs.Lookup.{All, Of, places_of, places_in, placed}
use Rattle.model.proofs.Moves.{live-granted}
use Rattle.claims.specs.Demand3.{covers, requested, SameOutside, RequestedByte}
use Rattle.claims.proofs.Cells.{Cell, due, settled, packet, packets, block_cells, slot_cells, slots_cells, span_cells, cells}
use Rattle.claims.proofs.Cells.{due-length, zeros-due, slot_length, group-length, Agrees, over, more, agrees_length}
use Rattle.claims.proofs.Tables.{refuted}

abbrev pub is_packet : Cell → Bool
is_packet (settled b) = false
is_packet packet = true

-- whether place j holds a packet's cell, in cells that begin at place p
abbrev packet_at : ℕ → ℕ → List Cell → Bool
packet_at p j [] = false
packet_at p j (c ∷ cs) = (eqb p j && is_packet c) || packet_at (suc p) j cs

packet-append : (p j : ℕ) (xs ys : List Cell) → packet_at p j (xs ++ ys) ≡ (packet_at p j xs || packet_at (p + length xs) j ys)
packet-append p j [] ys = ap (λ q. packet_at q j ys) (omega arith)
packet-append p j (x ∷ xs) ys =
    let e : p + length (x ∷ xs) ≡ suc p + length xs = omega arith in simp (packet-append (suc p) j xs ys, or_assoc, e)

packet-due : (p j : ℕ) (bs : List ℕ) → packet_at p j (due bs) ≡ false
packet-due p j [] = refl
packet-due p j (b ∷ bs) = rw (and-false (eqb p j)) (packet-due (suc p) j bs)

packet-below : (p j : ℕ) (cs : List Cell) → j < p → packet_at p j cs ≡ false
packet-below p j [] h = refl
packet-below p j (c ∷ cs) h = let n : p ≡ j → ⊥ = omega arith in rw (ne_eqb p j n) (packet-below (suc p) j cs (omega arith))

packet_here : (p : ℕ) (cs : List Cell) (i : ℕ) → packet_at p (p + i) cs ≡ is_packet (get_or cs i (settled 0))
packet_here p [] i = refl
packet_here p (c ∷ cs) zero =
    let h : p < suc p = omega arith in simp (add-zero, eq-eqb p p refl, packet-below (suc p) p cs h, or-false)
packet_here p (c ∷ cs) (suc i) =
    let n : p ≡ p + suc i → ⊥ = omega arith in
    let q : p + suc i ≡ suc p + i = omega arith in
    rw (ne_eqb p (p + suc i) n, q) (packet_here (suc p) cs i)

run_here : (p n i : ℕ) → is_packet (get_or (packets n) i (settled 0)) ≡ ltb (p + i) (p + n)
run_here p zero i = sym (le-ltb (p + i) (p + 0) (omega arith))
run_here p (suc n) zero = sym (lt-ltb (p + 0) (p + suc n) (omega arith))
run_here p (suc n) (suc i) =
    let e : p + suc i ≡ suc p + i = omega arith in let f : p + suc n ≡ suc p + n = omega arith in rw (e, f) (run_here (suc p) n i)

packet-run : (p j n : ℕ) → packet_at p j (packets n) ≡ (leb p j && ltb j (p + n))
packet-run p j n = go (leb p j) refl
  where
    go : (b : Bool) → leb p j ≡ b → packet_at p j (packets n) ≡ (b && ltb j (p + n))
    go true e =
        let q : p + (j - p) ≡ j = omega (arith, leb-true p j e) in
        subst (λ k. packet_at p k (packets n) ≡ ltb k (p + n)) q (packet_here p (packets n) (j - p) ∙ run_here p n (j - p))
    go false e = packet-below p j (packets n) (leb-false p j e)

-- ---- blocks

any_append : {A : Type 0} (f : A → Bool) (xs ys : List A) → any f (xs ++ ys) ≡ (any f xs || any f ys)
any_append f [] ys = refl
any_append f (x ∷ xs) ys = simp (any_append f xs ys, or_assoc)

block_packets : (c i j q d n : ℕ) → packet_at q j (block_cells c i d n) ≡ (leb (q + 4 + 16 * d) j && ltb j (q + 4 + 16 * d + n))
unfolding block_cells
block_packets c i j q d n =
    let e : q + 16 * d + 4 ≡ q + 4 + 16 * d = omega arith in
    simp (packet-append, packet-due, packet-run, or-false, due-length, zeros-length, header-length, e)

module _ (row : ℕ) where
  -- one slot's part of the look-up
  slot_link : (X : Pool) (c : ℕ) (us : List Slot) (x : Slot) (vs : List Slot) (Y : Pool) (j q : ℕ) (r : List Place)
      → q ≡ row * rows row X + 12 + length us * slot_bytes c
      → any (covers row j) (choose (granted x) (placed X c us x vs Y ∷ r) r) ≡ (packet_at q j (slot_cells c (length us) x) || any (covers row j) r)
  unfolding choose slot_cells
  slot_link X c us Fresh vs Y j q r e = rw (packet-due q j (zeros (slot_bytes c))) refl
  slot_link X c us (Idle s k d) vs Y j q r e = rw (packet-due q j (zeros (slot_bytes c))) refl
  slot_link X c us (Live a) vs Y j q r e =
      let e₁ : row * rows row X + 16 + length us * slot_bytes c + 16 * a.disp ≡ q + 4 + 16 * a.disp = omega arith in
      rw (block_packets c (length us) j q a.disp a.size, e₁) refl

  slots_link : (X : Pool) (c : ℕ) (us xs : List Slot) (Y : Pool) (j q : ℕ) → q ≡ row * rows row X + 12 + length us * slot_bytes c
      → c < 48 → T (every (slot_sound c) xs) → any (covers row j) (slot_places X c us xs Y) ≡ packet_at q j (slots_cells c (length us) xs)
  slots_link X c us [] Y j q e h t = refl
  slots_link X c us (x ∷ xs) Y j q e h t =
      let i : ℕ = length us in
      let l : length (slot_cells c i x) ≡ slot_bytes c = slot_length c i x h (search and_left) in
      let m : length (us ++ (x ∷ [])) ≡ suc i = omega (arith, length-append us (x ∷ [])) in
      let e₁ : q + length (slot_cells c i x) ≡ row * rows row X + 12 + length (us ++ (x ∷ [])) * slot_bytes c = omega (arith, ap (λ k. k * slot_bytes c) m) in
      slot_link X c us x xs Y j q (slot_places X c (us ++ (x ∷ [])) xs Y) e
      ∙ simp (slots_link X c (us ++ (x ∷ [])) xs Y j (q + length (slot_cells c i x)) e₁ h (search and_right), m, packet-append)

  module _ (pos : 0 < row) where
    pool_link : (X P : Pool) (j q : ℕ) → q ≡ row * rows row X → T (well_formed P) → any (covers row j) (places_from X P) ≡ packet_at q j (cells row P)
    unfolding span_sound
    pool_link X [] j q e w = refl
    pool_link X (free ∷ P) j q e w =
        let e₁ : q + length (due (zeros row)) ≡ row * rows row (X ++ (free ∷ [])) =
        omega (arith, zeros-due row, ap (λ k. row * k) (rows_append row X (free ∷ []))) in
        simp (pool_link (X ++ (free ∷ [])) P j (q + length (due (zeros row))) e₁ w, packet-append, packet-due)
    pool_link X (group c ss ∷ P) j q e w =
        let t : T (span_sound (group c ss)) = and_left (span_sound (group c ss)) (well_formed P) w in
        let h : c < 48 = ltb→lt c 48 (search (and_left, and_right)) in
        let s : T (every (slot_sound c) ss) = search (and_left, and_right) in
        let G : List Cell = span_cells row (group c ss) in
        let Z : ℕ = q + length (due (zeros 12)) in
        let e₁ : q + length G ≡ row * rows row (X ++ (group c ss ∷ [])) =
        rw (rows_append row X (group c ss ∷ []), mul-add, add-zero (rows_of row c), group-length row pos c ss h (group-slots c ss t) s, e) refl in
        let e₂ : Z ≡ row * rows row X + 12 + 0 * slot_bytes c = omega (arith, zeros-due 12) in
        let k : packet_at q j G ≡ packet_at Z j (slots_cells c 0 ss) = simp (packet-append, packet-due, or-false) in
        any_append (covers row j) (slot_places X c [] ss P) (places_from (X ++ (group c ss ∷ [])) P)
        ∙ ap₂ (λ x y. x || y) (slots_link X c [] ss P j Z e₂ h s ∙ sym k) (pool_link (X ++ (group c ss ∷ [])) P j (q + length G) e₁ (search and_right))
        ∙ sym (packet-append q j G (cells row P))

    -- a byte is a requested byte of a live block exactly where the cells say so
    requested_is : (P : Pool) (i : ℕ) → T (well_formed P) → requested row P i ≡ is_packet (get_or (cells row P) i (settled 0))
    unfolding requested places
    requested_is P i w =
        pool_link [] P i 0 (sym (mul-zero row)) w ∙ ap (λ j. packet_at 0 j (cells row P)) (sym (zero-add i)) ∙ packet_here 0 (cells row P) i

-- ---- the requested bytes of a live block

-- what follows where an element passes a test follows from each that does
any_each : {A : Type 0} (f : A → Bool) (l : List A) {M : Type 0} → (T (any f l) → M) → All (λ x. T (f x) → M) l
any_each f [] g = tt
any_each f (x ∷ l) g = (λ t. g (or_left (f x) (any f l) t), any_each f l (λ t. g (or_right (f x) (any f l) t)))
  where
    or_left : (a b : Bool) → T a → T (a || b)
    or_left true b t = tt
    or_left false b t = absurd t

    or_right : (a b : Bool) → T b → T (a || b)
    or_right true b t = tt
    or_right false b t = t

-- an element that passes it, and what is so of all
any_found : {A : Type 0} (f : A → Bool) (Q : A → Type 0) (l : List A) → All Q l → T (any f l) → (x : A) × Q x × T (f x)
any_found f Q [] q t = absurd t
any_found f Q (x ∷ l) q t = go (f x) refl t (any_found f Q l q.1)
  where
    go : (b : Bool) → f x ≡ b → T (b || any f l) → (T (any f l) → (x : _) × Q x × T (f x)) → (x : _) × Q x × T (f x)
    go true e t r = (x, q.0, true-T (f x) e)
    go false e t r = r t

pub requested_exactly : (row : ℕ) (P : Pool) (i : ℕ) → T (requested row P i) ↔ ((p : Place) × RequestedByte row P p i)
unfolding requested
requested_exactly row P i = (there, λ (p, q). subst (λ Q. T (requested row Q i)) q.pool (here p q))
  where
    there : T (requested row P i) → (p : Place) × RequestedByte row P p i
    there t =
        let (p, (e, _), c) = any_found (covers row i) (Of P) (places P) (places_of P) t in (
          p,
          record {
            pool = e;
            live = search (and_left, and_right);
            from = leb→le (start row p) i (search (and_left, and_right));
            to = ltb→lt i (start row p + size p.state) (search (and_left, and_right));
          },
        )

    here : (p : Place) → RequestedByte row P p i → T (requested row (pool_of p) i)
    here p q =
        places_in (λ q. T (covers row i q) → T (any (covers row i) (places (pool_of p)))) p (live-granted p.state q.live)
        (any_each (covers row i) (places (pool_of p)) (λ t. t))
        (and_both (is_live p.state && leb (start row p) i) _ (and_both (is_live p.state) _ q.live (le→leb (start row p) i q.from))
        (lt→ltb i (start row p + size p.state) q.to))

-- ---- arenas that agree with the same cells

same_agrees : {cs : List Cell} {a : List ℕ} (b : List ℕ) → Agrees cs a → length b ≡ length a
    → ((i : ℕ) → is_packet (get_or cs i (settled 0)) ≡ false → get_or b i 0 ≡ get_or a i 0) → Agrees cs b
same_agrees [] over e h = over
same_agrees (y ∷ b) over e h = absurd (omega arith)
same_agrees [] (more k f) e h = absurd (omega arith)
same_agrees (y ∷ b) (more {c = settled v} k f) e h = more (h zero refl ∙ k) (same_agrees b f (omega arith) (λ i. h (suc i)))
same_agrees (y ∷ b) (more {c = packet} k f) e h = more tt (same_agrees b f (omega arith) (λ i. h (suc i)))

agrees_same : {cs : List Cell} {a b : List ℕ} → Agrees cs a → Agrees cs b → (i : ℕ) → is_packet (get_or cs i (settled 0)) ≡ false → get_or b i 0 ≡ get_or a i 0
agrees_same over over i e = refl
agrees_same (more {c = settled v} k f) (more l g) zero e = l ∙ sym k
agrees_same (more {c = packet} k f) (more l g) zero e = absurd (true≢false e)
agrees_same (more k f) (more l g) (suc i) e = agrees_same f g i e

module _ (row : ℕ) (pos : 0 < row) (P : Pool) (w : T (well_formed P)) (a b : List ℕ) where
  -- the engine's stores keep tables and arena in agreement
  pub engine-keeps : SameOutside row P a b → Agrees (cells row P) a → Agrees (cells row P) b
  engine-keeps s g = same_agrees b g s.long (λ j e. s.bytes j (rw (requested_is row pos P j w, e) tt))

  -- two arenas that agree with one pool's cells are the same outside requested bytes
  pub outside : Agrees (cells row P) a → Agrees (cells row P) b → SameOutside row P a b
  outside f g = record {
    long = agrees_length g ∙ sym (agrees_length f);
    bytes = λ k t. agrees_same f g k (sym (requested_is row pos P k w) ∙ refuted (requested row P k) (T_not (requested row P k) t));
  }
