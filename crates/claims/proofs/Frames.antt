-- A slot laid out for its block: which of its bytes are zero, and that header and guard are those due.
use Rattle.mem.proofs.Prelude.{◌∙◌, ◌≡◌, sym, ap, ap₂, refl, Bool, true, false, ⊎_elim, inl, inr, ◌⊎◌, List, [], ◌∷◌, ◌++◌, append_assoc, append-nil}
use Rattle.mem.proofs.Prelude.{◌+◌, ℕ, ◌<◌, ◌≤◌, ◌*◌, ◌-◌, arith, T, leb, leb-true, leb-false, length, get_or, length-append}
use Rattle.mem.specs.Bytes.{zeros, low, part, put}
use Rattle.mem.proofs.Laws.{put-length, put-before, put-past, part_among, zeros-length, zeros-add, zeros-put}
use Rattle.classes.specs.Classes.{slot_bytes}
use Rattle.model.specs.State.{Place, disp, size, well_formed, pool_of, slot_number, rows, owned, start}
use Rattle.model.specs.Blocks.{reserved, header, spare, frame}
use Rattle.model.proofs.Blocks.{header-length, spare_last, spare_guarded, spare_bare, frame-length}
use Rattle.model.proofs.Lookup.{Fits, fits, disp_inside, owned_inside}
use Rattle.claims.specs.Demand1.{header_due, guard_due}
use Rattle.claims.specs.Demand2.{LaidOut}
use Rattle.claims.specs.AsSaid.{end, HeaderBytes, GuardBytes}
use Rattle.claims.proofs.Guards.{header_stands, both_stand}

-- r reserved bytes have no guard, or they have one
pub guard_or_none : (r : ℕ) → (r < 5) ⊎ (5 ≤ r)
guard_or_none r = go (leb 5 r) refl
  where
    go : (b : Bool) → leb 5 r ≡ b → (r < 5) ⊎ (5 ≤ r)
    go true e = inr (leb-true 5 r e)
    go false e = inl (leb-false 5 r e)

module _ (row : ℕ) (pos : 0 < row) (a : List ℕ) (p : Place) (w : T (well_formed (pool_of p))) (l : length a ≡ row * rows row (pool_of p)) where
  abbrev c : ℕ
  c = p.cls

  abbrev d : ℕ
  d = disp p.state

  abbrev n : ℕ
  n = size p.state

  abbrev r : ℕ
  r = reserved c d n

  abbrev head : List ℕ
  head = header c (slot_number p) d n

  abbrev framed : List ℕ
  framed = put (owned row p) (frame c (slot_number p) d n) a

  inside : 16 * d + n + 4 ≤ slot_bytes c
  inside = let f : Fits p = fits p w in disp_inside c p.state f.class f.state

  -- the slot up to the requested bytes
  abbrev lead : List ℕ
  lead = zeros (16 * d) ++ head

  lead_length : length lead ≡ 16 * d + 4
  lead_length = length-append (zeros (16 * d)) head ∙ ap (λ k. k + length head) (zeros-length (16 * d)) ∙ ap (λ k. 16 * d + k) (header-length c _ d n)

  -- and from there on: k bytes that are zero, and the rest
  framed_behind : (k : ℕ) (ys : List ℕ) → spare r ≡ zeros k ++ ys → framed ≡ put (owned row p) (lead ++ (zeros (n + k) ++ ys)) a
  unfolding frame
  framed_behind k ys e = ap (λ s. put (owned row p) s a) (rw (e, zeros-add n k) (simp append_assoc))

  bare : r < 5 → framed ≡ put (owned row p) (lead ++ (zeros (n + r) ++ [])) a
  bare h = framed_behind r [] (spare_bare r h ∙ sym (append-nil (zeros r)))

  guarded : 5 ≤ r → framed ≡ put (owned row p) (lead ++ (zeros (n + (r - 4)) ++ low 4 r)) a
  guarded h = framed_behind (r - 4) (low 4 r) (spare_guarded r h)

  -- a byte of those that are zero
  behind : (i k : ℕ) (ys : List ℕ) → framed ≡ put (owned row p) (lead ++ (zeros k ++ ys)) a → start row p ≤ i → i < start row p + k → get_or framed i 0 ≡ 0
  behind i k ys e f h =
      ap (λ b. get_or b i 0) e ∙ zeros-put (owned row p) lead k ys a i (omega (arith, f, lead_length)) (omega (arith, h, lead_length))

  pub laid_out : LaidOut row a framed p
  unfolding frame
  laid_out = record {
    long = put-length (owned row p) (frame c (slot_number p) d n) a;
    zero = λ i f h. ⊎_elim (λ b _. zeros-put (owned row p) [] (16 * d) _ a i (omega (arith, f)) (omega (arith, b)))
        (λ b s. ⊎_elim (λ k. behind i (n + r) [] (bare k) b (omega (arith, h, inside)))
        (λ k. behind i (n + (r - 4)) (low 4 r) (guarded k) b (⊎_elim (λ s. omega arith) (λ s. omega (arith, s, inside)) s)) (guard_or_none r));
    others = λ i.
        ⊎_elim (put-before (owned row p) _ a i 0)
        (λ b. put-past (owned row p) _ a i 0 (omega (arith, b, frame-length c (slot_number p) d n inside)));
  }

  -- the header's place, and the guard's
  header_there : HeaderBytes row framed p
  unfolding frame header
  header_there =
      let e : owned row p + length (zeros (16 * d)) ≡ start row p - 4 = omega (arith, zeros-length (16 * d)) in
      ap (λ j. part j 4 framed) (sym e)
      ∙ part_among (owned row p) (zeros (16 * d)) head (zeros n ++ spare r) a
      (omega (arith, l, owned_inside row pos p w, inside, zeros-length (16 * d), header-length c (slot_number p) d n))

  guard_there : GuardBytes row framed p
  guard_there = record {
    past = λ h. ⊎_elim (λ k. behind (start row p + n) (n + r) [] (bare k) (omega arith) (omega arith))
        (λ k. behind (start row p + n) (n + (r - 4)) (low 4 r) (guarded k) (omega arith) (omega arith)) (guard_or_none r);
    last = λ h.
        let A : List ℕ = lead ++ zeros (n + (r - 5)) in
        let m : length A ≡ 16 * d + 4 + (n + (r - 5)) =
        length-append lead (zeros (n + (r - 5))) ∙ ap₂ (λ x y. x + y) lead_length (zeros-length (n + (r - 5))) in
        let e : owned row p + length A ≡ end row p - 5 = omega (arith, m, inside, h) in
        ap (λ j. part j 5 framed) (sym e)
        ∙ ap (part (owned row p + length A) 5) (framed_behind (r - 5) (0 ∷ low 4 r) (spare_last r h)
        ∙ ap (λ s. put (owned row p) s a) (sym (append_assoc lead (zeros (n + (r - 5))) (0 ∷ low 4 r))))
        ∙ part_among (owned row p) A (0 ∷ low 4 r) [] a (omega (arith, m, l, owned_inside row pos p w, inside, h));
  }

  pub laid_header : T (header_due row framed p)
  laid_header = (header_stands row pos framed p w (put-length (owned row p) _ a ∙ l)).1 header_there

  pub laid_guard : T (guard_due row framed p)
  laid_guard = (both_stand row pos framed p w (put-length (owned row p) _ a ∙ l)).1 guard_there
