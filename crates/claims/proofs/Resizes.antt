-- What gives a block another size leaves what document 01 says: in place, or as a grant, a copy and a release.
use Rattle.mem.proofs.Prelude.{◌∙◌, ◌≡◌, sym, ap, refl, subst, ⊎_elim, inl, inr, ◌⊎◌, Some, None, Option, List, [], ◌∷◌, ◌++◌, Ok}
use Rattle.mem.proofs.Prelude.{append_assoc, append-nil, ◌+◌, ℕ, ◌<◌, ◌≤◌, ◌*◌, ◌-◌, arith, lt-leb, lt-ltb, T, leb, ltb, drop, get_or}
use Rattle.mem.proofs.Prelude.{length, length-append}
use Rattle.mem.specs.Lists.{choose}
use Rattle.mem.specs.Bytes.{zeros, low, same, put, part}
use Rattle.mem.proofs.Tests.{T_true, true-T, and_both, choose_case, choose-true, choose-false}
use Rattle.mem.proofs.Laws.{put-length, put-before, put-past, part-put, part-written, part_length, part_among, part-part, get_d_part, zeros-length, zeros-add}
use Rattle.mem.proofs.Laws.{zeros-put, eq→same}
use Rattle.classes.specs.Classes.{slot_bytes, size_limit}
use Rattle.classes.specs.Alignments.{align_of, code_of, enlarged, Askable}
use Rattle.model.specs.declared.Refusal.TheVariants.{NotInPlace, NoRoom}
use Rattle.model.specs.State.{Pool, Place, disp, size, align, well_formed, aligned, start_of, pool_of, slot_number, rows, owned, start, handle}
use Rattle.model.specs.Blocks.{reserved, header, guard, first_spare, spare, header_right, guard_right, damage_in, damage, frame}
use Rattle.model.specs.Plans.{Plan, Call, grants_aligned, releases, resizes_in_place, moves, plan, lookup, new_size, on_handle, on_handle_for, release_at, release}
use Rattle.model.specs.Plans.{discard, fits_in_place, resize_at, move_to, move_at, in_place_at, resize_in_place, move, refused_on}
use Rattle.model.specs.Plans.{reserve, grant_at, grant_as, grant_aligned, enframe}
use Rattle.model.specs.Tables.{arena_right}
use Rattle.model.specs.Calls.{Form, FormLaws, Stands, Outcome, applied, written, damaged, carried_by, call_by}
use Rattle.model.proofs.Fresh.{whole_units}
use Rattle.model.proofs.Blocks.{header-length, guard-fits, spare-length, spare_guarded, spare_bare, spare-first, frame-length}
use Rattle.model.proofs.Lookup.{Fits, fits, disp_inside, owned_inside, Owns, outside_group}
use Rattle.model.proofs.Reserve.{Granted, reserve_formed, reserve-size, served}
use Rattle.model.proofs.Formed.{resize_at_formed, resizable}
use Rattle.model.proofs.Calls.{Asks, call-sound, carried_whole}
use Rattle.model.proofs.Moves.{Old, old, old_released, old_apart, slot_owned, stays_start}
use Rattle.claims.specs.Demand1.{Reason, when, NotServed, NoRoomToMove, StaysInPlace, header_due, guard_due, new_size_reasons, unsound_reason, reasons}
use Rattle.claims.specs.Demand2 as demand2
use Rattle.claims.specs.AsSaid.{Waits, Goes, sized, stay, InPlace, InPlaceAsSaid, Moved, MovedBy, MovesAsSaid}
use Rattle.model.proofs.Handles.{start_cleared, stays_handle, on_present}
use Rattle.claims.proofs.Cases.{release_parts, reserve-live}
use Rattle.claims.proofs.Codes.{code_align}
use Rattle.claims.proofs.StaysInPlace.{in_place_serves}
use Rattle.claims.proofs.Demand1.{demand1, starts_found, size_large}
use Rattle.claims.proofs.Demand2.{Accepted, accepted, NoneDue, none-due, found_intact}
use Rattle.claims.proofs.AsSaid.{released_as_said, on_intact, place_formed}
use Rattle.claims.proofs.Frames.{guard_or_none}
use Rattle.claims.proofs.Stays.{live_at}

-- ---- resize in place

module _ (row : ℕ) (pos : 0 < row) (a : List ℕ) (n : ℕ) (p : Place) (w : T (well_formed (pool_of p))) (l : length a ≡ row * rows row (pool_of p))
    (asked : Askable (align p.state) n) (t : T (fits_in_place p n)) where
  abbrev c : ℕ
  c = p.cls

  abbrev d : ℕ
  d = disp p.state

  abbrev o : ℕ
  o = start row p

  abbrev k : ℕ
  k = stay p n

  abbrev r : ℕ
  r = reserved c d n

  abbrev g : List ℕ
  g = guard r

  abbrev head : List ℕ
  head = header c (slot_number p) d n

  -- what is written behind the bytes that stay
  abbrev tail : List ℕ
  tail = zeros (n - k) ++ spare r

  abbrev headed : List ℕ
  headed = put (o - 4) head a

  abbrev reframed : List ℕ
  reframed = put (o + k) tail headed

  serves : StaysInPlace p n
  serves = (in_place_serves p n asked.some_code).0 t

  -- sizes of the block's parts
  inside : 16 * d + size p.state + 4 ≤ slot_bytes c
  inside = let f : Fits p = fits p w in disp_inside c p.state f.class f.state

  whole : o + n + r ≡ owned row p + slot_bytes c
  whole = omega (arith, inside, serves.fits)

  tail-length : length tail + k ≡ n + r
  tail-length = omega (arith, length-append (zeros (n - k)) (spare r), zeros-length (n - k), spare-length r)

  -- zeros, and then the guard
  tail_parts : tail ≡ zeros (n - k + (r - length g)) ++ g
  unfolding spare
  tail_parts =
      sym (append_assoc (zeros (n - k)) (zeros (r - length g)) g) ∙ ap (λ z. z ++ g) (sym (zeros-add (n - k) (r - length g)))

  -- a byte that is zero
  tail-zero : (i j : ℕ) (ys : List ℕ) → spare r ≡ zeros j ++ ys → o + k ≤ i → i < o + n + j → get_or reframed i 0 ≡ 0
  tail-zero i j ys e f h =
      let q : tail ≡ zeros (n - k + j) ++ ys = ap (λ s. zeros (n - k) ++ s) e ∙ rw (zeros-add (n - k) j) (simp append_assoc) in
      ap (λ vs. get_or (put (o + k) vs headed) i 0) q ∙ zeros-put (o + k) [] (n - k + j) ys headed i (omega arith) (omega arith)

  header_there : T (header_right c (slot_number p) d n (part (owned row p) (slot_bytes c) reframed))
  unfolding header_right
  header_there =
      let q : owned row p + 16 * d ≡ o - 4 = omega arith in
      eq→same _ _
      (part-part (owned row p) (slot_bytes c) (16 * d) 4 reframed (omega (arith, inside)) ∙ ap (λ j. part j 4 reframed) q
      ∙ part-put (o - 4) 4 (o + k) tail headed (inl (omega arith))
      ∙ part-written (o - 4) 4 head a (header-length c (slot_number p) d n) (omega (arith, l, owned_inside row pos p w, inside)))

  -- bytes of the tail stand in the slot, as far in as they are
  in_slot : (at : ℕ) (A vs B : List ℕ) → owned row p + at ≡ o + k + length A → tail ≡ A ++ (vs ++ B)
      → T (same (part at (length vs) (part (owned row p) (slot_bytes c) reframed)) vs)
  in_slot at A vs B q e =
      let m : length tail ≡ length A + (length vs + length B) = ap length e ∙ length-append A (vs ++ B) ∙ ap (λ j. length A + j) (length-append vs B) in
      let u : at + length vs ≤ slot_bytes c =
      bare (owned row p) at o k n r (length A) (length vs) (length B) (slot_bytes c) (length tail) q m tail-length whole in
      eq→same _ _
      (part-part (owned row p) (slot_bytes c) at (length vs) reframed u ∙ ap (λ j. part j (length vs) reframed) q
      ∙ ap (λ us. part (o + k + length A) (length vs) (put (o + k) us headed)) e
      ∙ part_among (o + k) A vs B headed
      (fits_in (owned row p) at (o + k) (length A) (length vs) (slot_bytes c) _ _ q u (owned_inside row pos p w) (put-length (o - 4) head a ∙ l)))
    where
      bare : (x at o k n r i j h s t : ℕ) → x + at ≡ o + k + i → t ≡ i + (j + h) → t + k ≡ n + r → o + n + r ≡ x + s → at + j ≤ s
      bare x at o k n r i j h s t q m e f = omega arith

      fits_in : (x at y i j s v z : ℕ) → x + at ≡ y + i → at + j ≤ s → x + s ≤ z → v ≡ z → y + (i + j) ≤ v
      fits_in x at y i j s v z q u f e = omega arith

  -- the first spare byte follows the zeros, and the guard ends where the slot does
  guard_there : T (guard_right c d n (part (owned row p) (slot_bytes c) reframed))
  unfolding guard_right
  guard_there =
      let f : List ℕ = first_spare r in
      let m : ℕ = n - k + (r - length g) in
      let bs : List ℕ = part (owned row p) (slot_bytes c) reframed in
      and_both (same (part (16 * d + 4 + n) (length f) bs) f) (same (part (slot_bytes c - length g) (length g) bs) g)
      (in_slot (16 * d + 4 + n) (zeros (n - k)) f (drop (length f) (spare r)) (omega (arith, zeros-length (n - k)))
      (ap (λ s. zeros (n - k) ++ s) (spare-first r)))
      (in_slot (slot_bytes c - length g) (zeros m) g []
      (bare (owned row p) (slot_bytes c) (length g) o k n r _ (guard-fits r) (omega arith) (omega arith) whole (zeros-length m))
      (tail_parts ∙ ap (λ s. zeros m ++ s) (sym (append-nil g))))
    where
      bare : (x s h o k n r m : ℕ) → h ≤ r → r ≤ s → k ≤ n → o + n + r ≡ x + s → m ≡ n - k + (r - h) → x + (s - h) ≡ o + k + m
      bare x s h o k n r m j b i e f = omega arith

  in_place : (F : Form) → FormLaws row F → (u : F.Kept) (h : ℕ) → demand2.Intact row a (F.view u) h p
      → (z : Outcome F.Kept) → z ≡ applied F a (resize_at row p n) → InPlace row F a u h n p z
  unfolding resize_at
  in_place F L u h b z e =
      let x : z.arena ≡ reframed = ap (λ (r : Outcome F.Kept). r.arena) e in
      let y : F.view z.kept ≡ pool_of (sized p n) =
      ap (λ (r : Outcome F.Kept). F.view r.kept) e
      ∙ L.says (pool_of (sized p n)) (resize_at_formed row p n w b.live.live asked.small t).formed in
      record {
        block = b;
        serves = serves;
        value = ap (λ (r : Outcome F.Kept). r.answer.values) e ∙ ap (λ v. v ∷ []) b.present;
        pool = y;
        long = ap length x ∙ put-length (o + k) tail headed ∙ put-length (o - 4) head a;
        stays = λ i b.
            ap (λ b. get_or b (o + i) 0) x ∙ put-before (o + k) tail headed (o + i) 0 (omega arith)
            ∙ put-past (o - 4) head a (o + i) 0 (omega (arith, header-length c (slot_number p) d n));
        zero = λ i b u s.
            ap (λ b. get_or b i 0) x
            ∙ ⊎_elim (λ h. tail-zero i r [] (spare_bare r h ∙ sym (append-nil (zeros r))) b (omega (arith, u, whole)))
            (λ h. tail-zero i (r - 4) (low 4 r) (spare_guarded r h) b (⊎_elim (λ s. omega (arith, s, h)) (λ s. omega (arith, s, whole)) s)) (guard_or_none r);
        due = record {
          live = record { here = record { slotted = record { pool = sym y; granted_once = tt }; starts = b.live.here.starts }; live = tt };
          present = b.present;
          header = subst (λ b. T (header_right c (slot_number p) d n (part (owned row p) (slot_bytes c) b))) (sym x) header_there;
          guard = subst (λ b. T (guard_right c d n (part (owned row p) (slot_bytes c) b))) (sym x) guard_there;
        };
        others = λ i.
            ⊎_elim
            (λ b. ap (λ b. get_or b i 0) x ∙ put-before (o + k) tail headed i 0 (omega (arith, b)) ∙ put-before (o - 4) head a i 0 (omega (arith, b)))
            (λ b.
            ap (λ b. get_or b i 0) x ∙ put-past (o + k) tail headed i 0 (omega (arith, b, whole, tail-length))
            ∙ put-past (o - 4) head a i 0 (omega (arith, b, whole, header-length c (slot_number p) d n)));
      }

-- ---- move

-- the old block p and the new block q, which has its alignment, in an arena as long as the pool
module _ (row : ℕ) (pos : 0 < row) (P : Pool) (w : T (well_formed P)) (a : List ℕ) (long : length a ≡ row * rows row P) (n : ℕ) (p : Place)
    (asked : Askable (align p.state) n) (q : Place) (found : reserve row P (align p.state) n ≡ Some q)
    (h : ℕ) (i : demand2.Intact row a P h p) where
  abbrev code : ℕ
  code = align p.state

  there : pool_of p ≡ P
  there = i.live.here.slotted.pool

  formed_p : T (well_formed (pool_of p))
  formed_p = place_formed row pos P w a h p i

  made : Granted row P code n q
  made = reserve_formed row P code n q w asked found

  beside : Old row pos P w code n asked q found p there i.live.live
  beside = old row pos P w code n asked q found p there i.live.live

  discarded_old : discard row (pool_of q) p ≡ release_at row beside.place
  unfolding beside
  discarded_old = old_released row pos P w code n asked q found p there i.live.live

  -- by the handle that it has, it is released the same
  released_old : release row (pool_of q) h ≡ release_at row beside.place
  unfolding release
  released_old =
      let o : Place = beside.place in
      let s : start row o ≡ start_of h = stays_start row p o beside.stays ∙ i.live.here.starts in
      on_present row pos (pool_of q) h (release_at row) o
      (starts_found row pos (pool_of q) (start_of h) o made.formed (live_at row (pool_of q) (start_of h) o beside.pool beside.live s).here)
      beside.live (stays_handle row p o beside.stays ∙ i.present)

  apart : (owned row p + slot_bytes p.cls ≤ owned row q) ⊎ (owned row q + slot_bytes q.cls ≤ owned row p)
  apart = old_apart row pos P w code n asked q found p there i.live.live

  inside_p : 16 * disp p.state + size p.state + 4 ≤ slot_bytes p.cls
  inside_p = let f : Fits p = fits p formed_p in disp_inside p.cls p.state f.class f.state

  inside_q : 16 * disp q.state + size q.state + 4 ≤ slot_bytes q.cls
  inside_q = let f : Fits q = fits q made.formed in disp_inside q.cls q.state f.class f.state

  -- as many bytes as are copied
  short : (stay p n ≤ size p.state) × (stay p n ≤ size q.state)
  short = (omega arith, omega (arith, reserve-size row P code n q w found))

  -- the new block laid out, and the bytes copied into it
  abbrev framed : List ℕ
  framed = frame q.cls (slot_number q) (disp q.state) (size q.state)

  abbrev laid : List ℕ
  laid = put (owned row q) framed a

  abbrev first : List ℕ
  first = part (start row p) (stay p n) laid

  abbrev copy : List ℕ
  copy = put (start row q) first laid

  laid_length : length laid ≡ length a
  laid_length = put-length (owned row q) framed a

  copy_length : length copy ≡ length a
  copy_length = put-length (start row q) first laid ∙ laid_length

  framed_length : length framed ≡ slot_bytes q.cls
  framed_length = frame-length q.cls (slot_number q) (disp q.state) (size q.state) inside_q

  first-length : length first ≡ stay p n
  first-length =
      part_length (start row p) (stay p n) laid
      (omega (arith, laid_length, long, owned_inside row pos p formed_p, ap (λ Q. row * rows row Q) there, inside_p, short.0))

  -- the old block's bytes are those it had
  old_bytes : part (owned row p) (slot_bytes p.cls) copy ≡ part (owned row p) (slot_bytes p.cls) a
  old_bytes =
      part-put (owned row p) (slot_bytes p.cls) (start row q) first laid
      (⊎_elim (λ x. inl (omega (arith, x))) (λ x. inr (omega (arith, x, first-length, inside_q, short.1))) apart)
      ∙ part-put (owned row p) (slot_bytes p.cls) (owned row q) framed a (⊎_elim inl (λ x. inr (omega (arith, x, framed_length))) apart)

  -- so it is not damaged
  old_whole : damage row copy beside.place ≡ Ok tt
  unfolding damage_in choose
  old_whole =
      let s = beside.stays in
      let e : damage row copy beside.place
      ≡ damage_in p.cls (slot_number p) (disp p.state) (size p.state) (part (owned row p) (slot_bytes p.cls) copy) =
      rw (s.slot.first, s.slot.cls, s.slot.number, s.state) in
      e ∙ rw (old_bytes, T_true (header_due row a p) i.header, T_true (guard_due row a p) i.guard)

  new_owns : (j : ℕ) → j < stay p n → Owns row q (start row q + j)
  new_owns j h = record { from = omega arith; to = omega (arith, inside_q, short.1) }

  -- the new block has the bytes that the old one had
  copy_there : (j : ℕ) → j < stay p n → get_or copy (start row q + j) 0 ≡ get_or a (start row p + j) 0
  copy_there j h =
      let v : ℕ = start row q in
      sym (get_d_part v (stay p n) copy j 0 h)
      ∙ ap (λ l. get_or l j 0) (part-written v (stay p n) first laid first-length
      (omega (arith, laid_length, long, owned_inside row pos q made.formed, ap (λ m. row * m) made.long, inside_q, short.1)))
      ∙ get_d_part (start row p) (stay p n) laid j 0 h
      ∙ ⊎_elim (λ x. put-before (owned row q) framed a (start row p + j) 0 (omega (arith, x, inside_p, short.0)))
      (λ x. put-past (owned row q) framed a (start row p + j) 0 (omega (arith, x, framed_length))) apart

  module _ (F : Form) (L : FormLaws row F) where
    -- the release over the copy
    release-done : T (arena_right row (length a)) → T (aligned row P)
        → call_by row F copy (F.encode (pool_of q)) (releases h) ≡ applied F copy (release_at row beside.place)
    unfolding plan
    release-done m b =
        let u : F.Kept = F.encode (pool_of q) in
        let x : T (F.sound (length copy) u) =
        L.right (length copy) (pool_of q) (record {
          lawful = subst (λ m. T (arena_right row m)) (sym copy_length) m;
          long = copy_length ∙ long ∙ ap (λ m. row * m) (sym made.long);
          formed = made.formed;
          bounds = made.bounds (whole_units row (length a) m) b;
        }) in
        call-sound row F copy u (T_true (F.sound (length copy) u) x) (releases h) tt
        ∙ ap (carried_by row F copy u)
        (ap (λ Q. release row Q h) (L.says (pool_of q) made.formed) ∙ released_old)
        ∙ carried_whole row F copy u (release_at row beside.place) (ap (damaged row copy) (release_parts row beside.place).0 ∙ old_whole)

    -- no byte of the new block is cleared by it
    new_kept : (r : Outcome F.Kept) → Waits row F copy beside.place r ⊎ Goes row F copy beside.place r → (j : ℕ) → Owns row q j
        → get_or r.arena j 0 ≡ get_or copy j 0
    new_kept r (inl v) j o =
        let e : owned row beside.place ≡ owned row p = slot_owned row p beside.place beside.stays.slot in
        let f : slot_bytes beside.place.cls ≡ slot_bytes p.cls = ap slot_bytes beside.stays.slot.cls in
        v.bytes.others j (⊎_elim (λ x. inr (omega (arith, x, o.from))) (λ x. inl (omega (arith, x, o.to))) apart)
    new_kept r (inr g) j o =
        g.bytes.others j
        (outside_group row pos beside.place q j beside.formed (sym beside.pool) (λ e. beside.other (sym e))
        (reserve-live row P code n q (served row P code n q w found)) o g.none-live)

    -- the grant, the copy and the release make the move
    moved : (t : F.Kept) → P ≡ F.view t → (g z : Outcome F.Kept) → g ≡ applied F a (grant_at row P (Some q)) → T (arena_right row (length a))
        → T (aligned row P) → z ≡ applied F a (move_to row P p n (Some q)) → MovedBy row F a t h n p g z
    unfolding enframe
    moved t says g z e m b l =
        let r : Outcome F.Kept = call_by row F copy (F.encode (pool_of q)) (releases h) in
        let x : r ≡ applied F copy (release_at row beside.place) = release-done m b in
        let v : start_of (handle row q) ≡ start row q = start_cleared row (whole_units row (length a) m) q in
        let G : Outcome F.Kept = applied F a (grant_at row P (Some q)) in
        let y : z.arena ≡ r.arena =
        ap (λ (r : Outcome F.Kept). r.arena) l ∙ ap (λ (d : Plan). written copy d.changes) discarded_old
        ∙ sym (ap (λ (r : Outcome F.Kept). r.arena) x) in
        subst (λ (g : Outcome F.Kept). MovedBy row F a t h n p g z) (sym e)
        (subst (λ s. Moved row F a t h n p G (handle row q) (put s first laid) z) (sym v) (record {
          block = subst (λ P. demand2.Intact row a P h p) says i;
          granted = refl;
          answer = ap (λ (r : Outcome F.Kept). r.answer) l;
          released = ap (λ (r : Outcome F.Kept). r.answer.number) x ∙ ap (λ r. r.number) (release_parts row beside.place).1;
          arena = y;
          kept = ap (λ (r : Outcome F.Kept). r.kept) l ∙ ap (λ (d : Plan). F.encode d.pool) discarded_old
              ∙ sym (ap (λ (r : Outcome F.Kept). r.kept) x);
          elsewhere = λ s. ⊎_elim (λ x. omega (arith, x, v, s, inside_p)) (λ x. omega (arith, x, v, s, inside_q)) apart;
          stays = λ j k.
              ap (λ s. get_or z.arena (s + j) 0) v ∙ ap (λ b. get_or b (start row q + j) 0) y
              ∙ new_kept r (released_as_said row pos F L copy beside.place beside.formed beside.live r x) (start row q + j) (new_owns j k)
              ∙ copy_there j k;
        }))

-- ---- every accepted call

-- a grant of a code's bytes is one with that code
aligned_as : (row : ℕ) (P : Pool) (k n : ℕ) → 1 ≤ k → k ≤ 9 → grant_aligned row P n (align_of k) ≡ grant_as row P k n
unfolding grant_aligned
aligned_as row P k n s l =
    let e : code_of (align_of k) ≡ k = code_align k s l in
    choose-true (ltb 0 (code_of (align_of k))) _ _ (lt-ltb 0 (code_of (align_of k)) (omega (arith, e))) ∙ ap (λ j. grant_as row P j n) e

module _ (row : ℕ) (pos : 0 < row) (F : Form) (L : FormLaws row F) (a : List ℕ) (t : F.Kept) (sound : T (F.sound (length a) t)) (n : ℕ) (p : Place)
    (asked : Askable (align p.state) n) where
  abbrev P : Pool
  P = F.view t

  s : Stands row (length a) P
  s = (L.only (length a) t sound).0

  -- the grant of a move
  abbrev asks : Call
  asks = grants_aligned n (align_of (align p.state))

  grant-done : (q : Place) → reserve row P (align p.state) n ≡ Some q → call_by row F a t asks ≡ applied F a (grant_at row P (Some q))
  unfolding plan grant_as
  grant-done q e =
      let k : ℕ = align p.state in
      call-sound row F a t (T_true (F.sound (length a) t) sound) asks tt
      ∙ ap (carried_by row F a t) (aligned_as row P k n asked.some_code asked.last_code
      ∙ choose-false (leb size_limit (enlarged k n)) _ (grant_at row P (reserve row P k n)) (lt-leb size_limit (enlarged k n) asked.small)
      ∙ ap (grant_at row P) e)
      ∙ carried_whole row F a t (grant_at row P (Some q)) refl

  -- a call that was done, of the block p
  in_place-done : (h : ℕ) → demand2.Intact row a P h p → (z : Outcome F.Kept) → z.answer.number ≡ 0
      → z ≡ applied F a (in_place_at row P n p) → InPlace row F a t h n p z
  unfolding in_place_at
  in_place-done h i z d =
      choose_case (λ (r : Plan). z ≡ applied F a r → InPlace row F a t h n p z) (fits_in_place p n) (resize_at row p n) (refused_on NotInPlace P p)
      (λ e. in_place row pos a n p (place_formed row pos P s.formed a h p i)
      (s.long ∙ ap (λ Q. row * rows row Q) (sym i.live.here.slotted.pool)) asked (true-T (fits_in_place p n) e) F L t h i z)
      (λ e l. absurd (omega (arith, d, ap (λ (r : Outcome F.Kept). r.answer.number) l)))

  move-done : (h : ℕ) → demand2.Intact row a P h p → (z : Outcome F.Kept) → z.answer.number ≡ 0
      → z ≡ applied F a (move_at row P n p) → MovedBy row F a t h n p (call_by row F a t asks) z
  unfolding move_at
  move-done h i z d = go (reserve row P (align p.state) n) refl
    where
      go : (r : Option Place) → reserve row P (align p.state) n ≡ r → z ≡ applied F a (move_to row P p n r)
          → MovedBy row F a t h n p (call_by row F a t asks) z
      go None f l = absurd (omega (arith, d, ap (λ (r : Outcome F.Kept). r.answer.number) l))
      go (Some q) f l =
          moved row pos P s.formed a s.long n p asked q f h i F L t refl (call_by row F a t asks) z (grant-done q f) s.lawful s.bounds l

-- the block of an accepted call that gives it n bytes, and that its plan for the block is carried out
module _ (row : ℕ) (pos : 0 < row) (F : Form) (L : FormLaws row F) (a : List ℕ) (t : F.Kept) (h n : ℕ) (f : Place → Plan) where
  record SizedBy (c : Call) : Type 0 where
    sound-tables : T (F.sound (length a) t)
    place : Place
    block : demand2.Intact row a (F.view t) h place
    asked : Askable (align place.state) n
    left : call_by row F a t c ≡ applied F a (f place)

  sized_by : (c : Call) → Asks c → (r : Reason) → NoneDue (unsound_reason row F a t ∷ new_size_reasons row a (F.view t) h n r)
      → plan row (F.view t) c ≡ on_handle_for row (F.view t) h n f → (call_by row F a t c).answer.number ≡ 0 → SizedBy c
  unfolding on_handle_for
  sized_by c k r (_, (n₃, m)) e z =
      let o : ℕ = start_of h in
      let y : Accepted row pos F L a t c = accepted row pos F L a t c k z in
      let P : Pool = F.view t in
      let w : T (well_formed P) = (L.only (length a) t y.sound-tables).0.formed in
      let x : ℕ = new_size (lookup row P o) n in
      let s : x < size_limit = not_large x (λ g. n₃ ((size_large row pos P h n w).0 g)) in
      let (p, i) = found_intact row pos F L a t y.sound-tables h (r ∷ []) m in
      record {
        sound-tables = y.sound-tables;
        place = p;
        block = i;
        asked = resizable row pos P o n w p (starts_found row pos P o p w i.live.here) i.live.here.slotted.pool i.live.live s;
        left = y.left
            ∙ ap (applied F a) (e ∙ choose-false (leb size_limit x) _ (on_handle row P h f) (lt-leb size_limit x s) ∙ on_intact row pos P w a h p i f);
      }
    where
      not_large : (x : ℕ) → (size_limit ≤ x → ⊥) → x < size_limit
      not_large x f = omega (arith, f)

pub in_place_as_said : (row : ℕ) → 0 < row → (F : Form) → FormLaws row F → InPlaceAsSaid row F
unfolding plan resize_in_place
in_place_as_said row pos F L a t h n z =
    let c : Call = resizes_in_place h n in
    let y : SizedBy row pos F L a t h n (in_place_at row (F.view t) n) c =
    sized_by row pos F L a t h n (in_place_at row (F.view t) n) c tt (when NotInPlace (NotServed row (F.view t) h n))
    (none-due (reasons row F a t c) _ (demand1 row pos F L a t c).number z) refl z in
    (y.place, in_place-done row pos F L a t y.sound-tables n y.place y.asked h y.block (call_by row F a t c) z y.left)

pub moves_as_said : (row : ℕ) → 0 < row → (F : Form) → FormLaws row F → MovesAsSaid row F
unfolding plan move
moves_as_said row pos F L a t h n z =
    let c : Call = moves h n in
    let y : SizedBy row pos F L a t h n (move_at row (F.view t) n) c =
    sized_by row pos F L a t h n (move_at row (F.view t) n) c tt (when NoRoom (NoRoomToMove row (F.view t) h n))
    (none-due (reasons row F a t c) _ (demand1 row pos F L a t c).number z) refl z in
    (y.place, move-done row pos F L a t y.sound-tables n y.place y.asked h y.block (call_by row F a t c) z y.left)
