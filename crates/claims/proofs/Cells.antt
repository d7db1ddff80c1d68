-- What the tables say of each byte of the arena, arenas that agree with it, and what a write to one slot leaves.
use Rattle.mem.proofs.Prelude.{◌∙◌, ◌≡◌, sym, ap, refl, ap₂, subst, List, [], ◌∷◌, ◌++◌, append_assoc, map, append-nil, ◌+◌, ℕ, ◌<◌, ◌≤◌, ◌*◌, ◌-◌, Ok}
use Rattle.mem.proofs.Prelude.{suc, zero, min, zero-add, arith, T, ltb→lt, length, drop, length-append, replicate, take, length-map, length-replicate}
use mathlib.Core.List.{map-append}
use native.Mathlib.Nat.{mul-zero}
use lib.ListN.{replicate-append-replicate}
use Rattle.mem.specs.Lists.{choose, every}
use Rattle.mem.specs.Bytes.{zeros, put, part, same}
use Rattle.mem.proofs.Tests.{and_left, and_right, T_true, choose-true, choose_case}
use Rattle.mem.proofs.Laws.{zeros-length, zeros-none, zeros-add, put_at, same_refl}
use Rattle.classes.specs.Classes.{slot_bytes, slots_of, rows_of}
use Rattle.classes.proofs.Laws.{rows_hold}
use Rattle.model.specs.declared.Slot.{Slot}
use Rattle.model.specs.declared.Slot.TheVariants.{Live}
use Rattle.model.specs.State.{Span, Pool, Place, free, group, is_live, disp, size, slot_sound, span_sound, well_formed, pool_of, slot_number, rows, owned, count}
use Rattle.model.specs.State.{become, start, align}
use Rattle.model.specs.Blocks.{reserved, header, first_spare, spare, guard, frame, header_right, guard_right, damage_in, owned_bytes, damage}
use Rattle.model.specs.Plans.{fresh_pool}
use Rattle.model.proofs.Tables.{group-slots}
use Rattle.model.proofs.Blocks.{header-length, spare-length, spare-first, guard-fits}
use Rattle.model.proofs.Lookup.{Fits, disp_inside}

-- ---- cells

-- a byte that is settled, or a requested byte of a live block
pub data Cell : Type 0 where
  settled : ℕ → Cell
  packet : Cell

abbrev pub due : List ℕ → List Cell
due bs = map settled bs

abbrev pub packets : ℕ → List Cell
packets n = replicate n packet

-- a live block in its slot
unfoldable pub block_cells : ℕ → ℕ → ℕ → ℕ → List Cell
block_cells c i d n = due (zeros (16 * d)) ++ (due (header c i d n) ++ (packets n ++ due (spare (reserved c d n))))

unfoldable pub slot_cells : ℕ → ℕ → Slot → List Cell
slot_cells c i x = choose (is_live x) (block_cells c i (disp x) (size x)) (due (zeros (slot_bytes c)))

-- slots from number i on
abbrev pub slots_cells : ℕ → ℕ → List Slot → List Cell
slots_cells c i [] = []
slots_cells c i (x ∷ ss) = slot_cells c i x ++ slots_cells c (suc i) ss

live-cells : (c i : ℕ) (x : Slot) → T (is_live x) → slot_cells c i x ≡ block_cells c i (disp x) (size x)
unfolding slot_cells
live-cells c i x l = choose-true (is_live x) _ _ (T_true (is_live x) l)

module _ (row : ℕ) where
  -- the bytes of a group after its last slot's
  unfoldable pub pad : ℕ → ℕ
  pad c = row * rows_of row c - (12 + slot_bytes c * slots_of c)

  abbrev pub span_cells : Span → List Cell
  span_cells free = due (zeros row)
  span_cells (group c ss) = due (zeros 12) ++ (slots_cells c 0 ss ++ due (zeros (pad c)))

  abbrev pub cells : Pool → List Cell
  cells [] = []
  cells (s ∷ P) = span_cells s ++ cells P

-- ---- lengths

pub due-length : (bs : List ℕ) → length (due bs) ≡ length bs
due-length bs = length-map bs settled

pub zeros-due : (n : ℕ) → length (due (zeros n)) ≡ n
zeros-due n = due-length (zeros n) ∙ zeros-length n

pub due-zeros : (m n : ℕ) → due (zeros m) ++ due (zeros n) ≡ due (zeros (m + n))
due-zeros m n = sym (map-append settled (zeros m) (zeros n)) ∙ ap due (sym (zeros-add m n))

pub slot_length : (c i : ℕ) (x : Slot) → c < 48 → T (slot_sound c x) → length (slot_cells c i x) ≡ slot_bytes c
unfolding slot_cells block_cells
slot_length c i x h t =
    choose_case (λ (l : List Cell). length l ≡ slot_bytes c) (is_live x) _ _
    (λ e. simp (length-append, due-length, zeros-length, header-length, length-replicate, spare-length) (omega (arith, disp_inside c x h t)))
    (λ e. zeros-due (slot_bytes c))

slots_length : (c i : ℕ) (ss : List Slot) → c < 48 → T (every (slot_sound c) ss) → length (slots_cells c i ss) ≡ length ss * slot_bytes c
slots_length c i [] h t = omega arith
slots_length c i (x ∷ ss) h t =
    simp (length-append, slot_length c i x h (search and_left), slots_length c (suc i) ss h (search and_right)) (omega arith)

slots-append : (c i : ℕ) (us vs : List Slot) → slots_cells c i (us ++ vs) ≡ slots_cells c i us ++ slots_cells c (i + length us) vs
slots-append c i [] vs = ap (λ k. slots_cells c k vs) (omega arith)
slots-append c i (x ∷ us) vs =
    let e : i + length (x ∷ us) ≡ suc i + length us = omega arith in simp (slots-append c (suc i) us vs, append_assoc, e)

module _ (row : ℕ) where
  pub cells-append : (X Y : Pool) → cells row (X ++ Y) ≡ cells row X ++ cells row Y
  cells-append [] Y = refl
  cells-append (s ∷ X) Y = simp (cells-append X Y, append_assoc)

  pub fresh_pool-cells : (n : ℕ) → cells row (fresh_pool n) ≡ due (zeros (row * n))
  fresh_pool-cells zero = ap due (sym zeros-none) ∙ ap (λ k. due (zeros k)) (sym (mul-zero row))
  fresh_pool-cells (suc n) = let e : row + row * n ≡ row * suc n = omega arith in simp (fresh_pool-cells n, due-zeros, e)

  module _ (pos : 0 < row) where
    pub group-length : (c : ℕ) (ss : List Slot) → c < 48 → length ss ≡ slots_of c → T (every (slot_sound c) ss)
        → length (span_cells row (group c ss)) ≡ row * rows_of row c
    unfolding pad
    group-length c ss h n t = simp (length-append, zeros-due, slots_length c 0 ss h t, n) (omega (arith, rows_hold row c pos))

    pub cells-length : (P : Pool) → T (well_formed P) → length (cells row P) ≡ row * rows row P
    unfolding span_sound
    cells-length [] t = omega arith
    cells-length (free ∷ P) t = simp (length-append, zeros-due, cells-length P t) (omega arith)
    cells-length (group c ss ∷ P) t =
        let g : T (span_sound (group c ss)) = and_left (span_sound (group c ss)) (well_formed P) t in
        let n : length (span_cells row (group c ss)) ≡ row * rows_of row c =
        group-length c ss (ltb→lt c 48 (search (and_left, and_right))) (group-slots c ss g) (search (and_left, and_right)) in
        omega (arith, length-append (span_cells row (group c ss)) (cells row P), cells-length P (search and_right))

  -- ---- the cells before a slot's, and after them

  unfoldable pub before : Pool → ℕ → List Slot → List Cell
  before X c us = cells row X ++ (due (zeros 12) ++ slots_cells c 0 us)

  unfoldable pub behind : ℕ → ℕ → List Slot → Pool → List Cell
  behind c i vs Y = slots_cells c (suc i) vs ++ (due (zeros (pad row c)) ++ cells row Y)

  abbrev pub front : Place → List Cell
  front p = before p.before p.cls p.lower

  abbrev pub back : Place → List Cell
  back p = behind p.cls (slot_number p) p.upper p.after

  cells_place : (p : Place) → cells row (pool_of p) ≡ front p ++ (slot_cells p.cls (slot_number p) p.state ++ back p)
  unfolding before behind
  cells_place p =
      rw (
        cells-append p.before (group p.cls (p.lower ++ (p.state ∷ p.upper)) ∷ p.after),
        slots-append p.cls 0 p.lower (p.state ∷ p.upper),
        zero-add (length p.lower),
      )
      (simp append_assoc)

  front_length : 0 < row → (p : Place) → Fits p → length (front p) ≡ owned row p
  unfolding before
  front_length pos p f =
      simp (length-append, zeros-due, cells-length pos p.before f.before, slots_length p.cls 0 p.lower f.class f.others.0)
      (omega arith)

-- ---- arenas that agree

abbrev pub Holds : Cell → ℕ → Type 0
Holds (settled b) x = x ≡ b
Holds packet x = Unit {0}

pub data Agrees : List Cell → List ℕ → Type 0 where
  over : Agrees [] []
  more : {c : Cell} {x : ℕ} {cs : List Cell} {xs : List ℕ} → Holds c x → Agrees cs xs → Agrees (c ∷ cs) (x ∷ xs)

pub agrees_length : {cs : List Cell} {a : List ℕ} → Agrees cs a → length a ≡ length cs
agrees_length over = refl
agrees_length (more h f) = ap suc (agrees_length f)

pub agrees_due : (bs : List ℕ) → Agrees (due bs) bs
agrees_due [] = over
agrees_due (b ∷ bs) = more refl (agrees_due bs)

due_agrees : (bs xs : List ℕ) → Agrees (due bs) xs → xs ≡ bs
due_agrees [] xs over = refl
due_agrees (b ∷ bs) xs (more h f) = ap₂ {C = List ℕ} (λ y ys. y ∷ ys) h (due_agrees bs _ f)

agrees_packets : (bs : List ℕ) → Agrees (packets (length bs)) bs
agrees_packets [] = over
agrees_packets (b ∷ bs) = more tt (agrees_packets bs)

agrees_append : {cs ds : List Cell} {a b : List ℕ} → Agrees cs a → Agrees ds b → Agrees (cs ++ ds) (a ++ b)
agrees_append over g = g
agrees_append (more h f) g = more h (agrees_append f g)

agrees_left : (cs ds : List Cell) (a : List ℕ) → Agrees (cs ++ ds) a → Agrees cs (take (length cs) a)
agrees_left [] ds a f = over
agrees_left (c ∷ cs) ds a (more h f) = more h (agrees_left cs ds _ f)

agrees_right : (cs ds : List Cell) (a : List ℕ) → Agrees (cs ++ ds) a → Agrees ds (drop (length cs) a)
agrees_right [] ds a f = f
agrees_right (c ∷ cs) ds a (more h f) = agrees_right cs ds _ f

-- what is written at one place to cells and arena alike keeps them in agreement
agrees_put : (p : ℕ) {ds cs : List Cell} {bs a : List ℕ} → Agrees ds bs → Agrees cs a → Agrees (put p ds cs) (put p bs a)
agrees_put p g over = over
agrees_put zero over (more h f) = more h f
agrees_put zero (more k g) (more h f) = more k (agrees_put zero g f)
agrees_put (suc p) g (more h f) = more h (agrees_put p g f)

-- what is written over the middle one of three lists of cells
pub agrees_over : (p : ℕ) (A M N B : List Cell) {cs ds : List Cell} {bs a : List ℕ} → cs ≡ A ++ (M ++ B) → ds ≡ A ++ (N ++ B)
    → length A ≡ p → length N ≡ length M → Agrees N bs → Agrees cs a → Agrees ds (put p bs a)
agrees_over p A M N B {bs = bs} {a = a} c d l n g f =
    subst (λ l. Agrees l (put p bs a)) (ap (put p N) c ∙ put_at p A M N B l n ∙ sym d) (agrees_put p g f)

-- the bytes at the middle one of three lists of cells
agrees_part : (p k : ℕ) (A M B : List Cell) (a : List ℕ) → length A ≡ p → length M ≡ k → Agrees (A ++ (M ++ B)) a → Agrees M (part p k a)
agrees_part p k A M B a e h f = rw (← e, ← h) (agrees_left M B _ (agrees_right A (M ++ B) a f))

-- ---- a live block's cells

-- requested bytes that are zero, and all behind them
zeros_agree : (k r : ℕ) → Agrees (packets k ++ due (spare r)) (zeros k ++ spare r)
zeros_agree k r = agrees_append (subst (λ j. Agrees (packets j) (zeros k)) (zeros-length k) (agrees_packets (zeros k))) (agrees_due (spare r))

pub agrees_frame : (c i : ℕ) (x : Slot) → T (is_live x) → Agrees (slot_cells c i x) (frame c i (disp x) (size x))
unfolding block_cells frame
agrees_frame c i x l =
    rw (live-cells c i x l)
    (agrees_append (agrees_due (zeros (16 * disp x)))
    (agrees_append (agrees_due (header c i (disp x) (size x))) (zeros_agree (size x) (reserved c (disp x) (size x)))))

-- the byte right after the requested ones, if it is a reserved one
first-due : (c i d n : ℕ) (bs : List ℕ) → Agrees (block_cells c i d n) bs
    → (let z = first_spare (reserved c d n) in part (16 * d + 4 + n) (length z) bs ≡ z)
unfolding block_cells
first-due c i d n bs f =
    let r : ℕ = reserved c d n in
    let z : List ℕ = first_spare r in
    let A : List Cell = due (zeros (16 * d)) ++ (due (header c i d n) ++ packets n) in
    let rest : List ℕ = drop (length z) (spare r) in
    let l : length A ≡ 16 * d + 4 + n = simp (length-append, due-length, zeros-length, header-length, length-replicate) (omega arith) in
    let q : block_cells c i d n ≡ A ++ (due z ++ due rest) =
    ap (λ s. due (zeros (16 * d)) ++ (due (header c i d n) ++ (packets n ++ due s))) (spare-first r) ∙ rw (map-append settled z rest) (simp append_assoc) in
    due_agrees z _ (agrees_part (16 * d + 4 + n) (length z) A (due z) (due rest) bs l (due-length z) (subst (λ l. Agrees l bs) q f))

-- header and guard are those due
undamaged_in : (c i d n : ℕ) (bs : List ℕ) → 16 * d + n + 4 ≤ slot_bytes c → Agrees (block_cells c i d n) bs → damage_in c i d n bs ≡ Ok tt
unfolding block_cells damage_in header_right guard_right spare choose
undamaged_in c i d n bs h f =
    let r : ℕ = reserved c d n in
    let g : List ℕ = guard r in
    let Z : List Cell = due (zeros (16 * d)) in
    let H : List Cell = due (header c i d n) in
    let A : List Cell = Z ++ (H ++ (packets n ++ due (zeros (r - length g)))) in
    let e₁ : part (16 * d) 4 bs ≡ header c i d n =
    due_agrees (header c i d n) _ (agrees_part (16 * d) 4 Z H _ bs (zeros-due (16 * d)) (due-length (header c i d n) ∙ header-length c i d n) f) in
    let l : length A ≡ slot_bytes c - length g =
    simp (length-append, due-length, zeros-length, header-length, length-replicate) (omega (arith, guard-fits r)) in
    let q : Z ++ (H ++ (packets n ++ due (zeros (r - length g) ++ g))) ≡ A ++ (due g ++ []) =
    rw (map-append settled (zeros (r - length g)) g, append-nil (due g)) (simp append_assoc) in
    let e₂ : part (slot_bytes c - length g) (length g) bs ≡ g =
    due_agrees g _ (agrees_part (slot_bytes c - length g) (length g) A (due g) [] bs l (due-length g) (subst (λ l. Agrees l bs) q f)) in
    let z : List ℕ = first_spare r in
    rw (
      e₁,
      first-due c i d n bs f,
      e₂,
      T_true (same (header c i d n) (header c i d n)) (same_refl (header c i d n)),
      T_true (same z z) (same_refl z),
      T_true (same g g) (same_refl g),
    )

-- ---- in its pool

module _ (row : ℕ) (pos : 0 < row) (p : Place) (f : Fits p) (a : List ℕ) where
  -- a live block is undamaged
  pub undamaged : T (is_live p.state) → Agrees (cells row (pool_of p)) a → damage row a p ≡ Ok tt
  undamaged l g =
      let M : List Cell = slot_cells p.cls (slot_number p) p.state in
      let r : Agrees M (owned_bytes row a p) =
      agrees_part (owned row p) (slot_bytes p.cls) (front row p) M (back row p) a (front_length row pos p f)
      (slot_length p.cls (slot_number p) p.state f.class f.state) (subst (λ l. Agrees l a) (cells_place row p) g) in
      undamaged_in p.cls (slot_number p) (disp p.state) (size p.state) (owned_bytes row a p) (disp_inside p.cls p.state f.class f.state)
      (subst (λ m. Agrees m (owned_bytes row a p)) (live-cells p.cls (slot_number p) p.state l) r)

  -- all its owned bytes written anew
  pub slot_written : (x : Slot) (bs : List ℕ) → T (slot_sound p.cls x) → Agrees (slot_cells p.cls (slot_number p) x) bs
      → Agrees (cells row (pool_of p)) a → Agrees (cells row (pool_of (become p x))) (put (owned row p) bs a)
  slot_written x bs t h g =
      let at : Slot → List Cell = slot_cells p.cls (slot_number p) in
      agrees_over (owned row p) (front row p) (at p.state) (at x) (back row p) (cells_place row p) (cells_place row (become p x)) (front_length row pos p f)
      (slot_length p.cls (slot_number p) x f.class t ∙ sym (slot_length p.cls (slot_number p) p.state f.class f.state)) h g

module _ (row : ℕ) (pos : 0 < row) (p : Place) (f : Fits p) (l : T (is_live p.state)) (a : List ℕ) where
  -- the cells before its header, the header, and what follows its first k bytes, if it has n
  abbrev lead : List Cell
  lead = front row p ++ due (zeros (16 * disp p.state))

  abbrev head : ℕ → List Cell
  head n = due (header p.cls (slot_number p) (disp p.state) n)

  abbrev tail : ℕ → ℕ → List Cell
  tail n k = packets (n - k) ++ due (spare (reserved p.cls (disp p.state) n))

  tail-length : (n k : ℕ) → k ≤ n → 16 * disp p.state + n + 4 ≤ slot_bytes p.cls → length (tail n k) + k ≡ slot_bytes p.cls - 4 - 16 * disp p.state
  tail-length n k h t = simp (length-append, due-length, spare-length, length-replicate) (omega arith)

  block_parts : (n k : ℕ) → k ≤ n
      → front row p ++ (block_cells p.cls (slot_number p) (disp p.state) n ++ back row p) ≡ lead ++ (head n ++ (packets k ++ (tail n k ++ back row p)))
  unfolding block_cells
  block_parts n k h =
      let q : k + (n - k) ≡ n = omega arith in
      let e : packets n ≡ packets k ++ packets (n - k) = sym (replicate-append-replicate k (n - k) packet ∙ ap packets q) in
      rw e (simp append_assoc)

  live_parts : (k : ℕ) → k ≤ size p.state
      → cells row (pool_of p) ≡ lead ++ (head (size p.state) ++ (packets k ++ (tail (size p.state) k ++ back row p)))
  live_parts k h =
      cells_place row p ∙ ap (λ m. front row p ++ (m ++ back row p)) (live-cells p.cls (slot_number p) p.state l) ∙ block_parts (size p.state) k h

  -- what is copied into its requested bytes
  pub copied : (bs : List ℕ) → length bs ≤ size p.state → Agrees (cells row (pool_of p)) a → Agrees (cells row (pool_of p)) (put (start row p) bs a)
  copied bs h g =
      let n : ℕ = size p.state in
      let k : ℕ = length bs in
      let e : cells row (pool_of p) ≡ (lead ++ head n) ++ (packets k ++ (tail n k ++ back row p)) = live_parts k h ∙ simp append_assoc in
      agrees_over (start row p) (lead ++ head n) (packets k) (packets k) (tail n k ++ back row p) e e
      (simp (length-append, front_length row pos p f, due-length, zeros-length, header-length) (omega arith)) refl (agrees_packets bs) g

  -- its header and all behind the bytes that stay written anew, for another size
  pub resized : (n : ℕ) → 16 * disp p.state + n + 4 ≤ slot_bytes p.cls → Agrees (cells row (pool_of p)) a
      → Agrees (cells row (pool_of (become p (Live (record { count = count p.state; disp = disp p.state; size = n; align = align p.state })))))
      (put (start row p + min (size p.state) n) (zeros (n - min (size p.state) n) ++ spare (reserved p.cls (disp p.state) n))
      (put (start row p - 4) (header p.cls (slot_number p) (disp p.state) n) a))
  unfolding slot_cells choose
  resized n h g =
      let m : ℕ = size p.state in
      let k : ℕ = min m n in
      let x : Slot = Live (record { count = count p.state; disp = disp p.state; size = n; align = align p.state }) in
      let h₀ : 16 * disp p.state + m + 4 ≤ slot_bytes p.cls = disp_inside p.cls p.state f.class f.state in
      let hs : List ℕ = header p.cls (slot_number p) (disp p.state) n in
      let g₁ : Agrees (lead ++ (head n ++ (packets k ++ (tail m k ++ back row p)))) (put (start row p - 4) hs a) =
      agrees_over (start row p - 4) lead (head m) (head n) (packets k ++ (tail m k ++ back row p)) (live_parts k (omega arith)) refl
      (simp (length-append, front_length row pos p f, due-length, zeros-length) (omega arith)) (simp (due-length, header-length)) (agrees_due hs) g in
      agrees_over (start row p + k) (lead ++ (head n ++ packets k)) (tail m k) (tail n k) (back row p) (simp append_assoc)
      (cells_place row (become p x) ∙ block_parts n k (omega arith) ∙ simp append_assoc)
      (simp (length-append, front_length row pos p f, due-length, zeros-length, header-length, length-replicate) (omega arith))
      (omega (arith, tail-length n k (omega arith) h, tail-length m k (omega arith) h₀)) (zeros_agree (n - k) (reserved p.cls (disp p.state) n)) g₁
