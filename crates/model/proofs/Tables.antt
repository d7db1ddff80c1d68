-- Laws of the tables: their exact size, and that one state has one byte form, which says that state.
use Rattle.mem.proofs.Prelude.{◌∙◌, ◌≡◌, sym, ap, refl, ap₂, true, Bool, false, List, [], ◌∷◌, ◌++◌, append_assoc, map, append-nil, ◌+◌, ℕ, ◌<◌}
use Rattle.mem.proofs.Prelude.{◌≤◌, ◌*◌, ◌-◌, suc, ◌/◌, zero, ◌^◌, zero-add, arith, eq-eqb, T, eqb, leb, lit≤, eqb→eq, leb→le, ltb→lt}
use Rattle.mem.proofs.Prelude.{length, drop, length-append, length-map, drop_at}
use native.Mathlib.Nat.{le_trans, lt_of_lt_of_le, pow-le-pow_right, suc-add}
use lib.Seq.{take_at}
use Rattle.mem.specs.Lists.{choose, every, join}
use Rattle.mem.specs.Bytes.{zeros, low, number, mask, same}
use Rattle.mem.proofs.Tests.{and_left, and_right, and_both, true-T}
use Rattle.mem.proofs.Masks.{mask_below, low_test, rest_bits}
use Rattle.mem.proofs.Laws.{zeros-length, number-low, same_refl, same→eq}
use Rattle.classes.specs.Classes.{slot_bytes, slots_of, rows_of, size_limit}
use Rattle.classes.specs.Alignments.{enlarged}
use Rattle.classes.proofs.Alignments.{enlarged_least}
use Rattle.classes.proofs.Laws.{units_small, slots_small, rows_pos}
use Rattle.model.specs.declared.Slot.{Slot}
use Rattle.model.specs.declared.Slot.TheVariants.{Fresh, Idle, Live}
use Rattle.model.specs.declared.Holder.{Holder}
use Rattle.model.specs.declared.Holder.TheVariants.{Free, First, Later}
use Rattle.model.specs.State.{Span, Pool, free, group, is_ready, is_waiting, count, size, slot_sound, span_sound, well_formed, aligned, rows, rows_in}
use Rattle.model.specs.Tables.{slot_record, holder_bytes, row_record, later_records, room_bytes, view_slot, view_slots, view_group, row_record_bytes}
use Rattle.model.specs.Tables.{view_holder, span_of, encode_by, sound_by, span_records_by, view_by, view_rows_by}
use Rattle.model.specs.Tables.{Layout, LayoutLaws, masks_layout, arena_right}

-- ---- lengths

pub slot_length : (x : Slot) → length (slot_record x) ≡ 8
unfolding slot_record zeros
slot_length Fresh = refl
slot_length (Idle r k d) = refl
slot_length (Live a) = refl

pub slots_length : (ss : List Slot) → length (join slot_record ss) ≡ 8 * length ss
slots_length [] = refl
slots_length (x ∷ ss) = omega (arith, length-append (slot_record x) (join slot_record ss), slot_length x, slots_length ss)

holder_length : (h : Holder) → length (holder_bytes h) ≡ 2
holder_length Free = refl
holder_length (First c) = refl
holder_length (Later k) = refl

-- the 16 bytes before a row's slot records
pub row_head : Holder → List Slot → List ℕ
row_head h ss = holder_bytes h ++ (zeros 6 ++ (low 4 (mask (map is_ready ss)) ++ low 4 (mask (map is_waiting ss))))

pub head-length : (h : Holder) (ss : List Slot) → length (row_head h ss) ≡ 16
unfolding row_head
head-length h ss =
    omega (
      arith,
      length-append (holder_bytes h) (zeros 6 ++ (low 4 (mask (map is_ready ss)) ++ low 4 (mask (map is_waiting ss)))),
      holder_length h,
      length-append (zeros 6) (low 4 (mask (map is_ready ss)) ++ low 4 (mask (map is_waiting ss))),
      zeros-length 6,
    )

pub row_parts : (h : Holder) (ss : List Slot) → row_record h ss ≡ row_head h ss ++ (join slot_record ss ++ zeros (8 * (31 - length ss)))
unfolding row_record row_head
row_parts h ss = simp append_assoc

pub row_length : (h : Holder) (ss : List Slot) → length ss ≤ 31 → length (row_record h ss) ≡ row_record_bytes
row_length h ss l =
    ap length (row_parts h ss)
    ∙ omega (
      arith,
      length-append (row_head h ss) (join slot_record ss ++ zeros (8 * (31 - length ss))),
      head-length h ss,
      length-append (join slot_record ss) (zeros (8 * (31 - length ss))),
      slots_length ss,
      zeros-length (8 * (31 - length ss)),
    )

pub later_length : (m k : ℕ) → length (later_records m k) ≡ row_record_bytes * m
unfolding later_records
later_length zero k = refl
later_length (suc m) k =
    omega (arith, length-append (row_record (Later k) []) (later_records m (suc k)), row_length (Later k) [] (lit≤ tt), later_length m (suc k))

-- a sound group has as many slots as its class says
pub group-slots : (c : ℕ) (ss : List Slot) → T (span_sound (group c ss)) → length ss ≡ slots_of c
unfolding span_sound
group-slots c ss t = eqb→eq (length ss) (slots_of c) (search (and_left, and_right))

pub group_few : (c : ℕ) (ss : List Slot) → T (span_sound (group c ss)) → length ss ≤ 31
group_few c ss t = omega (arith, group-slots c ss t, slots_small c)

-- ---- the byte form of a state says that state

pub disp_fits : (c d : ℕ) → 16 * d ≤ slot_bytes c - 4 → d < 256 ^ 2
unfolding slot_bytes
disp_fits c d h = omega (arith, units_small c)

-- "its use count modulo 256"
pub count_small : (c : ℕ) (x : Slot) → T (slot_sound c x) → count x < 256
unfolding slot_sound
count_small c Fresh t = lit≤ tt
count_small c (Idle r k d) t = ltb→lt k 256 (search and_left)
count_small c (Live a) t = ltb→lt a.count 256 (search (and_left, and_right))

-- "a live n is below 131,052"
pub size_small : (c : ℕ) (x : Slot) → T (slot_sound c x) → size x < 131052
unfolding slot_sound size_limit
size_small c Fresh t = omega arith
size_small c (Idle r k d) t = omega arith
size_small c (Live a) t =
    omega (arith, ltb→lt (enlarged a.align a.size) 131052 (search (and_left, and_right)), enlarged_least a.align a.size)

pub view_slot_lem : (c : ℕ) (x : Slot) → T (slot_sound c x) → view_slot (is_ready x) (is_waiting x) (slot_record x) ≡ x
unfolding view_slot slot_record slot_sound zeros choose
view_slot_lem c Fresh t = refl
view_slot_lem c (Idle true k d) t = ap (Idle true k) (number-low 2 d (disp_fits c d (leb→le (16 * d) (slot_bytes c - 4) (search (and_left, and_right)))))
view_slot_lem c (Idle false k d) t = ap (Idle false k) (number-low 2 d (disp_fits c d (leb→le (16 * d) (slot_bytes c - 4) (search (and_left, and_right)))))
view_slot_lem c (Live a) t =
    let t₁ : T (leb (16 * a.disp + a.size) (slot_bytes c - 4)) = search (and_left, and_right) in
    let h : 16 * a.disp ≤ slot_bytes c - 4 = omega (arith, leb→le (16 * a.disp + a.size) (slot_bytes c - 4) t₁) in
    ap₂ {C = Slot} (λ d n. Live (record { count = a.count; disp = d; size = n; align = a.align })) (number-low 2 a.disp (disp_fits c a.disp h))
    (number-low 3 a.size (omega (arith, size_small c (Live a) t)))

view_slots_lem : (c : ℕ) (ss : List Slot) (rest : List ℕ) → T (every (slot_sound c) ss)
    → view_slots (length ss) (mask (map is_ready ss)) (mask (map is_waiting ss)) (join slot_record ss ++ rest) ≡ ss
unfolding view_slots
view_slots_lem c [] rest t = refl
view_slots_lem c (x ∷ ss) rest t =
    rw (
      append_assoc (slot_record x) (join slot_record ss) rest,
      take_at (slot_record x) (join slot_record ss ++ rest) 8 (slot_length x),
      drop_at (slot_record x) (join slot_record ss ++ rest) 8 (slot_length x),
      low_test (is_ready x) (map is_ready ss),
      low_test (is_waiting x) (map is_waiting ss),
      rest_bits (is_ready x) (map is_ready ss),
      rest_bits (is_waiting x) (map is_waiting ss),
    )
    (ap₂ {C = List Slot} (λ y ys. y ∷ ys) (view_slot_lem c x (and_left (slot_sound c x) (every (slot_sound c) ss) t))
    (view_slots_lem c ss rest (and_right (slot_sound c x) (every (slot_sound c) ss) t)))

pub mask_fits : (f : Slot → Bool) (ss : List Slot) → length ss ≤ 31 → mask (map f ss) < 256 ^ 4
mask_fits f ss h =
    let l : length (map f ss) ≤ 31 = rw (length-map ss f) h in
    lt_of_lt_of_le (mask_below (map f ss)) (le_trans (pow-le-pow_right (lit≤ tt) l) (lit≤ {m = 2 ^ 31} tt))

pub view_group_lem : (c : ℕ) (ss : List Slot) (rest : List ℕ) → T (span_sound (group c ss)) → view_group c (row_record (First c) ss ++ rest) ≡ ss
unfolding view_group row_record zeros span_sound
view_group_lem c ss rest t =
    let few : length ss ≤ 31 = group_few c ss t in
    rw (← group-slots c ss t)
    (ap₂ (λ x y. view_slots (length ss) x y (drop 16 (row_record (First c) ss ++ rest))) (number-low 4 (mask (map is_ready ss)) (mask_fits is_ready ss few))
    (number-low 4 (mask (map is_waiting ss)) (mask_fits is_waiting ss few))
    ∙ ap (view_slots (length ss) (mask (map is_ready ss)) (mask (map is_waiting ss))) (append_assoc (join slot_record ss) _ rest)
    ∙ view_slots_lem c ss _ (search (and_left, and_right)))

pub holder_free : (rest : List ℕ) → view_holder (row_record Free [] ++ rest) ≡ Free
unfolding view_holder row_record choose
holder_free rest = refl

pub holder_first : (c : ℕ) (ss : List Slot) (rest : List ℕ) → view_holder (row_record (First c) ss ++ rest) ≡ First c
unfolding view_holder row_record choose
holder_first c ss rest = refl

pub holder_later : (k : ℕ) (rest : List ℕ) → view_holder (row_record (Later k) [] ++ rest) ≡ Later k
unfolding view_holder row_record choose
holder_later k rest = refl

-- ---- any layout

module _ {L : Layout} (law : LayoutLaws L) (row : ℕ) (pos : 0 < row) where
  pub group-length : (c : ℕ) (ss : List Slot) → length ss ≤ 31 → length (span_records_by L row (group c ss)) ≡ row_record_bytes * rows_of row c
  unfolding span_records_by
  group-length c ss h =
      omega (
        arith,
        length-append (L.first_row c ss) (later_records (rows_of row c - 1) 1),
        law.long c ss h,
        later_length (rows_of row c - 1) 1,
        rows_pos row c pos,
      )

  pub span_length : (s : Span) → T (span_sound s) → length (span_records_by L row s) ≡ row_record_bytes * rows_in row s
  unfolding span_records_by
  span_length free t = row_length Free [] (lit≤ tt)
  span_length (group c ss) t = group-length c ss (group_few c ss t)

  pub spans_length : (P : Pool) → T (well_formed P) → length (join (span_records_by L row) P) ≡ row_record_bytes * rows row P
  spans_length [] t = refl
  spans_length (s ∷ P) t =
      omega (
        arith,
        length-append (span_records_by L row s) (join (span_records_by L row) P),
        span_length s (and_left (span_sound s) (well_formed P) t),
        spans_length P (and_right (span_sound s) (well_formed P) t),
      )

  -- the table room's one size
  pub encode-length : (P : Pool) → T (well_formed P) → length (encode_by L row P) ≡ room_bytes (rows row P)
  unfolding encode_by room_bytes
  encode-length P t =
      omega (arith, length-append (zeros 12) (join (span_records_by L row) P), zeros-length 12, spans_length P t)

-- ---- one row of the view

module _ (L : Layout) (row n : ℕ) (t : List ℕ) where
  pub rows-free : view_holder t ≡ Free → view_rows_by L row (suc n) 0 t ≡ free ∷ view_rows_by L row n 0 (drop row_record_bytes t)
  unfolding view_rows_by
  rows-free e =
      ap (span_of (free ∷ view_rows_by L row n 0 (drop row_record_bytes t))
      (λ c. group c (L.slots_in c t) ∷ view_rows_by L row n (rows_of row c - 1) (drop row_record_bytes t))) e

  pub rows-first : (c : ℕ) → view_holder t ≡ First c → view_rows_by L row (suc n) 0 t
      ≡ group c (L.slots_in c t) ∷ view_rows_by L row n (rows_of row c - 1) (drop row_record_bytes t)
  unfolding view_rows_by
  rows-first c e =
      ap (span_of (free ∷ view_rows_by L row n 0 (drop row_record_bytes t))
      (λ c. group c (L.slots_in c t) ∷ view_rows_by L row n (rows_of row c - 1) (drop row_record_bytes t))) e

  pub rows_skip : (k : ℕ) → view_rows_by L row (suc n) (suc k) t ≡ view_rows_by L row n k (drop row_record_bytes t)
  unfolding view_rows_by
  rows_skip k = refl

-- ---- the byte form of a state says that state, whatever stands behind it

module _ {L : Layout} (law : LayoutLaws L) (row : ℕ) where
  pass_over : (k n j : ℕ) (rest : List ℕ) → view_rows_by L row (k + n) k (later_records k j ++ rest) ≡ view_rows_by L row n 0 rest
  unfolding later_records
  pass_over zero n j rest = ap (λ m. view_rows_by L row m 0 rest) (zero-add n)
  pass_over (suc k) n j rest =
      rw (append_assoc (row_record (Later j) []) (later_records k (suc j)) rest)
      (ap (λ m. view_rows_by L row m (suc k) (row_record (Later j) [] ++ (later_records k (suc j) ++ rest))) (suc-add k n)
      ∙ rows_skip L row (k + n) (row_record (Later j) [] ++ (later_records k (suc j) ++ rest)) k
      ∙ ap (view_rows_by L row (k + n) k) (drop_at (row_record (Later j) []) (later_records k (suc j) ++ rest) row_record_bytes (row_length (Later j) [] (lit≤ tt)))
      ∙ pass_over k n (suc j) rest)

  module _ (pos : 0 < row) where
    -- one span of the view, whatever stands behind it
    pub view_span : (s : Span) (m : ℕ) (rest : List ℕ) → T (span_sound s) → view_rows_by L row (rows_in row s + m) 0 (span_records_by L row s ++ rest)
        ≡ s ∷ view_rows_by L row m 0 rest
    unfolding span_records_by
    view_span free m rest h =
        let e : 1 + m ≡ suc m = omega arith in
        ap (λ k. view_rows_by L row k 0 (row_record Free [] ++ rest)) e
        ∙ rows-free L row m (row_record Free [] ++ rest) (holder_free rest)
        ∙ ap (λ l. free ∷ view_rows_by L row m 0 l) (drop_at (row_record Free []) rest row_record_bytes (row_length Free [] (lit≤ tt)))
    view_span (group c ss) m rest h =
        let R : List ℕ = later_records (rows_of row c - 1) 1 ++ rest in
        let n : ℕ = (rows_of row c - 1) + m in
        let e : rows_of row c + m ≡ suc n = omega (arith, rows_pos row c pos) in
        rw (append_assoc (L.first_row c ss) (later_records (rows_of row c - 1) 1) rest)
        (ap (λ k. view_rows_by L row k 0 (L.first_row c ss ++ R)) e
        ∙ rows-first L row n (L.first_row c ss ++ R) c (law.holder c ss R)
        ∙ ap₂ {C = Pool} (λ ys l. group c ys ∷ view_rows_by L row n (rows_of row c - 1) l) (law.slots c ss R h)
        (drop_at (L.first_row c ss) R row_record_bytes (law.long c ss (group_few c ss h)))
        ∙ ap (λ Q. group c ss ∷ Q) (pass_over (rows_of row c - 1) m 1 rest))

    pub view_records : (P : Pool) (rest : List ℕ) → T (well_formed P) → view_rows_by L row (rows row P) 0 (join (span_records_by L row) P ++ rest) ≡ P
    unfolding view_rows_by
    view_records [] rest t = refl
    view_records (s ∷ P) rest t =
        rw (append_assoc (span_records_by L row s) (join (span_records_by L row) P) rest)
        (view_span s (rows row P) (join (span_records_by L row) P ++ rest) (and_left (span_sound s) (well_formed P) t)
        ∙ ap (λ Q. s ∷ Q) (view_records P rest (and_right (span_sound s) (well_formed P) t)))

    pub view-encode : (P : Pool) → T (well_formed P) → view_by L row (encode_by L row P) ≡ P
    unfolding view_by encode_by zeros
    view-encode P t =
        let J : List ℕ = join (span_records_by L row) P in
        let n : (length (encode_by L row P) - 16) / row_record_bytes ≡ rows row P = omega (arith, spans_length law row pos P t) in
        ap (λ k. view_rows_by L row k 0 J) n ∙ ap (view_rows_by L row (rows row P) 0) (sym (append-nil J)) ∙ view_records P [] t

    -- the byte form of a well-formed state is sound, under an arena of its length
    pub encode-sound : (P : Pool) (n : ℕ) → T (well_formed P) → T (aligned row P) → T (arena_right row n) → n ≡ row * rows row P
        → T (sound_by L row n (encode_by L row P))
    unfolding sound_by
    encode-sound P n w b h e =
        let t₁ : T (eqb n (row * rows row P)) = true-T (eqb n (row * rows row P)) (eq-eqb n (row * rows row P) e) in
        let t₂ : T (same (encode_by L row P) (encode_by L row P)) = same_refl (encode_by L row P) in
        rw (view-encode P w) (search and_both)

module _ (L : Layout) (row : ℕ) where
  -- what sound tables are: the one form of what they say, for an arena of the recorded length, and well formed
  pub record Sound (n : ℕ) (t : List ℕ) : Type 0 where
    pub lawful : T (arena_right row n)
    pub long : n ≡ row * rows row (view_by L row t)
    pub form : t ≡ encode_by L row (view_by L row t)
    pub formed : T (well_formed (view_by L row t))
    pub bounds : T (aligned row (view_by L row t))

  pub sound_facts : (n : ℕ) (t : List ℕ) → T (sound_by L row n t) → Sound n t
  unfolding sound_by
  sound_facts n t h = record {
    lawful = search (and_left, and_right);
    long = eqb→eq n (row * rows row (view_by L row t)) (search (and_left, and_right));
    form = same→eq t (encode_by L row (view_by L row t)) (search (and_left, and_right));
    formed = search (and_left, and_right);
    bounds = search (and_left, and_right);
  }

-- the first engine's layout
pub masks_laws : LayoutLaws masks_layout
unfolding row_record
masks_laws = record { long = λ c ss. row_length (First c) ss; holder = holder_first; slots = view_group_lem }

-- ---- a mask of a group's slots, read back

pub mask-read : (f : Slot → Bool) (ss : List Slot) → length ss ≤ 31 → number (low 4 (mask (map f ss))) ≡ mask (map f ss)
mask-read f ss h = number-low 4 (mask (map f ss)) (mask_fits f ss h)
