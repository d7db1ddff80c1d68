-- What the reads and writes of records are to the pool's state.
use Rattle.mem.proofs.Prelude.{◌∙◌, ◌≡◌, sym, ap, refl, ap₂, Bool, List, [], ◌∷◌, ◌++◌, append_assoc, map, ◌+◌, ℕ, ◌<◌, ◌≤◌, ◌*◌, ◌-◌}
use Rattle.mem.proofs.Prelude.{suc, zero, ◌^◌, arith, T, length, get_or, length-append}
use native.Mathlib.Nat.{pow-succ', div-one, div-div-eq-div-mul}
use lib.ListN.{get_or-map}
use Rattle.mem.specs.Lists.{every, any, join}
use Rattle.mem.specs.Bytes.{zeros, low, mask, part, put}
use Rattle.mem.proofs.Tests.{every_in, choose_case}
use Rattle.mem.proofs.Masks.{low_test, rest_bits}
use Rattle.mem.proofs.Laws.{join-append, join-part, put_at, part-back}
use Rattle.classes.specs.Classes.{rows_of}
use Rattle.masks.specs.declared.Masks.{Masks}
use Rattle.model.specs.declared.Slot.{Slot}
use Rattle.model.specs.declared.Slot.TheVariants.{Fresh, Idle, Live}
use Rattle.model.specs.declared.Holder.{Holder}
use Rattle.model.specs.declared.Holder.TheVariants.{First}
use Rattle.model.specs.State.{Pool, group, is_ready, is_waiting, slot_sound, well_formed, rows}
use Rattle.model.specs.Tables.{row_at, masks_layout, slot_record, row_record, later_records, span_records, encode}
use Rattle.model.specs.Plans.{turn_ready, refill}
use Rattle.model.proofs.Tables.{slot_length, slots_length, row_head, head-length, row_parts, masks_laws, mask-read, view_slot_lem}
use Rattle.rows.proofs.Rooms.{group-first}
use Rattle.rows.proofs.Spans.{group_front, group_back, encode_round, group_front_lem}
use Rattle.records.specs.Records.{has, masks_in, slot_in, stored}

-- the masks of a group's slots
abbrev pub masks_of : List Slot → Masks
masks_of ss = record { ready = mask (map is_ready ss); waiting = mask (map is_waiting ss) }

-- ---- a write to one slot of a group

-- two pieces of a list are written, each over one of its length
two_writes : (j : ℕ) (F K M M' U S S' W : List ℕ) → length K ≡ 8 → length M ≡ 8 → length M' ≡ 8 → length U ≡ 8 * j → length S ≡ 8 → length S' ≡ 8
    → put (length F + (16 + 8 * j)) S' (put (length F + 8) M' (F ++ (K ++ (M ++ (U ++ (S ++ W)))))) ≡ F ++ (K ++ (M' ++ (U ++ (S' ++ W))))
two_writes j F K M M' U S S' W k m m' u s s' =
    let h : length (F ++ K) ≡ length F + 8 = omega (arith, length-append F K) in
    let g : length (F ++ K ++ M' ++ U) ≡ length F + (16 + 8 * j) = omega (arith, length-append (F ++ K ++ M') U, length-append (F ++ K) M') in
    let e : F ++ (K ++ (M ++ (U ++ (S ++ W)))) ≡ F ++ K ++ (M ++ (U ++ (S ++ W))) = simp append_assoc in
    let f : F ++ K ++ (M' ++ (U ++ (S ++ W))) ≡ F ++ K ++ M' ++ U ++ (S ++ W) = simp append_assoc in
    rw (e, put_at (length F + 8) (F ++ K) M M' (U ++ (S ++ W)) h (omega arith), f, put_at (length F + (16 + 8 * j)) (F ++ K ++ M' ++ U) S S' W g (omega arith))
    (simp append_assoc)

-- the 8 bytes before a group's masks, and the masks' bytes
kind : ℕ → List ℕ
kind c = 1 ∷ c ∷ zeros 6

kind_length : (c : ℕ) → length (kind c) ≡ 8
unfolding kind zeros
kind_length c = refl

sets : List Slot → List ℕ
sets ss = low 4 (mask (map is_ready ss)) ++ low 4 (mask (map is_waiting ss))

sets-length : (ss : List Slot) → length (sets ss) ≡ 8
unfolding sets
sets-length ss = refl

row_split : (c : ℕ) (ss : List Slot) (rest : List ℕ)
    → row_record (First c) ss ++ rest ≡ kind c ++ (sets ss ++ (join slot_record ss ++ (zeros (8 * (31 - length ss)) ++ rest)))
unfolding row_record kind sets
row_split c ss rest = simp append_assoc

-- a group's first row, round the record of one slot
row_round : (c : ℕ) (us : List Slot) (x : Slot) (vs : List Slot) (rest : List ℕ)
    → row_record (First c) (us ++ (x ∷ vs)) ++ rest
    ≡ kind c ++ (sets (us ++ (x ∷ vs)) ++ (join slot_record us ++ (slot_record
    x ++ (join slot_record vs ++ (zeros (8 * (31 - length (us ++ (x ∷ vs)))) ++ rest)))))
row_round c us x vs rest = row_split c (us ++ (x ∷ vs)) rest ∙ rw (join-append slot_record us (x ∷ vs)) (simp append_assoc)

module _ (us vs us' vs' : List Slot) (x y : Slot) (lu : length us ≡ length us') (lv : length vs ≡ length vs')
    (ju : join slot_record us ≡ join slot_record us') (jv : join slot_record vs ≡ join slot_record vs') where
  row_stored : (c : ℕ) (front rest : List ℕ)
      → stored (length front) (masks_of (us' ++ (x ∷ vs'))) (length us') x (front ++ (row_record (First c) (us ++ (y ∷ vs)) ++ rest))
      ≡ front ++ (row_record (First c) (us' ++ (x ∷ vs')) ++ rest)
  unfolding stored sets
  row_stored c front rest =
      let n : length (us ++ (y ∷ vs)) ≡ length (us' ++ (x ∷ vs')) = omega (arith, length-append us (y ∷ vs), length-append us' (x ∷ vs')) in
      let Z : List ℕ = join slot_record vs ++ (zeros (8 * (31 - length (us ++ (y ∷ vs)))) ++ rest) in
      rw (row_round c us y vs rest)
      (two_writes (length us') front (kind c) (sets (us ++ (y ∷ vs))) (sets (us' ++ (x ∷ vs'))) (join slot_record us) (slot_record y) (slot_record x) Z
      (kind_length c) (sets-length (us ++ (y ∷ vs))) (sets-length (us' ++ (x ∷ vs'))) (omega (arith, slots_length us)) (slot_length y) (slot_length x)
      ∙ rw (ju, jv, n) (ap (λ t. front ++ t) (sym (row_round c us' x vs' rest))))

-- one slot of a group becomes x, and of the others no record changes
pub stored-encode : (row : ℕ) → 0 < row → (X : Pool) (c : ℕ) (us vs us' vs' : List Slot) (x y : Slot) (Y : Pool) → T (well_formed X)
    → length us ≡ length us' → length vs ≡ length vs' → join slot_record us ≡ join slot_record us' → join slot_record vs ≡ join slot_record vs'
    → stored (row_at (rows row X)) (masks_of (us' ++ (x ∷ vs'))) (length us') x (encode row (X ++ (group c (us ++ (y ∷ vs)) ∷ Y)))
    ≡ encode row (X ++ (group c (us' ++ (x ∷ vs')) ∷ Y))
stored-encode row pos X c us vs us' vs' x y Y w lu lv ju jv =
    let l : length (group_front masks_layout row c X Y) ≡ row_at (rows row X) = group_front_lem masks_laws row pos c X Y w in
    rw (encode_round masks_layout row c X Y (us ++ (y ∷ vs)), encode_round masks_layout row c X Y (us' ++ (x ∷ vs')), ← l)
    (row_stored us vs us' vs' x y lu lv ju jv c (group_front masks_layout row c X Y) (group_back masks_layout row c X Y))

-- ---- reads of a group's first row

pub masks-read : (c : ℕ) (ss : List Slot) (rest : List ℕ) → length ss ≤ 31 → masks_in (row_record (First c) ss ++ rest) ≡ masks_of ss
unfolding masks_in row_record zeros
masks-read c ss rest h =
    ap₂ {C = Masks} (λ r w. record { ready = r; waiting = w }) (mask-read is_ready ss h) (mask-read is_waiting ss h)

pub masks-read_span : (row c : ℕ) (ss : List Slot) (Y : Pool) → length ss ≤ 31 → masks_in (join (span_records row) (group c ss ∷ Y)) ≡ masks_of ss
masks-read_span row c ss Y h = ap masks_in (group-first masks_layout row c ss Y) ∙ masks-read c ss (later_records (rows_of row c - 1) 1 ++ join (span_records row) Y) h

-- bit j of a mask of slots
has_slot : (f : Slot → Bool) (ss : List Slot) (j : ℕ) → j < length ss → has j (mask (map f ss)) ≡ f (get_or ss j Fresh)
has_slot f [] j h = absurd (omega arith)
has_slot f (x ∷ ss) zero h = rw (div-one (mask (f x ∷ map f ss))) (low_test (f x) (map f ss))
has_slot f (x ∷ ss) (suc j) h =
    rw (pow-succ' 2 j, ← div-div-eq-div-mul (mask (f x ∷ map f ss)) 2 (2 ^ j), rest_bits (f x) (map f ss)) (has_slot f ss j (omega arith))

row_slot : (h : Holder) (ss : List Slot) (rest : List ℕ) (j : ℕ) → j < length ss → part (16 + 8 * j) 8 (row_record h ss ++ rest) ≡ slot_record (get_or ss j Fresh)
row_slot h ss rest j l =
    let e : 16 + 8 * j ≡ length (row_head h ss) + 8 * j = omega (arith, head-length h ss) in
    rw (row_parts h ss, append_assoc (row_head h ss), append_assoc (join slot_record ss), e, part-back) (join-part slot_record 8 slot_length ss _ j Fresh l)

module _ (c : ℕ) (ss : List Slot) (rest : List ℕ) (j : ℕ) (l : j < length ss) where
  -- with any masks whose bits are those of a slot with that record
  pub slot_read_bits : (m : Masks) (x : Slot) → has j m.ready ≡ is_ready x → has j m.waiting ≡ is_waiting x
      → slot_record (get_or ss j Fresh) ≡ slot_record x → T (slot_sound c x) → slot_in m j (row_record (First c) ss ++ rest) ≡ x
  unfolding slot_in
  slot_read_bits m x r w e t = rw (r, w, row_slot (First c) ss rest j l, e) (view_slot_lem c x t)

  -- with the masks of other slots whose records are the same
  pub slot_read_as : (ss' : List Slot) → length ss' ≡ length ss → T (every (slot_sound c) ss')
      → slot_record (get_or ss j Fresh) ≡ slot_record (get_or ss' j Fresh) → slot_in (masks_of ss') j (row_record (First c) ss ++ rest) ≡ get_or ss' j Fresh
  slot_read_as ss' n t e =
      let k : j < length ss' = omega arith in
      slot_read_bits (masks_of ss') (get_or ss' j Fresh) (has_slot is_ready ss' j k) (has_slot is_waiting ss' j k) e (every_in (slot_sound c) ss' Fresh t j k)

  pub slot_read : T (every (slot_sound c) ss) → slot_in (masks_of ss) j (row_record (First c) ss ++ rest) ≡ get_or ss j Fresh
  slot_read t = slot_read_as ss refl t refl

-- a refill changes no record
turn_record : (x : Slot) → slot_record (turn_ready x) ≡ slot_record x
unfolding slot_record
turn_record Fresh = refl
turn_record (Idle r k d) = refl
turn_record (Live a) = refl

pub refill_records : (ss : List Slot) (k : ℕ) → slot_record (get_or (refill ss) k Fresh) ≡ slot_record (get_or ss k Fresh)
unfolding refill
refill_records ss k =
    choose_case (λ l. slot_record (get_or l k Fresh) ≡ slot_record (get_or ss k Fresh)) (any is_ready ss) ss (map turn_ready ss) (λ e. refl)
    (λ e. ap slot_record (get_or-map turn_ready ss k Fresh) ∙ turn_record (get_or ss k Fresh))
