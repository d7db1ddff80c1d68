-- Every element of the byte form of a state is a byte, in the layout of either engine.
use Rattle.mem.proofs.Prelude.{true, false, List, [], ◌∷◌, ◌++◌, map, ◌+◌, ℕ, ◌<◌}
use Rattle.mem.proofs.Prelude.{◌≤◌, ◌*◌, ◌-◌, suc, zero, arith, T, leb, lit≤, ltb, leb→le, ltb→lt, lt→ltb}
use Rattle.mem.proofs.Prelude.{length}
use Rattle.mem.specs.Lists.{choose, every, join}
use Rattle.mem.specs.Bytes.{zeros, low, mask}
use Rattle.mem.proofs.Tests.{and_left, and_right, and_both, every_append}
use Rattle.mem.proofs.Laws.{low-bytes}
use Rattle.classes.specs.Classes.{slot_bytes, rows_of}
use Rattle.model.specs.declared.Slot.{Slot}
use Rattle.model.specs.declared.Slot.TheVariants.{Fresh, Idle, Live}
use Rattle.model.specs.declared.Holder.{Holder}
use Rattle.model.specs.declared.Holder.TheVariants.{Free, First, Later}
use Rattle.model.specs.State.{Pool, free, group, is_ready, is_waiting, slot_sound, span_sound, well_formed, rows}
use Rattle.model.specs.Tables.{slot_record, holder_bytes, row_record, later_records}
use Rattle.model.specs.Tables.{encode_by, span_records_by}
use Rattle.model.specs.Tables.{Layout, masks_layout}
use Rattle.model.specs.Plain.{plain_record, plain_row, slots_layout}

unfoldable pub Bytes : List ℕ → Type 0
Bytes bs = T (every (λ b. ltb b 256) bs)

bytes-append : (xs ys : List ℕ) → Bytes xs → Bytes ys → Bytes (xs ++ ys)
unfolding Bytes
bytes-append xs ys t u = every_append (λ b. ltb b 256) xs ys t u

byte : (b : ℕ) (bs : List ℕ) → b < 256 → Bytes bs → Bytes (b ∷ bs)
unfolding Bytes
byte b bs h t = and_both (ltb b 256) (every (λ b. ltb b 256) bs) (lt→ltb b 256 h) t

no_bytes : Bytes []
unfolding Bytes
no_bytes = tt

low_small : (k x : ℕ) → Bytes (low k x)
unfolding Bytes
low_small k x = low-bytes k x

zeros-bytes : (n : ℕ) → Bytes (zeros n)
unfolding zeros
zeros-bytes zero = no_bytes
zeros-bytes (suc n) = byte 0 (zeros n) (lit≤ tt) (zeros-bytes n)

-- two bytes, a displacement, a size and 0
kept_bytes : (b k d n : ℕ) → b < 256 → k < 256 → Bytes (b ∷ k ∷ (low 2 d ++ (low 3 n ++ (0 ∷ []))))
kept_bytes b k d n h l =
    byte b _ h (byte k _ l
    (bytes-append (low 2 d) (low 3 n ++ (0 ∷ [])) (low_small 2 d) (bytes-append (low 3 n) (0 ∷ []) (low_small 3 n) (byte 0 [] (lit≤ tt) no_bytes))))

-- the record of a slot beside masks
slot_record-Bytes : (c : ℕ) (x : Slot) → T (slot_sound c x) → Bytes (slot_record x)
unfolding slot_record slot_sound
slot_record-Bytes c Fresh t = zeros-bytes 8
slot_record-Bytes c (Idle r k d) t =
    byte 1 _ (lit≤ tt) (byte k _ (ltb→lt k 256 (and_left (ltb k 256) (leb (16 * d) (slot_bytes c - 4)) t))
    (bytes-append (low 2 d) (zeros 4) (low_small 2 d) (zeros-bytes 4)))
slot_record-Bytes c (Live a) t =
    let h : T (ltb a.count 256) = search (and_left, and_right) in
    let k : T (leb a.align 9) = search (and_left, and_right) in
    kept_bytes a.align a.count a.disp a.size (omega (arith, leb→le a.align 9 k)) (ltb→lt a.count 256 h)

-- the plain record of a slot
plain_bytes : (c : ℕ) (x : Slot) → T (slot_sound c x) → Bytes (plain_record x)
unfolding plain_record slot_sound choose
plain_bytes c Fresh t = kept_bytes 0 0 0 0 (lit≤ tt) (lit≤ tt)
plain_bytes c (Idle true k d) t = kept_bytes 1 k d 0 (lit≤ tt) (ltb→lt k 256 (and_left (ltb k 256) (leb (16 * d) (slot_bytes c - 4)) t))
plain_bytes c (Idle false k d) t = kept_bytes 2 k d 0 (lit≤ tt) (ltb→lt k 256 (and_left (ltb k 256) (leb (16 * d) (slot_bytes c - 4)) t))
plain_bytes c (Live a) t =
    let h : T (ltb a.count 256) = search (and_left, and_right) in
    let k : T (leb a.align 9) = search (and_left, and_right) in
    kept_bytes (a.align + 2) a.count a.disp a.size (omega (arith, leb→le a.align 9 k)) (ltb→lt a.count 256 h)

-- the records of slots, whatever the record
module _ (record_of : Slot → List ℕ) (bytes : (c : ℕ) (x : Slot) → T (slot_sound c x) → Bytes (record_of x)) where
  slots-bytes : (c : ℕ) (ss : List Slot) → T (every (slot_sound c) ss) → Bytes (join record_of ss)
  slots-bytes c [] t = no_bytes
  slots-bytes c (x ∷ ss) t =
      bytes-append (record_of x) (join record_of ss) (bytes c x (and_left (slot_sound c x) (every (slot_sound c) ss) t))
      (slots-bytes c ss (and_right (slot_sound c x) (every (slot_sound c) ss) t))

row_bytes_lem : (h : Holder) (ss : List Slot) → Bytes (holder_bytes h) → Bytes (join slot_record ss) → Bytes (row_record h ss)
unfolding row_record
row_bytes_lem h ss u t =
    bytes-append (holder_bytes h) _ u
    (bytes-append (zeros 6) _ (zeros-bytes 6)
    (bytes-append (low 4 (mask (map is_ready ss))) _ (low_small 4 (mask (map is_ready ss)))
    (bytes-append (low 4 (mask (map is_waiting ss))) _ (low_small 4 (mask (map is_waiting ss)))
    (bytes-append (join slot_record ss) _ t (zeros-bytes (8 * (31 - length ss)))))))

-- the class that the first row of a group tells
class_byte : (c : ℕ) (ss : List Slot) → T (span_sound (group c ss)) → Bytes (holder_bytes (First c))
unfolding span_sound
class_byte c ss t = byte 1 _ (lit≤ tt) (byte c [] (omega (arith, ltb→lt c 48 (search (and_left, and_right)))) no_bytes)

pub masks-bytes : (c : ℕ) (ss : List Slot) → T (span_sound (group c ss)) → Bytes (masks_layout.first_row c ss)
unfolding span_sound
masks-bytes c ss t = row_bytes_lem (First c) ss (class_byte c ss t) (slots-bytes slot_record slot_record-Bytes c ss (search (and_left, and_right)))

pub plain_row-bytes : (c : ℕ) (ss : List Slot) → T (span_sound (group c ss)) → Bytes (slots_layout.first_row c ss)
unfolding span_sound plain_row
plain_row-bytes c ss t =
    bytes-append (holder_bytes (First c)) _ (class_byte c ss t)
    (bytes-append (zeros 14) _ (zeros-bytes 14)
    (bytes-append (join plain_record ss) _ (slots-bytes plain_record plain_bytes c ss (search (and_left, and_right)))
    (zeros-bytes (8 * (31 - length ss)))))

later_bytes : (m k : ℕ) → k + m ≤ 256 → Bytes (later_records m k)
unfolding later_records
later_bytes zero k h = no_bytes
later_bytes (suc m) k h =
    bytes-append (row_record (Later k) []) (later_records m (suc k))
    (row_bytes_lem (Later k) [] (byte 2 _ (lit≤ tt) (byte k [] (omega arith) no_bytes)) no_bytes) (later_bytes m (suc k) (omega arith))

-- a whole room, in a layout whose first rows are bytes
module _ (L : Layout) (first : (c : ℕ) (ss : List Slot) → T (span_sound (group c ss)) → Bytes (L.first_row c ss))
    (row : ℕ) (few : (c : ℕ) → c < 48 → rows_of row c ≤ 256) where
  spans_bytes : (P : Pool) → T (well_formed P) → Bytes (join (span_records_by L row) P)
  unfolding span_records_by span_sound
  spans_bytes [] t = no_bytes
  spans_bytes (free ∷ P) t =
      bytes-append (row_record Free []) (join (span_records_by L row) P) (row_bytes_lem Free [] (byte 0 _ (lit≤ tt) (byte 0 [] (lit≤ tt) no_bytes)) no_bytes)
      (spans_bytes P t)
  spans_bytes (group c ss ∷ P) t =
      let h : T (span_sound (group c ss)) = and_left (span_sound (group c ss)) (well_formed P) t in
      let l : c < 48 = ltb→lt c 48 (search (and_left, and_right)) in
      bytes-append (L.first_row c ss ++ later_records (rows_of row c - 1) 1) (join (span_records_by L row) P)
      (bytes-append (L.first_row c ss) (later_records (rows_of row c - 1) 1) (first c ss h) (later_bytes (rows_of row c - 1) 1 (omega (arith, few c l))))
      (spans_bytes P (and_right (span_sound (group c ss)) (well_formed P) t))

  pub encode-bytes : (P : Pool) → T (well_formed P) → Bytes (encode_by L row P)
  unfolding encode_by
  encode-bytes P t =
      bytes-append (low 4 (row * rows row P)) _ (low_small 4 (row * rows row P))
      (bytes-append (zeros 12) _ (zeros-bytes 12) (spans_bytes P t))
