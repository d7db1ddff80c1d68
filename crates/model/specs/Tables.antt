-- The tables as bytes: "One state of the tables has one byte form over the whole room, with zero wherever nothing is to be said".
use Rattle.std.specs.Prelude.{ℕ, zero, suc, ◌+◌, ◌*◌, ◌-◌, ◌/◌, ◌%◌, ◌≤◌, ◌≡◌, Bool, true, false, ◌&&◌, List, [], ◌∷◌, ◌++◌, map, T, leb, eqb, length, get_or, take, drop}
use Rattle.mem.specs.Lists.{choose, join}
use Rattle.mem.specs.Bytes.{zeros, low, number, same, mask, part}
use Rattle.classes.specs.Classes.{slots_of, rows_of}
use Rattle.model.specs.declared.Slot.{Slot}
use Rattle.model.specs.declared.Slot.TheVariants.{Fresh, Idle, Live}
use Rattle.model.specs.declared.Holder.{Holder}
use Rattle.model.specs.declared.Holder.TheVariants.{Free, First, Later}
use Rattle.model.specs.State.{Span, Pool, free, group, is_ready, is_waiting, span_sound, well_formed, aligned, rows}

-- THE LAYOUT OF THE ROOM: a head, then a record for each row. In the record of a group's first row the two masks stand at `ready_at` and
-- `waiting_at`, and from `slots_at` on a record for each slot, at most 31.
abbrev pub head_bytes : ℕ
head_bytes = 16

abbrev pub row_record_bytes : ℕ
row_record_bytes = 264

abbrev pub ready_at : ℕ
ready_at = 8

abbrev pub waiting_at : ℕ
waiting_at = 12

abbrev pub slots_at : ℕ
slots_at = 16

abbrev pub slot_record_bytes : ℕ
slot_record_bytes = 8

-- in a slot's record: its kind, which is 0 if it was never granted, use count, displacement, requested size
abbrev pub kind_at : ℕ
kind_at = 0

abbrev pub count_at : ℕ
count_at = 1

abbrev pub disp_at : ℕ
disp_at = 2

abbrev pub size_at : ℕ
size_at = 4

abbrev pub most_slots : ℕ
most_slots = 31

-- "so at most 512 rows"
abbrev pub most_rows : ℕ
most_rows = 512

-- where the record of row i stands
abbrev pub row_at : ℕ → ℕ
row_at i = head_bytes + row_record_bytes * i

-- the exact size of the table room for a number of rows
unfoldable pub room_bytes : ℕ → ℕ
room_bytes n = row_at n

-- a slot's record: its kind, the alignment's code if it is live, 1 if it was granted and is not; use count, displacement in two bytes, the
-- requested size in three if it is live, 0
unfoldable pub slot_record : Slot → List ℕ
slot_record Fresh = zeros slot_record_bytes
slot_record (Idle r k d) = 1 ∷ k ∷ (low 2 d ++ zeros 4)
slot_record (Live a) = a.align ∷ a.count ∷ (low 2 a.disp ++ (low 3 a.size ++ (0 ∷ [])))

-- who holds a row, 2 bytes: 0 free, 1 first with its class, 2 later with its distance
abbrev pub holder_bytes : Holder → List ℕ
holder_bytes Free = 0 ∷ 0 ∷ []
holder_bytes (First c) = 1 ∷ c ∷ []
holder_bytes (Later k) = 2 ∷ k ∷ []

-- a row's record: its holder, 6 zeros, ready mask and waiting mask, a record for each slot, zeros
unfoldable pub row_record : Holder → List Slot → List ℕ
row_record h ss =
    holder_bytes h ++ (zeros 6 ++ (low 4 (mask (map is_ready ss)) ++ (low 4 (mask (map is_waiting ss))
    ++ (join slot_record ss ++ zeros (slot_record_bytes * (most_slots - length ss))))))

-- m later rows of a group, from distance k on
unfoldable pub later_records : ℕ → ℕ → List ℕ
later_records zero k = []
later_records (suc m) k = row_record (Later k) [] ++ later_records m (suc k)

-- the slot that a record says, with its bits of the two masks
unfoldable pub view_slot : Bool → Bool → List ℕ → Slot
view_slot true w r = choose (eqb (get_or r kind_at 0) 0) Fresh (Idle true (get_or r count_at 0) (number (part disp_at 2 r)))
view_slot false true r = Idle false (get_or r count_at 0) (number (part disp_at 2 r))
view_slot false false r =
    Live (record { count = get_or r count_at 0; disp = number (part disp_at 2 r); size = number (part size_at 3 r); align = get_or r kind_at 0 })

-- n slots, from the two masks and the records
unfoldable pub view_slots : ℕ → ℕ → ℕ → List ℕ → List Slot
view_slots zero ready waiting t = []
view_slots (suc n) ready waiting t =
    view_slot (eqb (ready % 2) 1) (eqb (waiting % 2) 1) (take slot_record_bytes t) ∷ view_slots n (ready / 2) (waiting / 2) (drop slot_record_bytes t)

-- the slots of a group of class c, from its first row's record on
unfoldable pub view_group : ℕ → List ℕ → List Slot
view_group c t = view_slots (slots_of c) (number (part ready_at 4 t)) (number (part waiting_at 4 t)) (drop slots_at t)

-- the requested sizes in n slot records: one that is not live holds 0
unfoldable pub sizes_in : ℕ → List ℕ → ℕ
sizes_in zero t = 0
sizes_in (suc n) t = number (part size_at 3 t) + sizes_in n (drop slot_record_bytes t)

-- who holds the row whose record stands first
unfoldable pub view_holder : List ℕ → Holder
view_holder t =
    choose (eqb (get_or t 0 0) 1) (First (get_or t 1 0)) (choose (eqb (get_or t 0 0) 2) (Later (get_or t 1 0)) Free)

-- a later row stands behind its group's first, or it is no row of a sound room
abbrev pub span_of : Pool → (ℕ → Pool) → Holder → Pool
span_of gap held Free = gap
span_of gap held (First c) = held c
span_of gap held (Later k) = gap

module _ (row : ℕ) where
  -- "An arena is 512 to 262,144 bytes, a multiple of 512, so at most 512 rows." A row is whole units.
  unfoldable pub arena_right : ℕ → Bool
  arena_right n = eqb (row % 16) 0 && leb row n && leb n (most_rows * row) && eqb (n % row) 0

-- How a group's first row keeps its slots: the row's record, and the slots that such a record says. Free and later rows are the same in
-- every layout.
pub record Layout : Type 0 where
  pub first_row : ℕ → List Slot → List ℕ
  pub slots_in : ℕ → List ℕ → List Slot

-- what is asked of a layout: the record has its length, tells its holder, and says its slots, whatever stands behind it
pub record LayoutLaws (L : Layout) : Type 0 where
  pub long : (c : ℕ) (ss : List Slot) → length ss ≤ most_slots → length (L.first_row c ss) ≡ row_record_bytes
  pub holder : (c : ℕ) (ss : List Slot) (rest : List ℕ) → view_holder (L.first_row c ss ++ rest) ≡ First c
  pub slots : (c : ℕ) (ss : List Slot) (rest : List ℕ) → T (span_sound (group c ss)) → L.slots_in c (L.first_row c ss ++ rest) ≡ ss

-- by masks
abbrev pub masks_layout : Layout
masks_layout = record { first_row = λ c ss. row_record (First c) ss; slots_in = view_group }

module _ (L : Layout) (row : ℕ) where
  unfoldable pub span_records_by : Span → List ℕ
  span_records_by free = row_record Free []
  span_records_by (group c ss) = L.first_row c ss ++ later_records (rows_of row c - 1) 1

  -- the one byte form: the arena's length, 12 zeros, then a record for each row
  unfoldable pub encode_by : Pool → List ℕ
  encode_by P = low 4 (row * rows row P) ++ (zeros 12 ++ join span_records_by P)

  -- the spans that n row records say; the rows that a group has after its first are passed over
  unfoldable pub view_rows_by : ℕ → ℕ → List ℕ → Pool
  view_rows_by zero skip t = []
  view_rows_by (suc n) (suc skip) t = view_rows_by n skip (drop row_record_bytes t)
  view_rows_by (suc n) zero t =
      let gap : Pool = free ∷ view_rows_by n zero (drop row_record_bytes t) in
      let held : ℕ → Pool = λ c. group c (L.slots_in c t) ∷ view_rows_by n (rows_of row c - 1) (drop row_record_bytes t) in
      span_of gap held (view_holder t)

  -- the state that a room says, whatever its bytes
  unfoldable pub view_by : List ℕ → Pool
  view_by t = view_rows_by ((length t - head_bytes) / row_record_bytes) zero (drop head_bytes t)

  -- "The tables are sound if: the arena length is the recorded one; .." and the bytes are the one form of what they say: the room
  -- t under an arena of n bytes
  unfoldable pub sound_by : ℕ → List ℕ → Bool
  sound_by n t = let P = view_by t in arena_right row n && eqb n (row * rows row P) && same t (encode_by P) && well_formed P && aligned row P

-- THE FIRST ENGINE'S TABLES

module _ (row : ℕ) where
  abbrev pub span_records : Span → List ℕ
  span_records s = span_records_by masks_layout row s

  abbrev pub encode : Pool → List ℕ
  encode P = encode_by masks_layout row P

  abbrev pub view : List ℕ → Pool
  view t = view_by masks_layout row t

  abbrev pub sound : ℕ → List ℕ → Bool
  sound n t = sound_by masks_layout row n t

  -- "The table room has one exact size per arena length"; 0 where the length is outside the rule
  unfoldable pub room_for : ℕ → ℕ
  room_for n = choose (arena_right row n) (room_bytes (n / row)) 0
