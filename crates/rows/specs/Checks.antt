-- What is tested of a room row by row, in any layout, each piece over the room's bytes from its place on.
use Rattle.std.specs.Prelude.{ℕ, ◌+◌, ◌-◌, ◌/◌, Bool, ◌&&◌, List, leb, ltb, eqb, length, drop, Option, Some, None}
use Rattle.mem.specs.Lists.{choose, join, starts}
use Rattle.mem.specs.Bytes.{zeros, number, same, part}
use Rattle.classes.specs.Classes.{rows_of}
use Rattle.model.specs.declared.Holder.{Holder}
use Rattle.model.specs.declared.Holder.TheVariants.{Free, First, Later}
use Rattle.model.specs.State.{group, span_sound, well_formed, slots_aligned, aligned_from}
use Rattle.model.specs.Tables.{Layout, head_bytes, row_record_bytes, row_at, later_records, span_records_by, view_holder, view_rows_by}
use Rattle.rows.specs.Rows.{arena_rows}
use Rattle.rows.specs.declared.Frame.{Frame}

-- the rows of a room whose head is right under an arena of n bytes; 0 of another
unfoldable pub room_rows : (row n : ℕ) → List ℕ → ℕ
room_rows row n t =
    let k = arena_rows row n in choose (eqb (length t) (row_at k) && eqb (number (part 0 4 t)) n && same (part 4 12 t) (zeros 12)) k 0

-- what begins here by its first row's holder, where n rows are left, whatever stands in a group's slots
abbrev pub frame_held : (row n : ℕ) → List ℕ → Holder → Option Frame
frame_held row n t Free = choose (starts t (zeros row_record_bytes)) (Some Frame.Free) None
frame_held row n t (First c) =
    let k = rows_of row c in choose (ltb c 48 && leb k n && starts (drop row_record_bytes t) (later_records (k - 1) 1)) (Some (Frame.Group c k)) None
frame_held row n t (Later k) = None

unfoldable pub frame_in : (row n : ℕ) → List ℕ → Option Frame
frame_in row n t = frame_held row n t (view_holder t)

-- Each piece over the arena's byte that its first row has first.
module _ (L : Layout) where
  -- the first row of a group of class c
  unfoldable pub group_checked : (at c : ℕ) → List ℕ → Bool
  group_checked at c t = let ss = L.slots_in c t in starts t (L.first_row c ss) && span_sound (group c ss) && slots_aligned c (at + 16) ss

  module _ (row : ℕ) where
    -- the rows of a group of class c, where n rows are left
    unfoldable pub held_checked : (at n c : ℕ) → List ℕ → Bool
    held_checked at n c t = leb (rows_of row c) n && group_checked at c t && starts (drop row_record_bytes t) (later_records (rows_of row c - 1) 1)

    -- the span that begins here, where n rows are left: a free row, or a group
    abbrev pub tile : (at n : ℕ) → List ℕ → Holder → Option ℕ
    tile at n t Free = choose (starts t (zeros row_record_bytes)) (Some 1) None
    tile at n t (First c) = choose (held_checked at n c t) (Some (rows_of row c)) None
    tile at n t (Later k) = None

    unfoldable pub span_checked : (at n : ℕ) → List ℕ → Option ℕ
    span_checked at n t = tile at n t (view_holder t)

    -- all rows that are left, n of them
    unfoldable pub rows_checked : (at n : ℕ) → List ℕ → Bool
    rows_checked at n t = let P = view_rows_by L row n 0 t in same t (join (span_records_by L row) P) && well_formed P && aligned_from row at P

    -- a room under an arena of n bytes, a length within the rule
    unfoldable pub room_checked : ℕ → List ℕ → Bool
    room_checked n t =
        eqb (length t) (row_at (n / row)) && eqb (number (part 0 4 t)) n && same (part 4 12 t) (zeros 12) && rows_checked 0 (n / row) (drop head_bytes t)
