-- Whole spans written into a room, in any layout: a group made in free rows, and its rows made free; and the room round a group's slots.
use Rattle.mem.proofs.Prelude.{◌∙◌, ◌≡◌, sym, ap, refl, ap₂, List, [], ◌∷◌, ◌++◌, append-nil, ◌+◌, ℕ, ◌<◌, ◌≤◌, ◌*◌, ◌-◌, suc, zero, arith, T, length}
use Rattle.mem.proofs.Prelude.{replicate}
use Rattle.mem.specs.Lists.{join}
use Rattle.mem.specs.Bytes.{zeros, put}
use Rattle.mem.proofs.Laws.{zeros-length, zeros-none, zeros-add, join-append, put_at}
use Rattle.classes.specs.Classes.{rows_of}
use Rattle.model.specs.declared.Slot.{Slot}
use Rattle.model.specs.State.{Pool, free, group, well_formed, rows}
use Rattle.model.specs.Tables.{Layout, LayoutLaws, row_at, row_record, later_records, span_records_by, encode_by, row_record_bytes}
use Rattle.model.proofs.Tables.{group-length}
use Rattle.model.proofs.Rooms.{rows_append, room_front, encode_split, front_length}
use Rattle.model.proofs.Fresh.{fresh-rows}
use Rattle.rows.proofs.Rooms.{group-first}

module _ (L : Layout) (row : ℕ) where
  free-record : span_records_by L row free ≡ zeros row_record_bytes
  unfolding span_records_by row_record zeros
  free-record = refl

  pub free_records : (n : ℕ) → join (span_records_by L row) (replicate n free) ≡ zeros (row_record_bytes * n)
  free_records zero = sym zeros-none
  free_records (suc n) =
      let e : row_record_bytes + row_record_bytes * n ≡ row_record_bytes * suc n = omega arith in
      ap₂ (λ s t. s ++ t) free-record (free_records n) ∙ sym (zeros-add row_record_bytes (row_record_bytes * n)) ∙ ap zeros e

-- the room round a group's first row, which is the same whatever its slots
module _ (L : Layout) (row c : ℕ) (X Y : Pool) where
  pub group_front : List ℕ
  group_front = room_front L row (rows row X + (rows_of row c + rows row Y)) X

  pub group_back : List ℕ
  group_back = later_records (rows_of row c - 1) 1 ++ join (span_records_by L row) Y

  pub encode_round : (ss : List Slot) → encode_by L row (X ++ (group c ss ∷ Y)) ≡ group_front ++ (L.first_row c ss ++ group_back)
  unfolding group_front group_back
  encode_round ss =
      encode_split L row X (group c ss ∷ Y) ∙ ap₂ (λ n t. room_front L row n X ++ t) (rows_append row X (group c ss ∷ Y)) (group-first L row c ss Y)

pub group_front_lem : {L : Layout} → LayoutLaws L → (row : ℕ) → 0 < row → (c : ℕ) (X Y : Pool) → T (well_formed X)
    → length (group_front L row c X Y) ≡ row_at (rows row X)
unfolding group_front
group_front_lem law row pos c X Y w = front_length law row pos (rows row X + (rows_of row c + rows row Y)) X w

module _ {L : Layout} (law : LayoutLaws L) (row : ℕ) (pos : 0 < row) where
  -- spans are written over others with as many rows
  spans_put : (X A B Y : Pool) → T (well_formed X) → rows row A ≡ rows row B → length (join (span_records_by L row) B) ≡ length (join (span_records_by L row) A)
      → put (row_at (rows row X)) (join (span_records_by L row) B) (encode_by L row (X ++ (A ++ Y))) ≡ encode_by L row (X ++ (B ++ Y))
  spans_put X A B Y w n l =
      let e : rows row (X ++ (A ++ Y)) ≡ rows row (X ++ (B ++ Y)) =
      omega (arith, n, rows_append row X (A ++ Y), rows_append row X (B ++ Y), rows_append row A Y, rows_append row B Y) in
      rw (encode_split L row X (A ++ Y), encode_split L row X (B ++ Y), join-append (span_records_by L row) A Y, join-append (span_records_by L row) B Y, e)
      (put_at (row_at (rows row X)) (room_front L row (rows row (X ++ (B ++ Y))) X) (join (span_records_by L row) A) (join (span_records_by L row) B)
      (join (span_records_by L row) Y)
      (front_length law row pos (rows row (X ++ (B ++ Y))) X w) l)

  module _ (X : Pool) (c : ℕ) (ss : List Slot) (Y : Pool) (w : T (well_formed X)) (h : length ss ≤ 31) where
    same_rows : rows row (replicate (rows_of row c) free) ≡ rows row (group c ss ∷ [])
    same_rows = omega (arith, fresh-rows row (rows_of row c))

    same_bytes : length (join (span_records_by L row) (replicate (rows_of row c) free)) ≡ length (join (span_records_by L row) (group c ss ∷ []))
    same_bytes =
        omega (
          arith,
          ap length (free_records L row (rows_of row c)),
          zeros-length (row_record_bytes * rows_of row c),
          ap length (append-nil (span_records_by L row (group c ss))),
          group-length law row pos c ss h,
        )

    -- a group is made in free rows
    pub made-encode : put (row_at (rows row X)) (span_records_by L row (group c ss)) (encode_by L row (X ++ (replicate (rows_of row c) free ++ Y)))
        ≡ encode_by L row (X ++ (group c ss ∷ Y))
    made-encode =
        ap (λ t. put (row_at (rows row X)) t (encode_by L row (X ++ (replicate (rows_of row c) free ++ Y)))) (sym (append-nil (span_records_by L row (group c ss))))
        ∙ spans_put X (replicate (rows_of row c) free) (group c ss ∷ []) Y w same_rows (sym same_bytes)

    -- its rows become free
    pub dropped-encode : put (row_at (rows row X)) (zeros (row_record_bytes * rows_of row c)) (encode_by L row (X ++ (group c ss ∷ Y)))
        ≡ encode_by L row (X ++ (replicate (rows_of row c) free ++ Y))
    dropped-encode =
        ap (λ t. put (row_at (rows row X)) t (encode_by L row (X ++ (group c ss ∷ Y)))) (sym (free_records L row (rows_of row c)))
        ∙ spans_put X (group c ss ∷ []) (replicate (rows_of row c) free) Y w (sym same_rows) same_bytes
