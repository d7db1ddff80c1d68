-- Who holds a row of a room, in any layout: row k behind what stands before a span.
use Rattle.mem.proofs.Prelude.{◌∙◌, ◌≡◌, sym, ap, List, [], ◌∷◌, ◌++◌, append_assoc, ◌+◌, ℕ, ◌<◌, ◌≤◌, ◌*◌, ◌-◌, suc, zero, add-zero, arith, T, lit≤}
use Rattle.mem.proofs.Prelude.{length, drop, drop-drop}
use lib.Seq.{drop-append-add}
use Rattle.mem.specs.Lists.{join}
use Rattle.classes.specs.Classes.{rows_of}
use Rattle.model.specs.declared.Slot.{Slot}
use Rattle.model.specs.declared.Holder.TheVariants.{Free, First, Later}
use Rattle.model.specs.State.{Pool, free, group, well_formed, rows}
use Rattle.model.specs.Tables.{Layout, LayoutLaws, row_at, row_record, later_records, view_holder, span_records_by, encode_by, row_record_bytes}
use Rattle.model.proofs.Tables.{row_length, holder_free, holder_later}
use Rattle.model.proofs.Rooms.{encode_from}
use Rattle.rows.proofs.Rooms.{group-first}

later_read : (m j k : ℕ) (rest : List ℕ) → k < m → view_holder (drop (row_record_bytes * k) (later_records m j ++ rest)) ≡ Later (j + k)
unfolding later_records
later_read zero j k rest h = absurd (omega arith)
later_read (suc m) j zero rest h = rw (append_assoc (row_record (Later j) [])) (holder_later j (later_records m (suc j) ++ rest) ∙ ap Later (sym (add-zero j)))
later_read (suc m) j (suc k) rest h =
    let l : length (row_record (Later j) []) ≡ row_record_bytes = row_length (Later j) [] (lit≤ tt) in
    let e : row_record_bytes * suc k ≡ length (row_record (Later j) []) + row_record_bytes * k = omega arith in
    let f : suc j + k ≡ j + suc k = omega arith in
    rw (append_assoc (row_record (Later j) []), e, drop-append-add (row_record (Later j) []) (later_records m (suc j) ++ rest) (row_record_bytes * k))
    (later_read m (suc j) k rest (omega arith) ∙ ap Later f)

module _ {L : Layout} (law : LayoutLaws L) (row : ℕ) (pos : 0 < row) (X Y : Pool) (w : T (well_formed X)) where
  -- the room from row k behind X on
  row_from : (P : Pool) (k : ℕ) → drop (row_at (rows row X + k)) (encode_by L row (X ++ P)) ≡ drop (row_record_bytes * k) (join (span_records_by L row) P)
  row_from P k =
      let e : row_at (rows row X + k) ≡ row_at (rows row X) + row_record_bytes * k = omega arith in
      rw (e, ← drop-drop (row_record_bytes * k) (row_at (rows row X)) (encode_by L row (X ++ P)), encode_from law row pos X P w)

  pub holder_read-free : (k : ℕ) → k < 1 → view_holder (drop (row_at (rows row X + k)) (encode_by L row (X ++ (free ∷ Y)))) ≡ Free
  unfolding span_records_by
  holder_read-free k h =
      let e : row_record_bytes * k ≡ 0 = omega arith in
      ap view_holder (row_from (free ∷ Y) k) ∙ rw e (holder_free (join (span_records_by L row) Y))

  pub holder_read-first : (c : ℕ) (ss : List Slot) (k : ℕ) → k ≡ 0 → view_holder (drop (row_at (rows row X + k)) (encode_by L row (X ++ (group c ss ∷ Y))))
      ≡ First c
  holder_read-first c ss k h =
      let e : row_record_bytes * k ≡ 0 = omega arith in
      ap view_holder (row_from (group c ss ∷ Y) k) ∙ rw (e, group-first L row c ss Y)
      (law.holder c ss (later_records (rows_of row c - 1) 1 ++ join (span_records_by L row) Y))

  pub holder_read_later : (c : ℕ) (ss : List Slot) (k : ℕ) → length ss ≤ 31 → 0 < k → k < rows_of row c
      → view_holder (drop (row_at (rows row X + k)) (encode_by L row (X ++ (group c ss ∷ Y)))) ≡ Later k
  holder_read_later c ss k l h b =
      let e : row_record_bytes * k ≡ length (L.first_row c ss) + row_record_bytes * (k - 1) = omega (arith, law.long c ss l) in
      let f : 1 + (k - 1) ≡ k = omega arith in
      let R : List ℕ = later_records (rows_of row c - 1) 1 ++ join (span_records_by L row) Y in
      ap view_holder (row_from (group c ss ∷ Y) k)
      ∙ rw (e, group-first L row c ss Y, drop-append-add (L.first_row c ss) R (row_record_bytes * (k - 1)))
      (later_read (rows_of row c - 1) 1 (k - 1) (join (span_records_by L row) Y) (omega arith) ∙ ap Later f)
