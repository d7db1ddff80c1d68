-- Where the records of a pool's spans stand in its room.
use Rattle.mem.proofs.Prelude.{◌∙◌, ◌≡◌, sym, ap, List, [], ◌∷◌, ◌++◌, append_assoc, ◌+◌, ℕ, ◌<◌, ◌*◌, zero-add, add_assoc, arith, T, length, drop}
use Rattle.mem.proofs.Prelude.{length-append, drop_at}
use Rattle.mem.specs.Lists.{join}
use Rattle.mem.specs.Bytes.{zeros, low}
use Rattle.mem.proofs.Laws.{zeros-length, join-append}
use Rattle.model.specs.State.{Pool, well_formed, rows, rows_in}
use Rattle.model.specs.Tables.{Layout, LayoutLaws, span_records_by, encode_by, row_at}
use Rattle.model.proofs.Tables.{spans_length}

module _ (row : ℕ) where
  pub rows_append : (X Y : Pool) → rows row (X ++ Y) ≡ rows row X + rows row Y
  rows_append [] Y = sym (zero-add (rows row Y))
  rows_append (s ∷ X) Y = ap (λ n. rows_in row s + n) (rows_append X Y) ∙ sym (add_assoc (rows_in row s) (rows row X) (rows row Y))

module _ (L : Layout) (row : ℕ) where
  -- the room before the records of what follows X, in a pool of n rows
  unfoldable pub room_front : ℕ → Pool → List ℕ
  room_front n X = low 4 (row * n) ++ (zeros 12 ++ join (span_records_by L row) X)

  pub encode_split : (X Y : Pool) → encode_by L row (X ++ Y) ≡ room_front (rows row (X ++ Y)) X ++ join (span_records_by L row) Y
  unfolding encode_by room_front
  encode_split X Y = rw (join-append (span_records_by L row) X Y) (simp append_assoc)

module _ {L : Layout} (law : LayoutLaws L) (row : ℕ) (pos : 0 < row) where
  pub front_length : (n : ℕ) (X : Pool) → T (well_formed X) → length (room_front L row n X) ≡ row_at (rows row X)
  unfolding room_front
  front_length n X t = omega (arith, length-append (zeros 12) (join (span_records_by L row) X), zeros-length 12, spans_length law row pos X t)

  -- the records from the span behind X on
  pub encode_from : (X Y : Pool) → T (well_formed X) → drop (row_at (rows row X)) (encode_by L row (X ++ Y)) ≡ join (span_records_by L row) Y
  encode_from X Y t =
      ap (drop (row_at (rows row X))) (encode_split L row X Y)
      ∙ drop_at (room_front L row (rows row (X ++ Y)) X) (join (span_records_by L row) Y) (row_at (rows row X)) (front_length (rows row (X ++ Y)) X t)
