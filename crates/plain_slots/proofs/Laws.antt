-- What the reads and writes of plain records are to the pool's state.
use Rattle.mem.proofs.Prelude.{◌∙◌, ◌≡◌, sym, ap, List, ◌∷◌, ◌++◌, append_assoc, ◌+◌, ℕ, ◌<◌, ◌*◌, ◌-◌, arith, T, length, get_or, length-append}
use Rattle.mem.specs.Lists.{every, join}
use Rattle.mem.specs.Bytes.{zeros}
use Rattle.mem.proofs.Tests.{every_in}
use Rattle.mem.proofs.Laws.{join-append, join-part, put_at, part-back}
use Rattle.model.specs.declared.Slot.{Slot}
use Rattle.model.specs.declared.Slot.TheVariants.{Fresh}
use Rattle.model.specs.State.{Pool, group, slot_sound, well_formed, rows}
use Rattle.model.specs.Tables.{row_at, encode_by}
use Rattle.model.specs.Plain.{plain_record, plain_row, slots_layout}
use Rattle.model.proofs.Plain.{plain_length, plains_length, plain_head, length-plain_head, plain_parts, record_says, slots_laws}
use Rattle.rows.proofs.Spans.{group_front, group_back, encode_round, group_front_lem}
use Rattle.plain_slots.specs.Slots.{slot_in, stored}

-- slot j of a group is read
pub slot_read : (c : ℕ) (ss : List Slot) (rest : List ℕ) (j : ℕ) → j < length ss → T (every (slot_sound c) ss)
    → slot_in j (plain_row c ss ++ rest) ≡ get_or ss j Fresh
unfolding slot_in
slot_read c ss rest j l t =
    let R : List ℕ = zeros (8 * (31 - length ss)) ++ rest in
    let e : 16 + 8 * j ≡ length (plain_head c) + 8 * j = omega (arith, length-plain_head c) in
    rw (
      plain_parts c ss rest,
      e,
      part-back (8 * j) 8 (plain_head c) (join plain_record ss ++ R),
      join-part plain_record 8 plain_length ss R j Fresh l,
    )
    (record_says c (get_or ss j Fresh) (every_in (slot_sound c) ss Fresh t j l))

-- one slot of a group becomes x
module _ (row : ℕ) (pos : 0 < row) (X : Pool) (c : ℕ) (us vs : List Slot) (Y : Pool) where
  -- what stands before the slot's record, and behind it
  front : List ℕ
  front = group_front slots_layout row c X Y ++ (plain_head c ++ join plain_record us)

  back : ℕ → List ℕ
  back m = join plain_record vs ++ (zeros (8 * (31 - m)) ++ group_back slots_layout row c X Y)

  round : (x : Slot) → encode_by slots_layout row (X ++ (group c (us ++ (x ∷ vs)) ∷ Y)) ≡ front ++ (plain_record x ++ back (length (us ++ (x ∷ vs))))
  unfolding front back
  round x =
      encode_round slots_layout row c X Y (us ++ (x ∷ vs))
      ∙ ap (λ t. group_front slots_layout row c X Y ++ t) (plain_parts c (us ++ (x ∷ vs)) (group_back slots_layout row c X Y))
      ∙ rw (join-append plain_record us (x ∷ vs)) (simp append_assoc)

  front_long : T (well_formed X) → length front ≡ row_at (rows row X) + (16 + 8 * length us)
  unfolding front
  front_long w =
      omega (
        arith,
        length-append (group_front slots_layout row c X Y) (plain_head c ++ join plain_record us),
        group_front_lem slots_laws row pos c X Y w,
        length-append (plain_head c) (join plain_record us),
        length-plain_head c,
        plains_length us,
      )

  pub stored-encode : (x y : Slot) → T (well_formed X)
      → stored (row_at (rows row X)) (length us) x (encode_by slots_layout row (X ++ (group c (us ++ (y ∷ vs)) ∷ Y)))
      ≡ encode_by slots_layout row (X ++ (group c (us ++ (x ∷ vs)) ∷ Y))
  unfolding stored
  stored-encode x y w =
      let l : length (us ++ (y ∷ vs)) ≡ length (us ++ (x ∷ vs)) = length-append us (y ∷ vs) ∙ sym (length-append us (x ∷ vs)) in
      rw (round y, round x, ← l)
      (put_at (row_at (rows row X) + (16 + 8 * length us)) front (plain_record y) (plain_record x) (back (length (us ++ (y ∷ vs)))) (front_long w)
      (plain_length x ∙ sym (plain_length y)))
