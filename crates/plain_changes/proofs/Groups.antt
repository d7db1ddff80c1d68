-- A group of plain tables: what is read of its slots, and what it is after one was written, or all were turned.
use Rattle.mem.proofs.Prelude.{◌∙◌, ◌≡◌, sym, ap, refl, ap₂, true, List, [], ◌∷◌, ◌++◌, append_assoc, map, ◌+◌, ℕ, ◌<◌, ◌≤◌, ◌*◌, ◌-◌, suc, arith, T, length}
use Rattle.mem.proofs.Prelude.{drop, length-append}
use lib.Seq.{get_or_at}
use Rattle.mem.specs.Lists.{choose, every, join}
use Rattle.mem.proofs.Laws.{put-length}
use Rattle.mem.proofs.Tests.{and_left, and_right, and_both, every_append, every-left, every-right}
use Rattle.classes.specs.Classes.{slots_of, rows_of}
use Rattle.model.specs.declared.Slot.{Slot}
use Rattle.model.specs.declared.Slot.TheVariants.{Fresh, Idle, Live}
use Rattle.model.specs.State.{Pool, group, slot_sound, well_formed, rows}
use Rattle.model.specs.Tables.{row_at, later_records, span_records_by, encode_by}
use Rattle.model.specs.Plain.{condition, plain_record, plain_row, plain_group, slots_layout}
use Rattle.model.specs.Plans.{turn_ready}
use Rattle.model.proofs.Plain.{slots_laws, group-read}
use Rattle.model.proofs.Rooms.{encode_from}
use Rattle.model.proofs.Reserve.{turn_sound}
use Rattle.rows.proofs.Rooms.{group-first}
use Rattle.plain_slots.specs.Slots.{slot_in, stored}
use Rattle.plain_slots.proofs.Laws.{slot_read, stored-encode}
use Rattle.plain_changes.specs.Changes.{turned}

-- a slot that is turned still fits its record, and a write keeps the room's length
pub turn_small : (x : Slot) → condition x < 256 → condition (turn_ready x) < 256
unfolding choose
turn_small Fresh h = h
turn_small (Idle r k d) h = omega arith
turn_small (Live a) h = h

pub stored-length : (at j : ℕ) (x : Slot) (s : List ℕ) → length (stored at j x s) ≡ length s
unfolding stored
stored-length at j x s = put-length (at + (16 + 8 * j)) (plain_record x) s

-- one turn of the refill's walk, and its end
pub turned_turn : (i n j : ℕ) (s : List ℕ) → j < n
    → turned i (n - j) j s ≡ turned i (n - (j + 1)) (j + 1) (stored (row_at i) j (turn_ready (slot_in j (drop (row_at i) s))) s)
unfolding turned
turned_turn i n j s h = let e : n - j ≡ suc (n - (j + 1)) = omega arith in ap (λ k. turned i k j s) e

pub turned-end : (i n j : ℕ) (s : List ℕ) → n ≤ j → turned i (n - j) j s ≡ s
unfolding turned
turned-end i n j s h = let e : n - j ≡ 0 = omega arith in ap (λ k. turned i k j s) e

module _ (row : ℕ) (pos : 0 < row) (X : Pool) (c : ℕ) (Y : Pool) (w : T (well_formed X)) where
  -- the room in which the group has these slots
  abbrev pub room_of : List Slot → List ℕ
  room_of ss = encode_by slots_layout row (X ++ (group c ss ∷ Y))

  from : (ss : List Slot) → drop (row_at (rows row X)) (room_of ss) ≡ plain_row c ss ++ (later_records (rows_of row c - 1) 1 ++ join (span_records_by slots_layout row) Y)
  from ss = encode_from slots_laws row pos X (group c ss ∷ Y) w ∙ group-first slots_layout row c ss Y

  pub read-group : (ss : List Slot) → length ss ≡ slots_of c → T (every (slot_sound c) ss) → plain_group c (drop (row_at (rows row X)) (room_of ss)) ≡ ss
  read-group ss l t = ap (plain_group c) (from ss) ∙ group-read c ss _ l t

  pub read_slot : (us : List Slot) (x : Slot) (vs : List Slot) → T (every (slot_sound c) (us ++ (x ∷ vs)))
      → slot_in (length us) (drop (row_at (rows row X)) (room_of (us ++ (x ∷ vs)))) ≡ x
  read_slot us x vs t =
      ap (slot_in (length us)) (from (us ++ (x ∷ vs)))
      ∙ slot_read c (us ++ (x ∷ vs)) _ (length us) (omega (arith, length-append us (x ∷ vs))) t ∙ get_or_at us x vs Fresh (length us) refl

  pub write_slot : (us : List Slot) (x y : Slot) (vs : List Slot) → stored (row_at (rows row X)) (length us) x (room_of (us ++ (y ∷ vs))) ≡ room_of (us ++
      (x ∷ vs))
  write_slot us x y vs = stored-encode row pos X c us vs Y x y w

  -- the whole refill
  pub turned-group : (us vs : List Slot) → T (every (slot_sound c) (us ++ vs))
      → turned (rows row X) (length vs) (length us) (room_of (us ++ vs)) ≡ room_of (us ++ map turn_ready vs)
  unfolding turned
  turned-group us [] t = refl
  turned-group us (x ∷ vs) t =
      let y : Slot = turn_ready x in
      let us' : List Slot = us ++ (y ∷ []) in
      let n : length us + 1 ≡ length us' = omega (arith, length-append us (y ∷ [])) in
      let one : stored (row_at (rows row X)) (length us) (turn_ready (slot_in (length us) (drop (row_at (rows row X)) (room_of (us ++ (x ∷ vs))))))
      (room_of (us ++ (x ∷ vs))) ≡ room_of (us' ++ vs) =
      ap (λ z. stored (row_at (rows row X)) (length us) (turn_ready z) (room_of (us ++ (x ∷ vs)))) (read_slot us x vs t)
      ∙ write_slot us y x vs ∙ ap room_of (sym (append_assoc us (y ∷ []) vs)) in
      ap₂ (turned (rows row X) (length vs)) n one
      ∙ turned-group us' vs (sound x vs t)
      ∙ ap room_of (append_assoc us (y ∷ []) (map turn_ready vs))
    where
      sound : (x : Slot) (vs : List Slot) → T (every (slot_sound c) (us ++ (x ∷ vs))) → T (every (slot_sound c) (us ++ (turn_ready x ∷ []) ++ vs))
      sound x vs t =
          let l : T (every (slot_sound c) us) = every-left (slot_sound c) us (x ∷ vs) t in
          let r : T (every (slot_sound c) (x ∷ vs)) = every-right (slot_sound c) us (x ∷ vs) t in
          let a : T (slot_sound c x) = and_left (slot_sound c x) (every (slot_sound c) vs) r in
          let b : T (every (slot_sound c) (turn_ready x ∷ [])) = turn_sound c (x ∷ []) (and_both (slot_sound c x) true a tt) in
          every_append (slot_sound c) (us ++ (turn_ready x ∷ [])) vs (every_append (slot_sound c) us (turn_ready x ∷ []) l b)
          (and_right (slot_sound c x) (every (slot_sound c) vs) r)
