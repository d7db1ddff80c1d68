-- Sound tables, in any layout: where their rows stand, and what the first row of a span says.
use Rattle.mem.proofs.Prelude.{◌∙◌, ◌≡◌, ap, refl, subst, true, List, ◌∷◌, ◌++◌, append_assoc, ◌+◌, ℕ, ◌<◌, ◌≤◌, ◌*◌, ◌-◌, ◌/◌, mul_comm}
use Rattle.mem.proofs.Prelude.{mul-div_cancel_left, arith, T, leb→le, ltb→lt, length, drop}
use native.Mathlib.Nat.{le_of_mul-le-mul_left}
use Rattle.mem.specs.Lists.{join}
use Rattle.mem.proofs.Tests.{and_left, and_right, true-T, every-left, every-right}
use Rattle.classes.specs.Classes.{Lawful, rows_of}
use Rattle.classes.proofs.Laws.{rows_pos}
use Rattle.model.specs.declared.Slot.{Slot}
use Rattle.model.specs.declared.Holder.{Holder}
use Rattle.model.specs.declared.Holder.TheVariants.{Free, First}
use Rattle.model.specs.State.{Span, Pool, free, group, span_sound, well_formed, rows, rows_in}
use Rattle.model.specs.Tables.{Layout, LayoutLaws, masks_layout, sound, row_at, room_bytes, later_records, view_holder, arena_right, span_records_by, row_record_bytes}
use Rattle.model.specs.Tables.{encode_by, view_by, sound_by}
use Rattle.model.proofs.Tables.{masks_laws, encode-length, holder_free, Sound, sound_facts}
use Rattle.model.proofs.Rooms.{rows_append, encode_from}
use Rattle.rows.specs.Rows.{Lent, rows_held, class_held}

-- ---- a span's records

-- who holds the first row of a span
abbrev pub holder_of : Span → Holder
holder_of free = Free
holder_of (group c ss) = First c

pub held_class : (s : Span) → T (span_sound s) → class_held (holder_of s) < 48
unfolding span_sound
held_class free t = omega arith
held_class (group c ss) t = ltb→lt c 48 (search (and_left, and_right))

pub held_rows : (row : ℕ) (s : Span) → rows_held row (holder_of s) ≡ rows_in row s
held_rows row free = refl
held_rows row (group c ss) = refl

pub some-rows : (row : ℕ) → 0 < row → (s : Span) → 1 ≤ rows_in row s
some-rows row pos free = omega arith
some-rows row pos (group c ss) = rows_pos row c pos

-- the records from a group on, its first row's first
pub group-first : (L : Layout) (row c : ℕ) (ss : List Slot) (Y : Pool)
    → join (span_records_by L row) (group c ss ∷ Y) ≡ L.first_row c ss ++ (later_records (rows_of row c - 1) 1 ++ join (span_records_by L row) Y)
unfolding span_records_by
group-first L row c ss Y = append_assoc (L.first_row c ss) (later_records (rows_of row c - 1) 1) (join (span_records_by L row) Y)

pub records_holder : {L : Layout} (law : LayoutLaws L) (row : ℕ) (Y : Pool) (s : Span) → view_holder (join (span_records_by L row) (s ∷ Y)) ≡ holder_of s
unfolding span_records_by
records_holder {L} law row Y free = holder_free (join (span_records_by L row) Y)
records_holder {L} law row Y (group c ss) = ap view_holder (group-first L row c ss Y) ∙ law.holder c ss _

-- ---- sound tables

-- as the code knows them
pub lent_by : {L : Layout} → LayoutLaws L → {row n : ℕ} {t : List ℕ} → sound_by L row n t ≡ true → Lawful row → Lent L row n t
lent_by law e h = record { laws = law; pos = omega arith; sound = e }

-- those by masks
pub by_masks : {row n : ℕ} {t : List ℕ} → sound row n t ≡ true → Lawful row → Lent masks_layout row n t
by_masks = lent_by masks_laws

module _ {L : Layout} {row n : ℕ} {t : List ℕ} (r : Lent L row n t) where
  pub facts : Sound L row n t
  facts = sound_facts L row n t (true-T (sound_by L row n t) r.sound)

  pub row_count : n / row ≡ rows row (view_by L row t)
  row_count = ap (λ m. m / row) facts.long ∙ mul-div_cancel_left (rows row (view_by L row t)) r.pos

  pub row_below : (i : ℕ) → i < n / row → i < rows row (view_by L row t)
  row_below i h = subst (λ m. i < m) row_count h

  pub row_past : (i : ℕ) → n / row ≤ i → rows row (view_by L row t) ≤ i
  row_past i h = subst (λ m. m ≤ i) row_count h

  pub few_rows : rows row (view_by L row t) ≤ 512
  unfolding arena_right
  few_rows =
      let a : T (arena_right row n) = facts.lawful in
      let l : n ≤ 512 * row = leb→le n (512 * row) (search (and_left, and_right)) in
      le_of_mul-le-mul_left {k = row} (omega (arith, facts.long, mul_comm 512 row)) r.pos

  pub room_length : length t ≡ row_at (rows row (view_by L row t))
  unfolding room_bytes
  room_length = ap length facts.form ∙ encode-length r.laws row r.pos (view_by L row t) facts.formed

  -- a row's record stands in the room
  pub row_inside : (i : ℕ) → i < rows row (view_by L row t) → (i < 512) × (row_at i + row_record_bytes ≤ length t)
  row_inside i h = (omega (arith, few_rows), omega (arith, room_length))

  module _ (X : Pool) (s : Span) (Y : Pool) (split : view_by L row t ≡ X ++ (s ∷ Y)) where
    whole : T (well_formed (X ++ (s ∷ Y)))
    whole = subst (λ P. T (well_formed P)) split facts.formed

    pub before-sound : T (well_formed X)
    before-sound = every-left span_sound X (s ∷ Y) whole

    pub span_sound_lem : T (span_sound s)
    span_sound_lem = and_left (span_sound s) (well_formed Y) (every-right span_sound X (s ∷ Y) whole)

    pub span_rows : rows row X + rows_in row s ≤ rows row (view_by L row t)
    span_rows = omega (arith, ap (rows row) split, rows_append row X (s ∷ Y))

    -- the room from the span's first row on
    pub span_from : drop (row_at (rows row X)) t ≡ join (span_records_by L row) (s ∷ Y)
    span_from = ap (drop (row_at (rows row X))) (facts.form ∙ ap (encode_by L row) split) ∙ encode_from r.laws row r.pos X (s ∷ Y) before-sound

    pub span_holder : view_holder (drop (row_at (rows row X)) t) ≡ holder_of s
    span_holder = ap view_holder span_from ∙ records_holder r.laws row Y s
