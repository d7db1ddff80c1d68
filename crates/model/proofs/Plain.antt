-- The second engine's layout is lawful.
use Rattle.mem.proofs.Prelude.{◌≡◌, refl, ap₂, true, false, List, [], ◌∷◌, ◌++◌, append_assoc, ◌+◌, ℕ, ◌<◌, ◌≤◌, ◌*◌, ◌-◌}
use Rattle.mem.proofs.Prelude.{arith, T, leb→le, lt-leb, ne_eqb, length, length-append, drop_at}
use lib.Seq.{take_at}
use Rattle.mem.specs.Lists.{choose, every, join}
use Rattle.mem.specs.Bytes.{zeros}
use Rattle.mem.proofs.Tests.{and_left, and_right}
use Rattle.mem.proofs.Laws.{zeros-length, number-low, join-length}
use Rattle.classes.specs.Classes.{slot_bytes, slots_of}
use Rattle.model.specs.declared.Slot.{Slot}
use Rattle.model.specs.declared.Slot.TheVariants.{Fresh, Idle, Live}
use Rattle.model.specs.declared.Holder.TheVariants.{First}
use Rattle.model.specs.State.{group, count, disp, size, slot_sound, span_sound}
use Rattle.model.specs.Tables.{LayoutLaws, row_record_bytes, holder_bytes, view_holder}
use Rattle.model.specs.Calls.{FormLaws}
use Rattle.model.specs.Plain.{condition, plain_record, plain_row, plain_slot, plain_in, plain_slots, plain_group, slots_layout, plain_form}
use Rattle.model.proofs.Tables.{disp_fits, size_small, group-slots}
use Rattle.model.proofs.Kept.{layout_lawful}

pub plain_length : (x : Slot) → length (plain_record x) ≡ 8
unfolding plain_record
plain_length x = refl

pub plains_length : (ss : List Slot) → length (join plain_record ss) ≡ 8 * length ss
plains_length ss = join-length plain_record 8 plain_length ss

-- the 16 bytes before a group's slot records
pub plain_head : ℕ → List ℕ
plain_head c = holder_bytes (First c) ++ zeros 14

pub length-plain_head : (c : ℕ) → length (plain_head c) ≡ 16
unfolding plain_head
length-plain_head c = omega (arith, length-append (holder_bytes (First c)) (zeros 14), zeros-length 14)

pub plain_parts : (c : ℕ) (ss : List Slot) (rest : List ℕ)
    → plain_row c ss ++ rest ≡ plain_head c ++ (join plain_record ss ++ (zeros (8 * (31 - length ss)) ++ rest))
unfolding plain_row plain_head
plain_parts c ss rest = simp append_assoc

row_long : (c : ℕ) (ss : List Slot) → length ss ≤ 31 → length (plain_row c ss) ≡ row_record_bytes
unfolding plain_row
row_long c ss l =
    omega (
      arith,
      length-append (zeros 14) (join plain_record ss ++ zeros (8 * (31 - length ss))),
      zeros-length 14,
      length-append (join plain_record ss) (zeros (8 * (31 - length ss))),
      plains_length ss,
      zeros-length (8 * (31 - length ss)),
    )

-- ---- a record says the slot that it was made from

disp_small_lem : (c : ℕ) (x : Slot) → T (slot_sound c x) → 16 * disp x ≤ slot_bytes c - 4
unfolding slot_sound
disp_small_lem c Fresh t = omega arith
disp_small_lem c (Idle r k d) t = leb→le (16 * d) (slot_bytes c - 4) (search (and_left, and_right))
disp_small_lem c (Live a) t = omega (arith, leb→le (16 * a.disp + a.size) (slot_bytes c - 4) (search (and_left, and_right)))

slot_says : (c : ℕ) (x : Slot) → T (slot_sound c x) → plain_slot (condition x) (count x) (disp x) (size x) ≡ x
unfolding plain_slot slot_sound choose
slot_says c Fresh t = refl
slot_says c (Idle true k d) t = refl
slot_says c (Idle false k d) t = refl
slot_says c (Live a) t =
    let h : 1 ≤ a.align = leb→le 1 a.align (search (and_left, and_right)) in
    let e : a.align + 2 - 2 ≡ a.align = omega arith in
    rw (ne_eqb (a.align + 2) 0 (λ z. omega arith), lt-leb (a.align + 2) 2 (omega arith), e)

pub record_says : (c : ℕ) (x : Slot) → T (slot_sound c x) → plain_in (plain_record x) ≡ x
unfolding plain_in plain_record
record_says c x t =
    rw (number-low 2 (disp x) (disp_fits c (disp x) (disp_small_lem c x t)), number-low 3 (size x) (omega (arith, size_small c x t))) (slot_says c x t)

slots_say : (c : ℕ) (ss : List Slot) (rest : List ℕ) → T (every (slot_sound c) ss) → plain_slots (length ss) (join plain_record ss ++ rest) ≡ ss
unfolding plain_slots
slots_say c [] rest t = refl
slots_say c (x ∷ ss) rest t =
    rw (
      append_assoc (plain_record x) (join plain_record ss) rest,
      take_at (plain_record x) (join plain_record ss ++ rest) 8 (plain_length x),
      drop_at (plain_record x) (join plain_record ss ++ rest) 8 (plain_length x),
    )
    (ap₂ {C = List Slot} (λ y ys. y ∷ ys) (record_says c x (and_left (slot_sound c x) (every (slot_sound c) ss) t))
    (slots_say c ss rest (and_right (slot_sound c x) (every (slot_sound c) ss) t)))

-- also where no slot is live
pub group-read : (c : ℕ) (ss : List Slot) (rest : List ℕ) → length ss ≡ slots_of c → T (every (slot_sound c) ss) → plain_group c (plain_row c ss ++ rest) ≡ ss
unfolding plain_group
group-read c ss rest e t =
    rw (← e, plain_parts c ss rest, drop_at (plain_head c) (join plain_record ss ++ (zeros (8 * (31 - length ss)) ++ rest)) 16 (length-plain_head c))
    (slots_say c ss _ t)

group_says : (c : ℕ) (ss : List Slot) (rest : List ℕ) → T (span_sound (group c ss)) → plain_group c (plain_row c ss ++ rest) ≡ ss
unfolding span_sound
group_says c ss rest t = group-read c ss rest (group-slots c ss t) (search (and_left, and_right))

pub slots_laws : LayoutLaws slots_layout
unfolding plain_row view_holder choose
slots_laws = record { long = row_long; holder = λ c ss rest. refl; slots = group_says }

pub plain_lawful : (row : ℕ) → 0 < row → FormLaws row (plain_form row)
plain_lawful row pos = layout_lawful slots_layout slots_laws row pos
