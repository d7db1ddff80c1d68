-- Laws of the walk over a group's plain records: each is the tests that the code makes, and what it counts.
use Rattle.mem.proofs.Prelude.{◌∙◌, ◌≡◌, sym, ap, refl, ap₂, true, Bool, false, ◌&&◌, not, and-false, and-true, List, [], ◌++◌, ◌+◌, ℕ, ◌<◌, ◌≤◌, Option, Some, None}
use Rattle.mem.proofs.Prelude.{◌*◌, ◌-◌, suc, zero, add-zero, zero-add, add_assoc, sub-zero, arith, eq-eqb, lt-ltb, eqb, length, drop, get_or, take}
use Rattle.mem.proofs.Prelude.{drop-drop, get_or-drop}
use Rattle.mem.specs.Lists.{choose, every, any, join, starts}
use Rattle.mem.specs.Bytes.{zeros, same, part, bit}
use Rattle.mem.proofs.Laws.{zeros-length}
use Rattle.mem.proofs.Starts.{starts_then, starts_from, starts-zeros, starts_two}
use Rattle.classes.specs.Classes.{slot_bytes, slots_of}
use Rattle.classes.proofs.Laws.{units_small}
use Rattle.model.specs.declared.Slot.{Slot}
use Rattle.model.specs.declared.Totals.{Totals}
use Rattle.model.specs.declared.Holder.TheVariants.{First}
use Rattle.model.specs.State.{is_live, is_ready, is_waiting, slot_sound, aligned_slot, slots_aligned, span_sound}
use Rattle.model.specs.Tables.{row_at, row_record_bytes, view_holder}
use Rattle.model.specs.Plain.{plain_record, plain_row, plain_in, plain_slots, plain_group, slots_layout}
use Rattle.model.proofs.Plain.{plain_length, plains_length}
use Rattle.model.proofs.Counts.{none-live}
use Rattle.rows.specs.Checks.{group_checked}
use Rattle.rows.specs.Counts.{plus, count_if, group_totals}
use Rattle.rows.proofs.Checks.{holder_first-bytes}
use Rattle.plain_slots.specs.Slots.{Small, slot_in}
use Rattle.plain_sound.specs.Checks.{slots_right, with_slot, FewSlots, some_live}

-- ---- one slot after the other

slots_order : (f fs s ss a os : Bool) → ((f && fs) && ((s && ss) && (a && os))) ≡ ((f && (s && a)) && (fs && (ss && os)))
slots_order true fs true ss true os = refl
slots_order true fs true ss false os = simp and-false
slots_order true fs false ss a os = and-false fs
slots_order false fs s ss a os = refl

-- what is tested of the slot x whose record stands first, where it begins at b
abbrev pub one_right : (c b : ℕ) → Slot → List ℕ → Bool
one_right c b x t = starts t (plain_record x) && (slot_sound c x && aligned_slot b x)

slots_turn : (c b n j : ℕ) (t : List ℕ) (x : Slot) → j < n → x ≡ plain_in (take 8 t)
    → slots_right c b (n - j) t ≡ (one_right c b x t && slots_right c (b + slot_bytes c) (n - (j + 1)) (drop 8 t))
unfolding slots_right plain_slots
slots_turn c b n j t x h p =
    let e : n - j ≡ suc (n - (j + 1)) = omega arith in
    let xs : List Slot = plain_slots (n - (j + 1)) (drop 8 t) in
    rw (e, ← p, starts_then 8 t (plain_record x) (join plain_record xs) (plain_length x))
    (slots_order (starts t (plain_record x)) (starts (drop 8 t) (join plain_record xs)) (slot_sound c x) (every (slot_sound c) xs) (aligned_slot b x)
    (slots_aligned c (b + slot_bytes c) xs))

totals_turn : (n j : ℕ) (t : List ℕ) (x : Slot) (s : Totals) → j < n → x ≡ plain_in (take 8 t)
    → plus s (group_totals 0 (plain_slots (n - j) t)) ≡ plus (with_slot s x) (group_totals 0 (plain_slots (n - (j + 1)) (drop 8 t)))
unfolding plain_slots
totals_turn n j t x s h p =
    let e : n - j ≡ suc (n - (j + 1)) = omega arith in
    rw (e, ← p) (simp add_assoc)

-- slot j of the group whose first row is row i is the next
pub slot_next : (i j : ℕ) (s : List ℕ) → slot_in j (drop (row_at i) s) ≡ plain_in (take 8 (drop (row_at i + 16 + 8 * j) s))
unfolding slot_in
slot_next i j s = rw (drop-drop (16 + 8 * j) (row_at i) s, add_assoc (row_at i) 16 (8 * j))

bit-small : (b : Bool) → bit b ≤ 1
bit-small true = omega arith
bit-small false = omega arith

few_more : (j : ℕ) (s : Totals) (x : Slot) → FewSlots j s → Small x → FewSlots (j + 1) (with_slot s x)
few_more j s x f h =
    (omega (arith, f, bit-small (is_live x)), omega (arith, f, h), omega (arith, f, bit-small (is_ready x)), omega (arith, f, bit-small (is_waiting x)))

-- the slots of a group from place p on, n of them, of which the first begins at a byte
module _ (room : List ℕ) (p c k begin n : ℕ) where
  -- what is to be counted of them
  abbrev pub Whole : Option Totals
  Whole = count_if (slots_right c begin n (drop p room)) (group_totals k (plain_slots n (drop p room)))

  -- s is counted of the first j, the next begins at b, and the others are to be counted
  pub record Counting (s : Totals) (b j : ℕ) : Type 0 where
    pub few : FewSlots j s
    pub near : b ≤ begin + 131072 * j
    pub order : j ≤ n
    pub left : Whole
        ≡ count_if (slots_right c b (n - j) (drop (p + 8 * j) room)) (plus s (group_totals 0 (plain_slots (n - j) (drop (p + 8 * j) room))))

  pub none-counted : Counting (group_totals k []) begin 0
  none-counted = record {
    few = (omega arith, omega arith, omega arith, omega arith);
    near = omega arith;
    order = omega arith;
    left = rw (sub-zero) (simp (add-zero, zero-add));
  }

  module _ (s : Totals) (b j : ℕ) (r : Counting s b j) where
    pub all_counted : n ≤ j → Whole ≡ Some s
    unfolding slots_right plain_slots choose
    all_counted h = let z : n - j ≡ 0 = omega (arith, r.order) in r.left ∙ rw z (ap Some (simp add-zero))

    module _ (x : Slot) (h : j < n) (e : x ≡ plain_in (take 8 (drop (p + 8 * j) room))) where
      abbrev here : List ℕ
      here = drop (p + 8 * j) room

      next : drop 8 here ≡ drop (p + 8 * (j + 1)) room
      next = let f : p + 8 * j + 8 ≡ p + 8 * (j + 1) = omega arith in drop-drop 8 (p + 8 * j) room ∙ ap (λ q. drop q room) f

      turned : Whole ≡ count_if (one_right c b x here && slots_right c (b + slot_bytes c) (n - (j + 1)) (drop (p + 8 * (j + 1)) room))
          (plus (with_slot s x) (group_totals 0 (plain_slots (n - (j + 1)) (drop (p + 8 * (j + 1)) room))))
      turned = rw (← next) (r.left ∙ ap₂ count_if (slots_turn c b n j here x h e) (totals_turn n j here x s h e))

      pub not-counted : one_right c b x here ≡ false → Whole ≡ None
      unfolding choose
      not-counted q = turned ∙ rw q

      pub one_counted : one_right c b x here ≡ true → Small x → Counting (with_slot s x) (b + slot_bytes c) (j + 1)
      unfolding slot_bytes
      one_counted q m = record {
        few = few_more j s x r.few m;
        near = omega (arith, r.near, units_small c);
        order = omega arith;
        left = turned ∙ rw q;
      }

-- ---- the first row of a group

some_live_if : (b : Bool) (k : ℕ) (ss : List Slot) → some_live (count_if b (group_totals k ss)) ≡ count_if (b && any is_live ss) (group_totals k ss)
unfolding choose
some_live_if false k ss = refl
some_live_if true k ss = rw (none-live ss) (go (any is_live ss))
  where
    go : (a : Bool) → choose (not a) None (Some (group_totals k ss)) ≡ choose a (Some (group_totals k ss)) None
    go true = refl
    go false = refl

if_if : (a b : Bool) (g : Totals) → choose a (count_if b g) None ≡ count_if (a && b) g
unfolding choose
if_if true b g = refl
if_if false b g = refl

group_order : (z j o l f a : Bool) → ((z && (j && o)) && (l && f) && a) ≡ ((z && o) && ((j && (f && a)) && l))
group_order false j o l f a = refl
group_order true true true true f a = sym (and-true (f && a))
group_order true true true false f a = sym (and-false (f && a))
group_order true true false l f a = refl
group_order true false o l f a = sym (and-false o)

module _ (s : List ℕ) (i c : ℕ) (fit : row_at i + row_record_bytes ≤ length s) where
  row_starts : (ss : List Slot) → (let at = row_at i in
      starts (drop at s) (plain_row c ss)
      ≡ (eqb (get_or s at 0) 1 && (eqb (get_or s (at + 1) 0) c && (starts (drop (at + 2) s) (zeros 14)
      && (starts (drop (at + 16) s) (join plain_record ss) && starts (drop (at + (16 + 8 * length ss)) s) (zeros (8 * (31 - length ss))))))))
  unfolding plain_row
  row_starts ss =
      let at = row_at i in
      let J = join plain_record ss in
      let Z = zeros (8 * (31 - length ss)) in
      rw (
        starts_two s at 1 c (zeros 14 ++ (J ++ Z)) (omega arith),
        starts_from s (at + 2) 14 (at + 16) (zeros 14) (J ++ Z) (zeros-length 14) (omega arith),
        starts_from s (at + 16) (8 * length ss) (at + (16 + 8 * length ss)) J Z (plains_length ss) (omega arith),
      )

  says_long : (n : ℕ) (t : List ℕ) → length (plain_slots n t) ≡ n
  unfolding plain_slots
  says_long zero t = refl
  says_long (suc n) t = ap suc (says_long n (drop 8 t))

  module _ (at n : ℕ) (en : n ≡ slots_of c) (held : view_holder (drop (row_at i) s) ≡ First c) (h : c < 48) where
    abbrev slots : List Slot
    slots = plain_slots n (drop (row_at i + 16) s)

    pub group-slots : plain_group c (drop (row_at i) s) ≡ slots
    unfolding plain_group
    group-slots = rw (← en, drop-drop 16 (row_at i) s)

    pub group_law : group_checked slots_layout at c (drop (row_at i) s)
        ≡ ((same (part (row_at i + 2) 14 s) (zeros 14) && same (part (row_at i + (16 + 8 * n)) (8 * (31 - n)) s) (zeros (8 * (31 - n))))
        && (slots_right c (at + 16) n (drop (row_at i + 16) s) && any is_live slots))
    unfolding group_checked slots_right span_sound
    group_law =
        let b = holder_first-bytes (drop (row_at i) s) c held in
        let b₀ : get_or s (row_at i) 0 ≡ 1 = sym (get_or-drop (row_at i) s 0 0 ∙ ap (λ j. get_or s j 0) (add-zero (row_at i))) ∙ b.0 in
        let b₁ : get_or s (row_at i + 1) 0 ≡ c = sym (get_or-drop (row_at i) s 1 0) ∙ b.1 in
        let l : length slots ≡ n = says_long n (drop (row_at i + 16) s) in
        rw (
          group-slots,
          row_starts slots,
          b₀,
          eq-eqb (get_or s (row_at i + 1) 0) c b₁,
          lt-ltb c 48 h,
          eq-eqb (length slots) (slots_of c) (l ∙ en),
          l,
          starts-zeros (row_at i + 2) 14 s,
          starts-zeros (row_at i + (16 + 8 * n)) (8 * (31 - n)) s,
        )
        (group_order (starts (drop (row_at i + 2) s) (zeros 14)) (starts (drop (row_at i + 16) s) (join plain_record slots))
        (starts (drop (row_at i + (16 + 8 * n)) s) (zeros (8 * (31 - n)))) (any is_live slots) (every (slot_sound c) slots) (slots_aligned c (at + 16) slots))

    -- over what the calls give: the zeros before the slots and behind them
    pub group_counted : (k : ℕ) → (let z = same (part (row_at i + 2) 14 s) (zeros 14) in
        let o = same (part (row_at i + (16 + 8 * n)) (8 * (31 - n)) s) (zeros (8 * (31 - n))) in
        count_if (group_checked slots_layout at c (drop (row_at i) s)) (group_totals k (plain_group c (drop (row_at i) s)))
        ≡ choose (z && o) (some_live (Whole s (row_at i + 16) c k (at + 16) n)) None)
    group_counted k =
        let z = same (part (row_at i + 2) 14 s) (zeros 14) in
        let o = same (part (row_at i + (16 + 8 * n)) (8 * (31 - n)) s) (zeros (8 * (31 - n))) in
        ap₂ count_if group_law (ap (group_totals k) group-slots)
        ∙ sym (ap (λ q. choose (z && o) q None) (some_live_if (slots_right c (at + 16) n (drop (row_at i + 16) s)) k slots)
        ∙ if_if (z && o) (slots_right c (at + 16) n (drop (row_at i + 16) s) && any is_live slots) (group_totals k slots))
