-- The laws of a group: its slots over its masks, and its first row, with the records past the slots.
use Rattle.mem.proofs.Prelude.{◌∙◌, ◌≡◌, sym, ap, refl, ap₂, true, Bool, ◌&&◌, not, and_assoc, List, ◌++◌}
use Rattle.mem.proofs.Prelude.{map, ◌+◌, ℕ, ◌<◌, ◌≤◌, ◌*◌, ◌-◌, suc, ◌/◌, zero, add-zero, arith, eq-eqb}
use Rattle.mem.proofs.Prelude.{lt-ltb, T, eqb, eqb→eq, length, drop, get_or, drop-drop, get_or-drop, ones}
use mathlib.Core.Bool.{and_comm, not-not}
use Rattle.mem.specs.Lists.{every, any, sum, join, starts}
use Rattle.mem.specs.Bytes.{zeros, low, number, same, mask, bit, part}
use Rattle.mem.proofs.Tests.{and_left, and_right}
use Rattle.mem.proofs.Laws.{zeros-add, zeros-length}
use Rattle.mem.proofs.Starts.{starts_from, starts-zeros, starts_two, starts-low}
use Rattle.classes.specs.Classes.{slots_of}
use Rattle.classes.proofs.Laws.{slots_small}
use Rattle.model.specs.declared.Slot.{Slot}
use Rattle.model.specs.declared.Holder.TheVariants.{First}
use Rattle.model.specs.State.{is_ready, is_waiting, is_live, slot_sound, slots_aligned, span_sound}
use Rattle.model.specs.Tables.{masks_layout, slot_record, row_record, view_slots, view_group, view_holder, row_record_bytes}
use Rattle.model.proofs.Tables.{mask_fits, slots_length}
use Rattle.model.proofs.Counts.{ones-live, none-live}
use Rattle.rows.specs.Checks.{group_checked}
use Rattle.rows.proofs.Checks.{holder_first-bytes}
use Rattle.slot_walks.specs.Slots.{slots_exactly}
use Rattle.slot_walks.proofs.Laws.{and-left_comm, and-when}
use Rattle.slot_walks.proofs.Records.{zeros-quad}
use Rattle.soundness.specs.Checks.{members_checked}

-- ---- the slots of a group, over its masks

view-length : (n r w : ℕ) (t : List ℕ) → length (view_slots n r w t) ≡ n
unfolding view_slots
view-length zero r w t = refl
view-length (suc n) r w t = ap suc (view-length n (r / 2) (w / 2) (drop 8 t))

members_order : (r w j l e a : Bool) → (r && w && j && l && e && a) ≡ (r && w && j && e && a && l)
members_order r w j l e a = simp (and_assoc, and_comm, and-left_comm)

-- slots that pass: the live ones are those whose bits the masks have not set
module _ (c b n r w : ℕ) (t : List ℕ) (u : T (slots_exactly c b n r w t)) where
  slots-ones : ones r + ones w + sum (λ x. bit (is_live x)) (view_slots n r w t) ≡ n
  unfolding slots_exactly
  slots-ones =
      let ss = view_slots n r w t in
      ones-live ss r w (eqb→eq (mask (map is_ready ss)) r (search (and_left, and_right))) (eqb→eq (mask (map is_waiting ss)) w (search (and_left, and_right)))
      ∙ view-length n r w t

  pub slots_few : ones r + ones w ≤ n
  slots_few = omega (arith, slots-ones)

  some_live_lem : any is_live (view_slots n r w t) ≡ not (eqb (n - (ones r + ones w)) 0)
  some_live_lem =
      let ss = view_slots n r w t in
      let e : n - (ones r + ones w) ≡ sum (λ x. bit (is_live x)) ss = omega (arith, slots-ones) in
      rw e (sym (ap not (none-live ss) ∙ not-not (any is_live ss)))

members_view : (c b : ℕ) (t : List ℕ) → let r = number (part 8 4 t) in let w = number (part 12 4 t) in
    members_checked c b t ≡ (slots_exactly c b (slots_of c) r w (drop 16 t) && not (eqb (slots_of c - (ones r + ones w)) 0))
unfolding members_checked slots_exactly view_group
members_view c b t =
    let r = number (part 8 4 t) in
    let w = number (part 12 4 t) in
    let ss = view_group c t in
    members_order (eqb (mask (map is_ready ss)) r) (eqb (mask (map is_waiting ss)) w) (starts (drop 16 t) (join slot_record ss)) (any is_live ss)
    (every (slot_sound c) ss) (slots_aligned c b ss)
    ∙ and-when (slots_exactly c b (slots_of c) r w (drop 16 t)) (any is_live ss) (not (eqb (slots_of c - (ones r + ones w)) 0))
    (some_live_lem c b (slots_of c) r w (drop 16 t))

-- over what the calls give
pub members_law : (s : List ℕ) (at c b n r w : ℕ) → n ≡ slots_of c → r ≡ number (part (at + 8) 4 s) → w ≡ number (part (at + 12) 4 s)
    → members_checked c b (drop at s) ≡ (slots_exactly c b n r w (drop (at + 16) s) && not (eqb (n - (ones r + ones w)) 0))
members_law s at c b n r w en er ew =
    rw (en, er, ew, ← (drop-drop 8 at s), ← (drop-drop 12 at s), ← (drop-drop 16 at s)) (members_view c b (drop at s))

-- ---- the first row of a group

pub group-length : (c : ℕ) (t : List ℕ) → length (view_group c t) ≡ slots_of c
unfolding view_group
group-length c t = view-length (slots_of c) (number (part 8 4 t)) (number (part 12 4 t)) (drop 16 t)

group_order : (z r w j o l e a : Bool) → ((z && (r && (w && (j && o)))) && (l && e) && a) ≡ (z && o && (r && w && j && l && e && a))
group_order z r w j o l e a = simp (and_assoc, and-left_comm)

module _ (s : List ℕ) (B : (i : ℕ) → get_or s i 0 < 256) (at c : ℕ) (fit : at + row_record_bytes ≤ length s) where
  group-starts : (ss : List Slot) → length ss ≤ 31
      → starts (drop at s) (row_record (First c) ss)
      ≡ (eqb (get_or s at 0) 1 && (eqb (get_or s (at + 1) 0) c && (starts (drop (at + 2) s) (zeros 6)
      && (eqb (mask (map is_ready ss)) (number (part (at + 8) 4 s)) && (eqb (mask (map is_waiting ss)) (number (part (at + 12) 4 s))
      && (starts (drop (at + 16) s) (join slot_record ss) && starts (drop (at + 16 + 8 * length ss) s) (zeros (8 * (31 - length ss)))))))))
  unfolding row_record
  group-starts ss few =
      let R = mask (map is_ready ss) in
      let W = mask (map is_waiting ss) in
      let J = join slot_record ss in
      let Z = zeros (8 * (31 - length ss)) in
      rw (
        starts_two s at 1 c (zeros 6 ++ (low 4 R ++ (low 4 W ++ (J ++ Z)))) (omega arith),
        starts_from s (at + 2) 6 (at + 8) (zeros 6) (low 4 R ++ (low 4 W ++ (J ++ Z))) (zeros-length 6) (omega arith),
        starts_from s (at + 8) 4 (at + 12) (low 4 R) (low 4 W ++ (J ++ Z)) refl (omega arith),
        starts_from s (at + 12) 4 (at + 16) (low 4 W) (J ++ Z) refl (omega arith),
        starts_from s (at + 16) (8 * length ss) (at + 16 + 8 * length ss) J Z (slots_length ss) refl,
        starts-low s B (at + 8) 4 R (omega arith) (mask_fits is_ready ss few),
        starts-low s B (at + 12) 4 W (omega arith) (mask_fits is_waiting ss few),
      )

  pub group_law : (n b : ℕ) → n ≡ slots_of c → view_holder (drop at s) ≡ First c → c < 48
      → group_checked masks_layout b c (drop at s)
      ≡ (same (part (at + 2) 6 s) (zeros 6) && same (part (at + 16 + 8 * n) (8 * (31 - n)) s) (zeros (8 * (31 - n)))
      && members_checked c (b + 16) (drop at s))
  unfolding group_checked members_checked span_sound
  group_law n b en held h =
      let k = holder_first-bytes (drop at s) c held in
      let one : get_or s at 0 ≡ 1 = sym (get_or-drop at s 0 0 ∙ ap (λ i. get_or s i 0) (add-zero at)) ∙ k.0 in
      let cls : get_or s (at + 1) 0 ≡ c = sym (get_or-drop at s 1 0) ∙ k.1 in
      let ss = view_group c (drop at s) in
      let l : length ss ≡ slots_of c = group-length c (drop at s) in
      rw (
        en,
        starts-zeros (at + 2) 6 s,
        starts-zeros (at + 16 + 8 * slots_of c) (8 * (31 - slots_of c)) s,
        group-starts ss (omega (arith, slots_small c)),
        one,
        eq-eqb (get_or s (at + 1) 0) c cls,
        lt-ltb c 48 h,
        eq-eqb (length ss) (slots_of c) l,
        l,
        drop-drop 8 at s,
        drop-drop 12 at s,
        drop-drop 16 at s,
      )
      (group_order (starts (drop (at + 2) s) (zeros 6)) (eqb (mask (map is_ready ss)) (number (part (at + 8) 4 s)))
      (eqb (mask (map is_waiting ss)) (number (part (at + 12) 4 s))) (starts (drop (at + 16) s) (join slot_record ss))
      (starts (drop (at + 16 + 8 * slots_of c) s) (zeros (8 * (31 - slots_of c)))) (any is_live ss) (every (slot_sound c) ss)
      (slots_aligned c (b + 16) ss))

-- ---- the records past the slots

pub rest_turn : (s : List ℕ) → ((i : ℕ) → get_or s i 0 < 256) → (at i : ℕ) → i < 31 → at + 248 ≤ length s
    → same (part (at + 8 * i) (8 * (31 - i)) s) (zeros (8 * (31 - i)))
    ≡ (eqb (number (part (at + 8 * i) 4 s)) 0 && eqb (number (part (at + 8 * i + 4) 4 s)) 0
    && same (part (at + 8 * (i + 1)) (8 * (31 - (i + 1))) s) (zeros (8 * (31 - (i + 1)))))
rest_turn s B at i h f =
    let m = 8 * (31 - (i + 1)) in
    let p = at + 8 * i in
    let e : 8 * (31 - i) ≡ 4 + (4 + m) = omega arith in
    starts-zeros p (8 * (31 - i)) s
    ∙ ap (λ (k : ℕ). starts (drop p s) (zeros k)) e
    ∙ rw (zeros-add 4 (4 + m), zeros-add 4 m)
    (starts_from s p 4 (p + 4) (zeros 4) (zeros 4 ++ zeros m) (zeros-length 4) refl
    ∙ ap₂ ◌&&◌ (zeros-quad s B p (omega arith)) (starts_from s (p + 4) 4 (at + 8 * (i + 1)) (zeros 4) (zeros m) (zeros-length 4) (omega arith)
    ∙ ap₂ ◌&&◌ (zeros-quad s B (p + 4) (omega arith)) (sym (starts-zeros (at + 8 * (i + 1)) m s))))
    ∙ sym (and_assoc (eqb (number (part p 4 s)) 0) (eqb (number (part (p + 4) 4 s)) 0) (same (part (at + 8 * (i + 1)) m s) (zeros m)))

pub rest_end : (s : List ℕ) (p k : ℕ) → k ≡ 0 → same (part p k s) (zeros k) ≡ true
unfolding zeros
rest_end s p k e = rw e
