-- `look_group` meets its contract.
use Rattle.mem.proofs.Prelude.{◌∙◌, ◌≡◌, sym, true, Bool, false, List, ◌+◌, ℕ, ◌<◌, ◌≤◌, ◌*◌, ◌-◌, ◌/◌, ◌%◌, arith, le-leb, lt-leb}
use Rattle.mem.proofs.Prelude.{le-ltb, lt-ltb, T, eqb, leb, lit≤, ltb, length, drop, get_or, get_or-drop}
use native.Mathlib.Nat.{lt_of_lt_of_le, pow-le-pow_right}
use lib.ListN.{length-take}
use Rattle.mem.specs.Lists.{every}
use Rattle.mem.specs.Bytes.{number, part}
use Rattle.mem.proofs.Laws.{bytes_by, every-part, number_small}
use Rattle.mem.proofs.Tests.{choose_case, choose-true, choose-false}
use Rattle.classes.specs.Classes.{units_of, slot_bytes, slots_of}
use Rattle.masks.specs.declared.Masks.{Masks}
use Rattle.model.specs.declared.Slot.{Slot}
use Rattle.model.specs.declared.Slot.TheVariants.{Fresh, Idle}
use Rattle.model.specs.State.{disp}
use Rattle.model.specs.Tables.{row_at, view_slot}
use Rattle.records.specs.Records.{has, masks_in, slot_in, slots_here}
use Rattle.rows.specs.declared.Looked.{Looked}
use Rattle.rows.specs.declared.Looked.TheVariants.{Absent}
use Rattle.search.specs.Found.{disp_small, slot_looked, group_looked}
use Rattle.search.proofs.look_group.Goals as goal

-- ---- the displacement is two bytes of the room
two_bytes : (l : List ℕ) → T (every (λ b. ltb b 256) l) → number (part 2 2 l) < 65536
two_bytes l t =
    let h : length (part 2 2 l) ≤ 2 = omega (arith, length-take 2 (drop 2 l)) in
    lt_of_lt_of_le (number_small (part 2 2 l) (every-part (λ b. ltb b 256) 2 2 l t)) (pow-le-pow_right (lit≤ tt) h)

view-small : (r w : Bool) (l : List ℕ) → T (every (λ b. ltb b 256) l) → disp (view_slot r w l) < 65536
unfolding view_slot
view-small true w l t =
    choose_case (λ x. disp x < 65536) (eqb (get_or l 0 0) 0) Fresh (Idle true (get_or l 1 0) (number (part 2 2 l))) (λ e. omega arith) (λ e. two_bytes l t)
view-small false true l t = two_bytes l t
view-small false false l t = two_bytes l t

small : (m : Masks) (j p : ℕ) (t : List ℕ) → ((i : ℕ) → get_or t i 0 < 256) → disp_small (slot_in m j (drop p t)) ≡ true
unfolding slot_in
small m j p t h =
    let b : T (every (λ b. ltb b 256) (drop p t)) = bytes_by (drop p t) (λ i. rw (get_or-drop p t i 0) (h (p + i))) in
    let q = part (16 + 8 * j) 8 (drop p t) in
    lt-ltb (disp (view_slot (has j m.ready) (has j m.waiting) q)) 65536
    (view-small (has j m.ready) (has j m.waiting) q (every-part (λ b. ltb b 256) (16 + 8 * j) 8 (drop p t) b))

-- ---- the slot that the distance from the group's first byte leads to, u being its units
module _ (first c inside u : ℕ) (s : List ℕ) where
  low : inside < 16 → Absent ≡ group_looked first c inside (slots_here s)
  unfolding group_looked
  low h = sym (choose-true (ltb inside 16) _ _ (lt-ltb inside 16 h))

  high : u ≡ units_of c → 16 ≤ inside → slots_of c ≤ (inside - 16) / (16 * u) → Absent ≡ group_looked first c inside (slots_here s)
  unfolding group_looked slot_bytes
  high e h l =
      sym (choose-false (ltb inside 16) _ _ (le-ltb inside 16 h)
      ∙ choose-true (leb (slots_of c) ((inside - 16) / slot_bytes c)) _ _ (le-leb (slots_of c) ((inside - 16) / slot_bytes c) (rw (← e) l)))

  slot : (m : Masks) (x : Slot) (r : Looked) → m ≡ masks_in s → x ≡ slot_in m ((inside - 16) / (16 * u)) s
      → r ≡ slot_looked first c ((inside - 16) / (16 * u)) ((inside - 16) % (16 * u)) x → u ≡ units_of c → 16 ≤ inside → (inside - 16) / (16 * u) < slots_of c
      → r ≡ group_looked first c inside (slots_here s)
  unfolding group_looked slot_bytes
  slot m x r f g k e h l =
      sym (choose-false (ltb inside 16) _ _ (le-ltb inside 16 h)
      ∙ choose-false (leb (slots_of c) ((inside - 16) / slot_bytes c)) _ _ (lt-leb (slots_of c) ((inside - 16) / slot_bytes c) (rw (← e) l))
      ∙ rw (← e, ← f, ← g, k))

pub returns-then-inside-lt16 : goal.returns-then-inside-lt16
returns-then-inside-lt16 c =
    let a = c.args in
    low a.first a.c a.inside 0 (drop (row_at a.first) a.room.now) c.if-inside-lt16.true

pub returns-then-slots-i : goal.returns-then-slots-i
returns-then-slots-i c =
    let u = c.units-bytes in
    let a = c.args in
    high a.first a.c a.inside u.result (drop (row_at a.first) a.room.now) u.ensures.value c.if-inside-lt16.false
    (rw (← c.slots.ensures.value) c.if-slots-i.true)

pub look_slot-requires : goal.look_slot-requires
look_slot-requires c =
    let a = c.args in
    rw c.slot_at-x.ensures (small c.masks_at-m.result _ (row_at a.first) a.room.now
    (λ i. (c.shared_slice_known-1.given i).fits))

pub returns : goal.returns
returns c =
    let u = c.units-bytes in
    let a = c.args in
    let m = c.masks_at-m in
    let x = c.slot_at-x in
    let r = c.look_slot in
    slot a.first a.c a.inside u.result (drop (row_at a.first) a.room.now) m.result x.result r.result m.ensures x.ensures
    r.ensures
    u.ensures.value c.if-inside-lt16.false
    (rw (← c.slots.ensures.value) c.if-slots-i.false)
