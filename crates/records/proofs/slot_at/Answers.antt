-- `slot_at` meets its contract.
use Rattle.mem.proofs.Prelude.{◌∙◌, ◌≡◌, sym, ap, ap₂, true, Bool, false, List, ◌+◌, ℕ, ◌*◌, ◌/◌, ◌^◌, ◌%◌, add_assoc, eq-eqb}
use Rattle.mem.proofs.Prelude.{ne_eqb, eqb, lit≤, drop, get_or, drop-drop}
use Rattle.mem.specs.Lists.{choose}
use Rattle.mem.specs.Bytes.{number, part}
use Rattle.mem.proofs.Laws.{get_d_part, part-part}
use Rattle.mem.proofs.Tests.{choose-true, choose-false}
use Rattle.masks.specs.declared.Masks.{Masks}
use Rattle.model.specs.declared.Slot.{Slot}
use Rattle.model.specs.Tables.{row_at, view_slot}
use Rattle.records.specs.Records.{has, slot_in}
use Rattle.records.proofs.slot_at.Goals as goal

-- the slot that the eight bytes at q say
module _ (q : ℕ) (t : List ℕ) where
  count : get_or (part q 8 t) 1 0 ≡ get_or t (q + 1) 0
  count = get_d_part q 8 t 1 0 (lit≤ tt)

  disp : number (part 2 2 (part q 8 t)) ≡ number (part (q + 2) 2 t)
  disp = ap number (part-part q 8 2 2 t (lit≤ tt))

  size : number (part 4 3 (part q 8 t)) ≡ number (part (q + 4) 3 t)
  size = ap number (part-part q 8 4 3 t (lit≤ tt))

  ready : (w : Bool) → view_slot true w (part q 8 t)
      ≡ choose (eqb (get_or t (q + 0) 0) 0) Slot.Fresh (Slot.Idle true (get_or t (q + 1) 0) (number (part (q + 2) 2 t)))
  unfolding view_slot
  ready w = rw (get_d_part q 8 t 0 0 (lit≤ tt), count, disp)

  waiting : view_slot false true (part q 8 t) ≡ Slot.Idle false (get_or t (q + 1) 0) (number (part (q + 2) 2 t))
  unfolding view_slot
  waiting = ap₂ (Slot.Idle false) count disp

  live : view_slot false false (part q 8 t)
      ≡ Slot.Live (record { count = get_or t (q + 1) 0; disp = number (part (q + 2) 2 t); size = number (part (q + 4) 3 t); align = get_or t (q + 0) 0 })
  unfolding view_slot
  live = rw (get_d_part q 8 t 0 0 (lit≤ tt), count, disp, size)

-- slot j of the row whose record stands at p
module _ (i j p : ℕ) (m : Masks) (t : List ℕ) (e : p ≡ row_at i) where
  slot : slot_in m j (drop (row_at i) t) ≡ view_slot (has j m.ready) (has j m.waiting) (part (p + 16 + 8 * j) 8 t)
  unfolding slot_in
  slot = rw (← e, drop-drop, ← add_assoc)

  read-fresh : m.ready / 2 ^ j % 2 ≡ 1 → get_or t (p + 16 + 8 * j + 0) 0 ≡ 0 → Slot.Fresh ≡ slot_in m j (drop (row_at i) t)
  read-fresh h k =
      sym (slot ∙ rw (eq-eqb (m.ready / 2 ^ j % 2) 1 h) (ready (p + 16 + 8 * j) t (has j m.waiting)
      ∙ choose-true _ _ _ (eq-eqb (get_or t (p + 16 + 8 * j + 0) 0) 0 k)))

  read_ready : (d : ℕ) → m.ready / 2 ^ j % 2 ≡ 1 → (get_or t (p + 16 + 8 * j + 0) 0 ≡ 0 → ⊥) → d ≡ number (part (p + 16 + 8 * j + 2) 2 t)
      → Slot.Idle true (get_or t (p + 16 + 8 * j + 1) 0) d ≡ slot_in m j (drop (row_at i) t)
  read_ready d h k f =
      sym (slot ∙ rw (eq-eqb (m.ready / 2 ^ j % 2) 1 h, f) (ready (p + 16 + 8 * j) t (has j m.waiting)
      ∙ choose-false _ _ _ (ne_eqb (get_or t (p + 16 + 8 * j + 0) 0) 0 k)))

  read_waiting : (d : ℕ) → (m.ready / 2 ^ j % 2 ≡ 1 → ⊥) → m.waiting / 2 ^ j % 2 ≡ 1 → d ≡ number (part (p + 16 + 8 * j + 2) 2 t)
      → Slot.Idle false (get_or t (p + 16 + 8 * j + 1) 0) d ≡ slot_in m j (drop (row_at i) t)
  read_waiting d h k f =
      sym (slot ∙ rw (ne_eqb (m.ready / 2 ^ j % 2) 1 h, eq-eqb (m.waiting / 2 ^ j % 2) 1 k, f) (waiting (p + 16 + 8 * j) t))

  read_live : (d n : ℕ) → (m.ready / 2 ^ j % 2 ≡ 1 → ⊥) → (m.waiting / 2 ^ j % 2 ≡ 1 → ⊥) → d ≡ number (part (p + 16 + 8 * j + 2) 2 t)
      → n ≡ number (part (p + 16 + 8 * j + 4) 3 t)
      → Slot.Live (record { count = get_or t (p + 16 + 8 * j + 1) 0; disp = d; size = n; align = get_or t (p + 16 + 8 * j + 0) 0 }) ≡ slot_in m j (drop (row_at i) t)
  read_live d n h k f g =
      sym (slot ∙ rw (ne_eqb (m.ready / 2 ^ j % 2) 1 h, ne_eqb (m.waiting / 2 ^ j % 2) 1 k, f, g) (live (p + 16 + 8 * j) t))

pub returns-then-room-at-eq0 : goal.returns-then-room-at-eq0
returns-then-room-at-eq0 c =
    let a = c.args in
    read-fresh a.i a.j c.row_at.result a.m a.room.now c.row_at.ensures c.if-m-j-eq1.true c.if-room-at-eq0.true

pub returns-then-m-j-eq1 : goal.returns-then-m-j-eq1
returns-then-m-j-eq1 c =
    let a = c.args in
    read_ready a.i a.j c.row_at.result a.m a.room.now c.row_at.ensures c.get2.result
    c.if-m-j-eq1.true c.if-room-at-eq0.false c.get2.ensures.value

pub returns-then-m-j-eq1-2 : goal.returns-then-m-j-eq1-2
returns-then-m-j-eq1-2 c =
    let a = c.args in
    read_waiting a.i a.j c.row_at.result a.m a.room.now c.row_at.ensures c.get2-then-m-j-eq1-2.result
    c.if-m-j-eq1.false c.if-m-j-eq1-2.true c.get2-then-m-j-eq1-2.ensures.value

pub returns : goal.returns
returns c =
    let a = c.args in
    read_live a.i a.j c.row_at.result a.m a.room.now c.row_at.ensures c.get2-2.result c.get3.result
    c.if-m-j-eq1.false c.if-m-j-eq1-2.false
    c.get2-2.ensures.value c.get3.ensures.value
