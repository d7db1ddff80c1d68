-- `first_ready` meets its contract. The invariant: none of the slots passed by is ready.
use Rattle.mem.proofs.Prelude.{◌∙◌, ◌≡◌, sym, ap, true, false, List, ℕ, ◌+◌, ◌<◌, suc, arith, drop}
use Rattle.mem.specs.Lists.{first}
use Rattle.mem.proofs.Tests.{choose-true, choose-false}
use Rattle.model.specs.State.{is_ready}
use Rattle.model.specs.Tables.{row_at}
use Rattle.plain_slots.specs.Slots.{slot_in}
use Rattle.plain_slots.proofs.Walks.{slots_from, slots-begin, slots_turn, slots_end}
use Rattle.plain_changes.proofs.first_ready.Goals as goal

-- the next slot is ready, or not
module _ (n i j : ℕ) (s : List ℕ) (h : j < n) where
  hit : is_ready (slot_in j (drop (row_at i) s)) ≡ true → first is_ready (slots_from n i s j) ≡ 0
  hit e = ap (first is_ready) (slots_turn n i s j h) ∙ choose-true (is_ready (slot_in j (drop (row_at i) s))) _ _ e

  miss : is_ready (slot_in j (drop (row_at i) s)) ≡ false → first is_ready (slots_from n i s j) ≡ suc (first is_ready (slots_from n i s (j + 1)))
  miss e = ap (first is_ready) (slots_turn n i s j h) ∙ choose-false (is_ready (slot_in j (drop (row_at i) s))) _ _ e

pub loop-j-init : goal.loop-j-init
loop-j-init c =
    let a = c.args in
    omega (arith, ap (first is_ready) (slots-begin c.slots-n.result a.c a.i a.room.now c.slots-n.ensures.value))

pub returns-then-is_ready : goal.returns-then-is_ready
returns-then-is_ready c =
    let l = c.loop-j in
    let k = c.slots-n in
    let a = c.args in
    let h = hit k.result a.i l.j a.room.now c.loop-j-test.true (ap is_ready (sym c.slot_at.ensures.value) ∙ sym c.is_ready.ensures ∙ c.if-is_ready.true) in
    (omega (arith, l.invariant, h), omega (arith, c.loop-j-test.true, k.ensures.value))

pub loop-j-preserved : goal.loop-j-preserved
loop-j-preserved c =
    let l = c.loop-j in
    let k = c.slots-n in
    let a = c.args in
    omega (
      arith,
      l.invariant,
      miss k.result a.i l.j a.room.now c.loop-j-test.true
          (ap is_ready (sym c.slot_at.ensures.value) ∙ sym c.is_ready.ensures ∙ c.if-is_ready.false),
    )

pub returns : goal.returns
returns c =
    let l = c.loop-j in
    let k = c.slots-n in
    let a = c.args in
    omega (arith, l.invariant, k.ensures.value, ap (first is_ready) (slots_end k.result a.i a.room.now l.j c.loop-j-test.false))
