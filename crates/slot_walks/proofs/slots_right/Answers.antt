-- `slots_right` meets its contract: slots that pass the quick test pass every rule.
use Rattle.mem.proofs.Prelude.{◌∙◌, ◌≡◌, sym, ap, true, ℕ, ◌+◌, ◌-◌, ◌<◌, arith, drop, get_or, get_or-drop, Ok, Err}
use Rattle.mem.proofs.Tests.{T_true, true-T, choose-true, choose-false}
use Rattle.classes.specs.Classes.{slot_bytes, below2}
use Rattle.slot_walks.specs.Slots.{slots_checked, slots_exactly}
use Rattle.slot_walks.proofs.Laws.{quick_exact}
use Rattle.slot_walks.proofs.slots_right.Goals as goal

pub returns-then-found : goal.returns-then-found
returns-then-found c =
    let g = c.args.g in
    let k = c.args.c in
    let m = g.masks in
    let t = drop g.at c.args.s.now in
    let b = c.of-b in
    let r = b.result.of_class in
    let B : (i : ℕ) → get_or t i 0 < 256 = λ i. rw (get_or-drop g.at c.args.s.now i 0) (omega (arith, c.type_inv.s (g.at + i))) in
    let most : b.result.most ≡ slot_bytes k - 4 = rw (← b.ensures) (omega (arith, r.1)) in
    let least : b.result.least ≡ below2 k = rw (← b.ensures) r.2 in
    let u : slots_checked (slot_bytes k - 4) (below2 k) g.n m.ready m.waiting t ≡ true =
    rw (← most, ← least) (sym c.slots_found-found.ensures.sound_value ∙ c.if-found.true) in
    let v : slots_exactly k g.begin g.n m.ready m.waiting t ≡ true =
    T_true _ (quick_exact k (omega arith) g.n g.begin m.ready m.waiting t B g.on_unit.1 (true-T _ u)) in
    record { value = ap Ok c.slots_found-found.ensures.bytes_value ∙ sym (choose-true _ _ _ v); small = c.slots_found-found.ensures.small }

pub returns-then-slots_tested : goal.returns-then-slots_tested
returns-then-slots_tested c = record {
  value = ap Ok c.slots_found-found.ensures.bytes_value
      ∙ sym (choose-true _ _ _ (rw (← c.of-b.ensures, ← c.with_masks.ensures) (sym c.slots_tested.ensures ∙ c.if-slots_tested.true)));
  small = c.slots_found-found.ensures.small;
}

pub returns : goal.returns
returns c = record {
  value = ap Err c.slots_found-found.ensures.bytes_value
      ∙ sym (choose-false _ _ _ (rw (← c.of-b.ensures, ← c.with_masks.ensures) (sym c.slots_tested.ensures ∙ c.if-slots_tested.false)));
  small = c.slots_found-found.ensures.small;
}
