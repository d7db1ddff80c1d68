-- `below` meets its contract: the class two below, where there is one.
use Rattle.mem.proofs.Prelude.{◌∙◌, sym, ap, ◌*◌, ◌-◌, arith, le-ltb, lt-ltb, ltb}
use Rattle.mem.proofs.Tests.{choose-true, choose-false}
use Rattle.classes.specs.Classes.{slot_bytes}
use Rattle.slot_rules.proofs.below.Goals as goal

pub returns-then-c-lt2 : goal.returns-then-c-lt2
returns-then-c-lt2 c = let k = c.args.c in record { value = sym (choose-true (ltb k 2) 0 (slot_bytes (k - 2)) (lt-ltb k 2 c.if-c-lt2.true)); small = omega arith }

pub returns : goal.returns
unfolding slot_bytes
returns c =
    let k = c.args.c in
    record { value = ap (λ u. 16 * u) c.units.ensures.value ∙ sym (choose-false (ltb k 2) 0 (slot_bytes (k - 2)) (le-ltb k 2 c.if-c-lt2.false)); small = omega arith }
