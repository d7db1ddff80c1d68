-- `slot_of` meets its contract.
use Rattle.mem.proofs.Prelude.{Bool, ℕ, ◌<◌, arith, lit≤, eqb, eq-eqb, ne_eqb, le-leb, lt-leb}
use Rattle.mem.specs.Lists.{choose}
use Rattle.mem.proofs.Tests.{choose_case}
use Rattle.model.specs.declared.Slot.TheVariants.{Fresh, Idle}
use Rattle.model.specs.Plain.{plain_slot}
use Rattle.plain_slots.specs.Slots.{Small}
use Rattle.plain_slots.proofs.slot_of.Goals as goal

fresh-small : Small Fresh
fresh-small = (lit≤ tt, lit≤ tt, lit≤ tt)

idle_small : (r : Bool) (k d : ℕ) → d < 65536 → Small (Idle r k d)
idle_small r k d h = (choose_case (λ b. b < 256) r 1 2 (λ e. lit≤ tt) (λ e. lit≤ tt), h, lit≤ tt)

pub returns-then-condition-eq0 : goal.returns-then-condition-eq0
unfolding plain_slot choose
returns-then-condition-eq0 c = record { value = rw (eq-eqb c.args.condition 0 c.if-condition-eq0.true); small = fresh-small }

pub returns-then-condition-le2 : goal.returns-then-condition-le2
unfolding plain_slot choose
returns-then-condition-le2 c =
    let a = c.args in
    let b = a.condition in
    record { value = rw (ne_eqb b 0 c.if-condition-eq0.false, le-leb b 2 c.if-condition-le2.true); small = idle_small (eqb b 1) a.count a.disp (omega arith) }

pub returns : goal.returns
unfolding plain_slot choose
returns c =
    let b = c.args.condition in
    record { value = rw (ne_eqb b 0 c.if-condition-eq0.false, lt-leb b 2 c.if-condition-le2.false); small = (omega arith, omega arith, omega arith) }
