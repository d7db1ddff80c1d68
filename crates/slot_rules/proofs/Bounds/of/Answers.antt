-- The numbers are those of the class.
use Rattle.mem.proofs.Prelude.{arith}
use Rattle.classes.proofs.Laws.{bytes-units}
use Rattle.slot_rules.proofs.Bounds.of.Goals as goal

pub invariant_of-result : goal.invariant_of-result
invariant_of-result c = record {
  of_class = (c.requires, omega (arith, c.units.ensures.value, bytes-units c.args.c), c.below.ensures.value);
  small = omega arith;
}
