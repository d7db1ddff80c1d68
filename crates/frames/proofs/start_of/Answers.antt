use Rattle.mem.proofs.Prelude.{arith}
use Rattle.classes.specs.Classes.{slot_bytes}
use Rattle.classes.proofs.Laws.{units_small}
use Rattle.frames.proofs.start_of.Goals as goal

pub overflow_mul-result : goal.overflow_mul-result
unfolding slot_bytes
overflow_mul-result c = omega (arith, units_small c.args.b.class)

pub overflow_add-result-2 : goal.overflow_add-result-2
unfolding slot_bytes
overflow_add-result-2 c = omega (arith, units_small c.args.b.class)

pub returns : goal.returns
unfolding slot_bytes
returns c =
    let o = c.owned_of.ensures in
    record { value = omega (arith, o.value); small = omega (arith, o.small, units_small c.args.b.class) }
