-- The slot's bytes, by its class.
use Rattle.mem.proofs.Prelude.{arith}
use Rattle.classes.proofs.Laws.{bytes-units}
use Rattle.frames.proofs.owned_of.Goals as goal

pub owned_in-requires : goal.owned_in-requires
owned_in-requires c =
    record { class_bound = (c.requires.class_bound.0, c.requires.class_bound.1, c.requires.class_bound.2, omega (arith, c.units.ensures.value, bytes-units c.args.b.class)) }

pub overflow_mul-units : goal.overflow_mul-units
overflow_mul-units c = omega (arith, c.units.ensures.small)
