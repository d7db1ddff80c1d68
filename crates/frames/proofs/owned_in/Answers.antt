-- The number of a slot is below 31, so its bytes before it fit.
use Rattle.mem.proofs.Prelude.{◌<◌, ◌≤◌, ◌*◌, arith}
use Rattle.classes.proofs.Laws.{few_bytes, small_product, bytes-units, units_small}
use Rattle.frames.proofs.owned_in.Goals as goal
use Rattle.frames.proofs.owned_in.Goals.{Start}

-- the bytes before the group, and those of the slots before this one
before : (s : Start) → let a = s.args in a.row.bytes * a.b.first ≤ 524288
before s = few_bytes s.args.row.bytes s.args.b.first (omega (arith, s.args.row.lawful)) (omega (arith, s.requires.class_bound))

within : (s : Start) → s.args.b.slot * s.args.bytes < 4063232
within s =
    let c = s.args.b.class in
    small_product s.args.b.slot s.args.bytes (omega (arith, s.requires.class_bound)) (omega (arith, s.requires.class_bound.3, bytes-units c, units_small c))

pub returns : goal.returns
returns c =
    record { value = rw c.requires.class_bound.3; small = omega (arith, before (goal.at.returns c).Start, within (goal.at.returns c).Start) }

pub overflow_mul-result : goal.overflow_mul-result
overflow_mul-result c = omega (arith, before (goal.at.overflow_mul-result c).Start)

pub overflow_add-result : goal.overflow_add-result
overflow_add-result c = omega (arith, before (goal.at.overflow_add-result c).Start)

pub overflow_mul-result-2 : goal.overflow_mul-result-2
overflow_mul-result-2 c = omega (arith, within (goal.at.overflow_mul-result-2 c).Start)

pub overflow_add-result-2 : goal.overflow_add-result-2
overflow_add-result-2 c = omega (arith, before (goal.at.overflow_add-result-2 c).Start, within (goal.at.overflow_add-result-2 c).Start)
