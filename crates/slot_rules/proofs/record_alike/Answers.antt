-- `record_alike` meets its contract: the code is the definition, with a mask for the boundary.
use Rattle.mem.proofs.Prelude.{◌+◌, ◌*◌, ◌/◌, arith}
use Rattle.classes.specs.Classes.{size_limit}
use Rattle.classes.proofs.Alignments.{align_least, align_most}
use Rattle.slot_rules.specs.Rules.{alike_checked}
use Rattle.slot_rules.proofs.Alike.{boundary_mask}
use Rattle.slot_rules.proofs.record_alike.Goals as goal

pub overflow_sub-enlarged : goal.overflow_sub-enlarged
overflow_sub-enlarged c = omega (arith, align_least c.args.align.code (omega arith))

pub overflow_add-enlarged : goal.overflow_add-enlarged
overflow_add-enlarged c = omega (arith, align_most c.args.align.code (omega arith) (omega arith))

pub overflow_add-own_class : goal.overflow_add-own_class
overflow_add-own_class c = omega (arith, align_most c.args.align.code (omega arith) (omega arith))

pub overflow_sub-aligned : goal.overflow_sub-aligned
overflow_sub-aligned c = omega (arith, align_least c.args.align.code (omega arith))

pub returns : goal.returns
unfolding alike_checked size_limit
returns c =
    let a = c.args in
    rw (boundary_mask (a.begin + 16 * (a.r.lo / 65536)) a.align.code a.align.bytes c.args.align.lawful.2, c.args.align.lawful.2)
