-- What is left of a group when a slot is given back.
use Rattle.std.specs.Prelude.{◌∷◌, ◌++◌}
use Rattle.mem.specs.Lists.{choose, any, sum}
use Rattle.mem.specs.Bytes.{bit}
use Rattle.model.specs.State.{Place, is_ready, is_waiting, is_live}
use Rattle.changes.specs.declared.Left.{Left}
use Rattle.changes.specs.declared.Left.TheVariants.{Kept, Dropped}

abbrev pub left_as : Place → Left
left_as p =
    let held = p.lower ++ (p.state ∷ p.upper) in
    choose (any is_live (p.lower ++ p.upper)) Kept (Dropped (sum (λ x. bit (is_ready x)) held) (sum (λ x. bit (is_waiting x)) held))
