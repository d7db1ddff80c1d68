-- `units` reads the table; the bounds are laws of it.
use Rattle.mem.proofs.Prelude.{refl, arith}
use Rattle.classes.specs.Classes.{units_of}
use Rattle.classes.proofs.Laws.{units_pos, units_small}
use Rattle.classes.proofs.units.Goals as goal

pub returns : goal.returns
unfolding units_of
returns c = record { value = refl; small = (units_pos c.args.c c.requires, omega (arith, units_small c.args.c)) }
