-- `slots` computes the definition, with the units that `units` gives.
use Rattle.mem.proofs.Prelude.{◌≡◌, ap, ℕ, ◌*◌, ◌/◌, arith}
use Rattle.classes.specs.Classes.{units_of, slot_bytes, slots_of}
use Rattle.classes.proofs.slots.Goals as goal

-- the quotient
parts : (u c : ℕ) → u ≡ units_of c → 4080 / (16 * u) ≡ 4080 / slot_bytes c
unfolding slot_bytes
parts u c e = ap (λ (v : ℕ). 4080 / (16 * v)) e

pub returns-then-n-lt1 : goal.returns-then-n-lt1
unfolding slots_of
returns-then-n-lt1 c = omega (arith, parts c.units.result c.args.c c.units.ensures.value)

pub returns-then-n-gt31 : goal.returns-then-n-gt31
unfolding slots_of
returns-then-n-gt31 c = omega (arith, parts c.units.result c.args.c c.units.ensures.value)

pub returns : goal.returns
unfolding slots_of
returns c = omega (arith, parts c.units.result c.args.c c.units.ensures.value)
