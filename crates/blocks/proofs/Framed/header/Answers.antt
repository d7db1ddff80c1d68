use Rattle.mem.proofs.Prelude.{◌≡◌, ℕ, ◌≤◌, ◌+◌, ◌*◌, ◌/◌, min, arith}
use native.Mathlib.Nat.{mul-le-mul}
use Rattle.classes.specs.Classes.{slot_bytes, units_of}
use Rattle.classes.proofs.Laws.{bytes-units}
use Rattle.model.specs.Blocks.{reserved, header}
use Rattle.blocks.specs.declared.Framed.{Framed}
use Rattle.blocks.proofs.Laws.{bytes_small}
use Rattle.blocks.proofs.Framed.header.Goals as goal

-- the units from the group's first slot to the header are few
few : (b : Framed) (s : ℕ) → s ≡ slot_bytes b.class → b.slot * (s / 16) + b.disp ≤ 270336
few b s e =
    let m : b.slot * (s / 16) ≤ 32 * 8192 = mul-le-mul {n₂ = 32} {m₂ = 8192} (omega (arith, b.slot_bound)) (omega (arith, bytes_small b.class)) in
    omega (arith, b.fits, bytes_small b.class)

pub overflow_mul-place : goal.overflow_mul-place
overflow_mul-place c = omega (arith, few c.args.self c.args.bytes c.requires)

pub overflow_add-place : goal.overflow_add-place
overflow_add-place c = omega (arith, few c.args.self c.args.bytes c.requires)

pub overflow_cast-place : goal.overflow_cast-place
overflow_cast-place c = omega (arith, few c.args.self c.args.bytes c.requires)

pub returns : goal.returns
unfolding header
returns c =
    let b = c.args.self in
    let u : c.args.bytes / 16 ≡ units_of b.class = omega (arith, bytes-units b.class) in
    let m : c.min.result ≡ min 5 (reserved b.class b.disp b.size) = omega arith in
    rw (c.to_le_bytes.ensures, u, m)
