use Rattle.mem.proofs.Prelude.{◌≡◌, ◌/◌, arith}
use Rattle.model.proofs.Blocks.{guard-bytes}
use Rattle.blocks.proofs.guard.Goals as goal

pub returns : goal.returns
returns c =
    let r = c.args.r in
    let e : r / 65536 ≡ r / 256 / 256 = omega arith in
    let f : r / 16777216 ≡ r / 256 / 256 / 256 = omega arith in
    rw (c.to_le_bytes.ensures, e, f, guard-bytes r c.requires.0)
