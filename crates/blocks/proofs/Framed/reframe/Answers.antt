-- Its two last writes are one.
use Rattle.mem.proofs.Prelude.{◌∙◌, ◌≡◌, sym, ◌+◌, ◌*◌, ◌-◌, arith, length}
use Rattle.mem.specs.Bytes.{zeros, put}
use Rattle.mem.proofs.Laws.{put-append, zeros-length}
use Rattle.model.specs.Blocks.{reserved, header, spare}
use Rattle.blocks.proofs.Framed.reframe.Goals as goal

pub returns : goal.returns
returns c =
    let b = c.args.self in
    let from = 16 * b.disp + 4 + c.args.kept in
    let e : 16 * b.disp + 4 + b.size - from ≡ b.size - c.args.kept = omega arith in
    let f : 16 * b.disp + 4 + b.size ≡ from + length (zeros (b.size - c.args.kept)) = omega (arith, zeros-length (b.size - c.args.kept)) in
    c.write_spare.ensures
    ∙ rw (c.clear.ensures, c.write_header.ensures, e, f)
    (sym
    (put-append from (zeros (b.size - c.args.kept)) (spare (reserved b.class b.disp b.size))
    (put (16 * b.disp) (header b.class b.slot b.disp b.size) c.args.slot.now)))
