-- The slot's part becomes the frame.
use Rattle.mem.proofs.Prelude.{◌≡◌, ◌-◌, arith}
use Rattle.mem.proofs.Laws.{put-part}
use Rattle.classes.specs.Classes.{slot_bytes}
use Rattle.model.specs.Blocks.{frame}
use Rattle.model.proofs.Blocks.{frame-length}
use Rattle.blocks.proofs.Framed.enframe_at.Goals as goal

pub returns : goal.returns
returns c =
    let a = c.args in
    let b = a.self in
    let e : a.end - a.at ≡ slot_bytes b.class = omega arith in
    rw (e, c.enframe.ensures)
    (put-part a.at (slot_bytes b.class) (frame b.class b.slot b.disp b.size) a.arena.now (frame-length b.class b.slot b.disp b.size b.fits) (omega arith))
