-- Its three writes make the frame.
use Rattle.mem.proofs.Prelude.{◌∙◌}
use Rattle.blocks.proofs.Laws.{frame-put}
use Rattle.blocks.proofs.Framed.enframe.Goals as goal

pub returns : goal.returns
returns c =
    let b = c.args.self in
    c.write_spare.ensures ∙ rw (c.write_header.ensures, c.fill_zero.ensures, c.requires) (frame-put b.class b.slot b.disp b.size b.fits)
