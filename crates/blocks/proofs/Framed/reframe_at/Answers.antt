-- What is written into the slot's part is written into the arena.
use Rattle.mem.proofs.Prelude.{◌∙◌, ◌≡◌, sym, ap, List, ◌++◌, ◌+◌, ℕ, ◌≤◌, ◌*◌}
use Rattle.mem.proofs.Prelude.{◌-◌, arith, length, drop, length-append, take}
use Rattle.mem.proofs.Prelude.{take-append-drop, length-take-le}
use Rattle.mem.specs.Bytes.{zeros, part, put}
use Rattle.mem.proofs.Laws.{part_length, put-length, put_middle, zeros-length}
use Rattle.classes.specs.Classes.{slot_bytes}
use Rattle.model.specs.Blocks.{reserved, header, spare}
use Rattle.model.proofs.Blocks.{header-length, spare-length}
use Rattle.blocks.proofs.Framed.reframe_at.Goals as goal

-- two writes into a part, which is then back in its place
into : (at k x y : ℕ) (v w s : List ℕ) → at + k ≤ length s → x + length v ≤ k → y + length w ≤ k
    → take at s ++ (put x v (put y w (part at k s)) ++ drop k (drop at s)) ≡ put (at + x) v (put (at + y) w s)
into at k x y v w s h f g =
    let front = length-take-le at s (omega arith) in
    let mid = part_length at k s h in
    let whole : take at s ++ (part at k s ++ drop k (drop at s)) ≡ s = rw (take-append-drop, take-append-drop) in
    sym
    (put_middle at x v (take at s) (put y w (part at k s)) (drop k (drop at s)) front (omega (arith, put-length y w (part at k s))))
    ∙ ap (put (at + x) v) (sym (put_middle at y w (take at s) (part at k s) (drop k (drop at s)) front (omega arith)))
    ∙ ap (λ (l : List ℕ). put (at + x) v (put (at + y) w l)) whole

pub returns : goal.returns
returns c =
    let a = c.args in
    let b = a.self in
    let r = reserved b.class b.disp b.size in
    let tail = zeros (b.size - a.kept) ++ spare r in
    let h = header b.class b.slot b.disp b.size in
    let l : length tail ≡ b.size - a.kept + r = rw (length-append, zeros-length, spare-length) in
    let e : a.at + c.bytes.result - a.at ≡ slot_bytes b.class = omega arith in
    rw (c.reframe.ensures, e)
    (into a.at (slot_bytes b.class) (16 * b.disp + 4 + a.kept) (16 * b.disp) tail h a.arena.now c.requires.at_bound (omega (arith, b.fits))
    (omega (arith, b.fits, header-length b.class b.slot b.disp b.size)))
