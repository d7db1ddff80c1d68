-- Zeros, then the guard over their end, if there is one.
use Rattle.mem.proofs.Prelude.{◌∙◌, ◌≡◌, ◌+◌, ◌*◌, ◌-◌, arith, length}
use Rattle.mem.specs.Bytes.{zeros, put}
use Rattle.model.proofs.Blocks.{spare_bare}
use Rattle.blocks.proofs.Laws.{spare-put}
use Rattle.blocks.proofs.Framed.write_spare.Goals as goal
use Rattle.blocks.proofs.Framed.write_spare.Goals.{After-clear}

cleared : (c : After-clear) → (let a = c.args in
    c.clear.new.s ≡ put (16 * a.self.disp + 4 + a.self.size) (zeros c.reserved-r.result) a.slot.now)
cleared c =
    let a = c.args in
    let l = length a.slot.now in
    let r = c.reserved-r.result in
    let e : l - (l - r) ≡ r = omega arith in
    let f : l - r ≡ 16 * a.self.disp + 4 + a.self.size = omega (arith, a.self.fits) in
    c.clear.ensures ∙ rw (e, f)

pub returns-then-r-lt5 : goal.returns-then-r-lt5
returns-then-r-lt5 c =
    cleared (goal.at.returns-then-r-lt5 c).After-clear ∙ rw (← c.reserved-r.ensures.value, spare_bare c.reserved-r.result c.if-r-lt5.true)

pub returns : goal.returns
returns c =
    let b = c.args.self in
    let r = c.reserved-r.result in
    let e : length c.args.slot.now - 5 ≡ 16 * b.disp + 4 + b.size + (r - 5) = omega arith in
    c.copy_in.ensures
    ∙ rw (c.guard-g.ensures, cleared (goal.at.returns c).After-clear, e, ← c.reserved-r.ensures.value)
    (spare-put (16 * b.disp + 4 + b.size) r c.args.slot.now c.if-r-lt5.false)
