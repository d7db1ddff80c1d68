-- It compares what the definition does, where there is something to compare.
use Rattle.mem.proofs.Prelude.{◌∙◌, ◌≡◌, true, ◌&&◌, ◌+◌, ◌*◌, ◌-◌}
use Rattle.mem.proofs.Prelude.{arith, eq-eqb, ne_eqb, eqb, length, get_or}
use Rattle.mem.specs.Bytes.{part, same}
use Rattle.mem.proofs.Laws.{part-cons}
use Rattle.classes.specs.Classes.{slot_bytes}
use Rattle.model.specs.Blocks.{reserved, guard, guard_right}
use Rattle.model.proofs.Blocks.{first_spare_lem, first-none, guard_none, guard-length}
use Rattle.blocks.proofs.Framed.guard_right.Goals as goal
use Rattle.blocks.proofs.Framed.guard_right.Goals.{Else-r-eq0}

-- with a reserved byte or more, the first is compared, which the code reads, and the guard
first_byte : (c : Else-r-eq0) → (let b = c.args.self in let s = c.args.slot.now in
    let g = guard (reserved b.class b.disp b.size) in
    guard_right b.class b.disp b.size s
    ≡ ((eqb (get_or s (length s - c.reserved-r.result) 0) 0 && true) && same (part (slot_bytes b.class - length g) (length g) s) g))
unfolding guard_right
first_byte c =
    let b = c.args.self in
    let s = c.args.slot.now in
    let at = 16 * b.disp + 4 + b.size in
    let q : length s - c.reserved-r.result ≡ at = omega (arith, b.fits) in
    rw (q, first_spare_lem (reserved b.class b.disp b.size) (omega arith), part-cons at 0 s 0 (omega arith))

pub returns-then-r-eq0 : goal.returns-then-r-eq0
unfolding guard_right
returns-then-r-eq0 c =
    let b = c.args.self in
    let r = reserved b.class b.disp b.size in
    rw (first-none r (omega arith), guard_none r (omega arith))

pub returns-then-slot-end-ne0 : goal.returns-then-slot-end-ne0
returns-then-slot-end-ne0 c = rw (first_byte (goal.at.returns-then-slot-end-ne0 c).Else-r-eq0, ne_eqb _ 0 c.if-slot-end-ne0.true)

pub returns-then-r-lt5 : goal.returns-then-r-lt5
returns-then-r-lt5 c =
    rw (
      first_byte (goal.at.returns-then-r-lt5 c).Else-r-eq0,
      eq-eqb _ 0 c.if-slot-end-ne0.false,
      ← c.reserved-r.ensures.value,
      guard_none c.reserved-r.result c.if-r-lt5.true,
    )

pub returns : goal.returns
returns c =
    let l = length c.args.slot.now in
    let e : l - (l - 5) ≡ 5 = omega arith in
    c.same_bytes.ensures
    ∙ rw (
      first_byte (goal.at.returns c).Else-r-eq0,
      eq-eqb _ 0 c.if-slot-end-ne0.false,
      e,
      c.guard-g.ensures,
      ← c.reserved-r.ensures.value,
      guard-length c.reserved-r.result c.if-r-lt5.false,
      c.requires,
    )
