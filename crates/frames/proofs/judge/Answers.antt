-- The bits of a live block's handle, and then what the inspection tells of it, are what is judged.
use Rattle.mem.proofs.Prelude.{Err, arith, ◌∙◌, ◌≡◌, sym, ap, subst, length, eqb, eq-eqb, ne_eqb, ◌%◌}
use Rattle.mem.proofs.Tests.{choose-true, choose-false}
use Rattle.model.specs.State.{use_bits}
use Rattle.frames.specs.Blocks.{Lies, bits_found, by_damage, judged}
use Rattle.frames.proofs.judge.Goals as goal
use Rattle.frames.proofs.judge.Goals.{After-inspect, In-Present}

pub inspect-requires : goal.inspect-requires
inspect-requires c =
    record { standing = subst (Lies c.args.row.bytes (length c.args.arena.now)) c.in-Present.is c.requires.lies }

-- the bits of the live block that was found
told : (c : In-Present) → use_bits c.in-Present.b.alloc.count ≡ c.bits_found-bits.result
told c = ap bits_found (sym c.in-Present.is) ∙ sym c.bits_found-bits.ensures

-- other bits
pub returns-then-handle-bits : goal.returns-then-handle-bits
returns-then-handle-bits c =
    let a = c.args in
    sym (choose-false (eqb (a.handle % 16) (use_bits c.in-Present.b.alloc.count)) _ _
    (ap (eqb (a.handle % 16)) (told (goal.at.returns-then-handle-bits c).In-Present) ∙ ne_eqb _ _ c.if-handle-bits.true))
    ∙ ap (judged a.row.bytes a.arena.now a.handle) (sym c.in-Present.is)

pub returns-in-Absent : goal.returns-in-Absent
returns-in-Absent c = let a = c.args in ap (judged a.row.bytes a.arena.now a.handle) (sym c.in-Absent.is)

pub returns-in-Freed : goal.returns-in-Freed
returns-in-Freed c = let a = c.args in ap (judged a.row.bytes a.arena.now a.handle) (sym c.in-Freed.is)

-- the bits are those of the block, and it is inspected
inspected : (c : After-inspect) → (let a = c.args in
    by_damage a.row.bytes c.in-Present.b c.inspect.result ≡ judged a.row.bytes a.arena.now a.handle a.found)
inspected c =
    let a = c.args in
    ap (by_damage a.row.bytes c.in-Present.b) c.inspect.ensures
    ∙ sym (choose-true (eqb (a.handle % 16) (use_bits c.in-Present.b.alloc.count)) _ _
    (ap (eqb (a.handle % 16)) (told (goal.at.After-inspect c).In-Present) ∙ eq-eqb _ _ c.if-handle-bits.false))
    ∙ ap (judged a.row.bytes a.arena.now a.handle) (sym c.in-Present.is)

pub returns-in_ok-inspect-in-Present : goal.returns-in_ok-inspect-in-Present
returns-in_ok-inspect-in-Present c =
    ap (by_damage c.args.row.bytes c.in-Present.b) (sym c.in_ok-inspect-in-Present.was) ∙ inspected (goal.at.returns-in_ok-inspect-in-Present c).After-inspect

pub returns-in_err-inspect-in-Present : goal.returns-in_err-inspect-in-Present
returns-in_err-inspect-in-Present c =
    let e : c.from_residual.result ≡ Err c.in_err-inspect-in-Present.field-0.0 = grind arith in
    e ∙ ap (by_damage c.args.row.bytes c.in-Present.b) (sym c.in_err-inspect-in-Present.was) ∙ inspected (goal.at.returns-in_err-inspect-in-Present c).After-inspect
