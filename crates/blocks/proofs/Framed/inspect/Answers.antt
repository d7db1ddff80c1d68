-- Its two tests are those of the definition.
use Rattle.mem.proofs.Prelude.{◌∙◌, ◌≡◌, ◌+◌, ◌*◌, ◌-◌, arith, Ok, Err}
use Rattle.mem.specs.Lists.{choose}
use Rattle.model.specs.declared.Refusal.TheVariants.{Overrun}
use Rattle.model.specs.Blocks.{header_right, damage_in}
use Rattle.blocks.proofs.Framed.inspect.Goals as goal
use Rattle.blocks.proofs.Framed.inspect.Goals.{After-guard_right, After-same_bytes}

header_test : (c : After-same_bytes) → (let b = c.args.self in
    c.same_bytes.result ≡ header_right b.class b.slot b.disp b.size c.args.slot.now)
unfolding header_right
header_test c =
    let at = 16 * c.args.self.disp in
    let e : at + 4 - at ≡ 4 = omega arith in
    c.same_bytes.ensures ∙ rw (e, c.header-h.ensures)

-- with the header right, the guard decides
passed : (c : After-guard_right) → (let b = c.args.self in
    damage_in b.class b.slot b.disp b.size c.args.slot.now ≡ choose c.guard_right.result (Ok tt) (Err Overrun))
unfolding damage_in choose
passed c =
    rw (← header_test (goal.at.After-guard_right c).After-same_bytes, c.if-not-same_bytes.false, c.guard_right.ensures)

pub returns-then-not-same_bytes : goal.returns-then-not-same_bytes
unfolding damage_in choose
returns-then-not-same_bytes c = rw (← header_test (goal.at.returns-then-not-same_bytes c).After-same_bytes, c.if-not-same_bytes.true)

pub returns-then-not-guard_right : goal.returns-then-not-guard_right
unfolding choose
returns-then-not-guard_right c = rw (passed (goal.at.returns-then-not-guard_right c).After-guard_right, c.if-not-guard_right.true)

pub returns : goal.returns
unfolding choose
returns c = rw (passed (goal.at.returns c).After-guard_right, c.if-not-guard_right.false)
