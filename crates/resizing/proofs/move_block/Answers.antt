-- By what the check says, and then by what is found for the size.
use Rattle.mem.proofs.Tests.{choose-true}
use Rattle.ops.proofs.Kit.{◌∙◌, ◌≡◌, sym, row_bytes, card_row, card_some, view, kept_in, engine, checked, refusing, size-asked, size-given}
use Rattle.model.specs.Plans.{moves}
use Rattle.model.proofs.Kept.{engine_lawful}
use Rattle.frames.specs.Blocks.{found_for}
use Rattle.frames.proofs.Calls.{move-size, size-refused}
use Rattle.mem.proofs.Prelude.{ap, not, Err, arith}
use Rattle.resizing.proofs.move_block.Goals as goal
use Rattle.resizing.proofs.move_block.Goals.{After-locate_for}

pub returns-then-not-sound : goal.returns-then-not-sound
returns-then-not-sound d = refusing _ _ d.sound.ensures (moves _ _) tt (ap not d.if-not-sound.true)

pub locate_for-requires : goal.locate_for-requires
unfolding row_bytes
locate_for-requires c =
    let a = c.args in
    record { room_value = (checked a.arena.now (kept_in a.room.now a.t.now) c.sound.ensures (ap not c.if-not-sound.false)).room.sound }

-- the tables are sound, so what is located is what is found
found : (c : After-locate_for) → (let a = c.args in
    c.locate_for.result ≡ found_for row_bytes (engine row_bytes) a.arena.now (kept_in a.room.now a.t.now) a.handle a.n)
unfolding row_bytes
found c =
    c.locate_for.ensures ∙ sym (choose-true _ _ _ (sym c.sound.ensures ∙ c.if-not-sound.false))

pub move_block-requires : goal.move_block-requires
unfolding row_bytes
move_block-requires c =
    let a = c.args in let told = size-asked card_row a.arena.now (kept_in a.room.now a.t.now) (move-size row_bytes (view row_bytes a.room.now) a.handle a.n)
    (sym c.in_ok-b.was ∙ found (goal.at.move_block-requires c).After-locate_for) in record { room_value = told.0; holds = told.1.0; askable = told.1.1.0 }

pub returns : goal.returns
unfolding row_bytes
returns c =
    let a = c.args in
    size-given card_row a.arena.now (kept_in a.room.now a.t.now) (move-size row_bytes (view row_bytes a.room.now) a.handle a.n)
    (sym c.in_ok-b.was ∙ found (goal.at.returns c).After-locate_for) c.move_block.ensures

pub returns-in_err-b : goal.returns-in_err-b
returns-in_err-b c =
    let a = c.args in
    let e : c.from_residual.result ≡ Err c.in_err-b.field-0.0 = grind arith in
    rw e (size-refused (engine row_bytes) a.arena.now (kept_in a.room.now a.t.now)
    (move-size row_bytes (view row_bytes a.room.now) a.handle a.n) (engine_lawful row_bytes card_some) card_some c.in_err-b.field-0.0
    (sym c.in_err-b.was ∙ found (goal.at.returns-in_err-b c).After-locate_for))
