-- By what the check says, and then by what is located for the size.
use Rattle.plain.proofs.Kit.{◌∙◌, sym, row_bytes, checked}
use Rattle.mem.proofs.Tests.{choose-true, choose-false}
use Rattle.mem.proofs.Prelude.{ap, not}
use Rattle.plain.proofs.find.Goals as goal

pub returns-then-not-sound : goal.returns-then-not-sound
unfolding row_bytes
returns-then-not-sound c = sym (choose-false _ _ _ (sym c.sound.ensures ∙ c.if-not-sound.true))

pub locate_for-requires : goal.locate_for-requires
unfolding row_bytes
locate_for-requires c =
    let a = c.args in
    record { room_value = (checked a.arena.now a.room.now c.sound.ensures (ap not c.if-not-sound.false)).sound }

pub returns : goal.returns
unfolding row_bytes
returns c =
    c.locate_for.ensures ∙ sym (choose-true _ _ _ (sym c.sound.ensures ∙ c.if-not-sound.false))
