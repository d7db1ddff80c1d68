-- By what is located.
use Rattle.plain.proofs.Kit.{◌∙◌, ◌≡◌, sym, Err, arith, row_bytes, Sound, checked, refusing, Called, called_at, called_refused, holds, whole}
use Rattle.model.specs.Plans.{releases, release_at}
use Rattle.frames.proofs.Calls.{releasing, release_names, release-done}
use Rattle.mem.proofs.Prelude.{ap, not}
use Rattle.plain.proofs.release.Goals as goal
use Rattle.plain.proofs.release.Goals.{Else-not-sound, In_ok-b}

pub returns-then-not-sound : goal.returns-then-not-sound
returns-then-not-sound c = refusing _ _ c.sound.ensures (releases _) tt (ap not c.if-not-sound.true)

-- the tables are sound
lent : (c : Else-not-sound) → (let a = c.args in Sound a.arena.now a.room.now)
lent c = checked _ _ c.sound.ensures (ap not c.if-not-sound.false)

-- the block that is located, and its place
block : (c : In_ok-b) → (Called (lent (goal.at.In_ok-b c).Else-not-sound) c.args.handle (release_at row_bytes) (release_names row_bytes) c.in_ok-b.b)
unfolding row_bytes
block c = called_at _ _ _ _ _ (sym c.in_ok-b.was ∙ c.locate.ensures)

pub discard-requires : goal.discard-requires
unfolding row_bytes
discard-requires c = record { room_value = (lent (goal.at.discard-requires c).Else-not-sound).sound; holds = ((block (goal.at.discard-requires c).In_ok-b).place, holds _ (block (goal.at.discard-requires c).In_ok-b)) }

pub returns : goal.returns
unfolding row_bytes
returns c =
    let r = lent (goal.at.returns c).Else-not-sound in
    let d = c.discard.ensures (block (goal.at.returns c).In_ok-b).place (holds r (block (goal.at.returns c).In_ok-b)) in
    whole (sym (release-done row_bytes (block (goal.at.returns c).In_ok-b).place)) d.0 d.1 ∙ sym (releasing r _ ∙ (block (goal.at.returns c).In_ok-b).result)

pub returns-in_err-b : goal.returns-in_err-b
unfolding row_bytes
returns-in_err-b c =
    let h = c.args.handle in
    let e : c.from_residual.result ≡ Err c.in_err-b.field-0.0 = grind arith in
    rw e
    (sym (releasing (lent (goal.at.returns-in_err-b c).Else-not-sound) h ∙ called_refused (lent (goal.at.returns-in_err-b c).Else-not-sound) h (release_at row_bytes) (release_names row_bytes) c.in_err-b.field-0.0
    (sym c.in_err-b.was ∙ c.locate.ensures)))
