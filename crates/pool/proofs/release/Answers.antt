-- By what is located.
use Rattle.ops.proofs.Kit.{◌∙◌, sym, ap₂, row_bytes, kept_in, Checked, Called, called_at, called_refused}
use Rattle.ops.proofs.Kit.{holds, whole, checked, refusing}
use Rattle.model.specs.Plans.{releases, release_at}
use Rattle.frames.proofs.Calls.{releasing, release_names, release-done}
use Rattle.mem.proofs.Prelude.{◌≡◌, ap, not, Err, arith}
use Rattle.pool.proofs.release.Goals as goal
use Rattle.pool.proofs.release.Goals.{Else-not-sound, In_ok-b}

pub returns-then-not-sound : goal.returns-then-not-sound
returns-then-not-sound d = refusing _ _ d.sound.ensures (releases _) tt (ap not d.if-not-sound.true)

-- the tables are sound
lent : (c : Else-not-sound) → (let a = c.args in Checked row_bytes a.arena.now (kept_in a.room.now a.t.now))
lent c = checked _ _ c.sound.ensures (ap not c.if-not-sound.false)

pub locate-requires : goal.locate-requires
unfolding row_bytes
locate-requires c = record { room_value = (lent (goal.at.locate-requires c).Else-not-sound).room.sound }

-- the block that is located
block : (c : In_ok-b) → (Called (lent (goal.at.In_ok-b c).Else-not-sound).form c.args.handle (release_at row_bytes) (release_names row_bytes) c.in_ok-b.b)
unfolding row_bytes
block c = called_at _ _ _ _ _ (sym c.in_ok-b.was ∙ c.locate.ensures)

pub discard-requires : goal.discard-requires
unfolding row_bytes
discard-requires c =
    let r = lent (goal.at.discard-requires c).Else-not-sound in
    record { room_value = (r.room.sound, r.counts); holds = ((block (goal.at.discard-requires c).In_ok-b).place, holds r (block (goal.at.discard-requires c).In_ok-b)) }

pub returns : goal.returns
unfolding row_bytes
returns c =
    let d = c.discard.ensures (block (goal.at.returns c).In_ok-b).place (holds (lent (goal.at.returns c).Else-not-sound) (block (goal.at.returns c).In_ok-b)) in
    whole (sym (release-done row_bytes (block (goal.at.returns c).In_ok-b).place)) d.0 (ap₂ kept_in d.1 d.2)
    ∙ sym (releasing (lent (goal.at.returns c).Else-not-sound).form c.args.handle ∙ (block (goal.at.returns c).In_ok-b).result)

pub returns-in_err-b : goal.returns-in_err-b
unfolding row_bytes
returns-in_err-b d =
    let h = d.args.handle in
    let r = (lent (goal.at.returns-in_err-b d).Else-not-sound).form in
    let e : d.from_residual.result ≡ Err d.in_err-b.field-0.0 = grind arith in
    rw e (sym (releasing r h ∙ called_refused r h (release_at row_bytes) (release_names row_bytes) d.in_err-b.field-0.0 (sym d.in_err-b.was ∙ d.locate.ensures)))
