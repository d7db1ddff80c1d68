-- By what is located.
use Rattle.ops.proofs.Kit.{◌∙◌, sym, ap, refl, [], ◌∷◌, row_bytes, done, view, kept_in, Checked}
use Rattle.ops.proofs.Kit.{called_at, called_refused, checked, refusing}
use Rattle.model.specs.Plans.{measures, measure_at}
use Rattle.frames.proofs.Calls.{measuring, kept_as}
use Rattle.mem.proofs.Prelude.{◌≡◌, not, Err, arith}
use Rattle.pool.proofs.measure.Goals as goal
use Rattle.pool.proofs.measure.Goals.{Else-not-sound}

pub returns-then-not-sound : goal.returns-then-not-sound
returns-then-not-sound c = refusing _ (kept_in _ _) c.sound.ensures (measures _) tt (ap not c.if-not-sound.true)

-- the tables are sound
lent : (c : Else-not-sound) → (let a = c.args in Checked row_bytes a.arena.now (kept_in a.room.now a.t.now))
lent c = checked _ _ c.sound.ensures (ap not c.if-not-sound.false)

pub locate-requires : goal.locate-requires
unfolding row_bytes
locate-requires c = record { room_value = (lent (goal.at.locate-requires c).Else-not-sound).room.sound }

pub returns : goal.returns
unfolding row_bytes
returns c =
    let r = (lent (goal.at.returns c).Else-not-sound).form in
    let a = c.args in
    let b = called_at r a.handle (measure_at row_bytes (view row_bytes a.room.now)) (λ p. refl) c.in_ok-b.b
    (sym c.in_ok-b.was ∙ c.locate.ensures) in
    kept_as r (ap (λ b'. done (b'.alloc.size ∷ [])) b.block) (measuring r a.handle ∙ b.result)

pub returns-in_err-b : goal.returns-in_err-b
unfolding row_bytes
returns-in_err-b c =
    let r = (lent (goal.at.returns-in_err-b c).Else-not-sound).form in
    let e : c.from_residual.result ≡ Err c.in_err-b.field-0.0 = grind arith in
    rw e (sym (measuring r _ ∙ called_refused r _ (measure_at row_bytes _) (λ p. refl) _ (sym c.in_err-b.was ∙ c.locate.ensures)))
