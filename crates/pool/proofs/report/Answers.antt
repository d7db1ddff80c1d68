-- The totals of the record, which are those of the tables.
use Rattle.ops.proofs.Kit.{ap, row_bytes, done, kept_in, checked, refusing}
use Rattle.model.specs.Answers.{listed}
use Rattle.model.specs.Plans.{reports}
use Rattle.frames.proofs.Calls.{reporting}
use Rattle.mem.proofs.Prelude.{not}
use Rattle.pool.proofs.report.Goals as goal

pub returns-then-not-sound : goal.returns-then-not-sound
returns-then-not-sound c = refusing _ (kept_in _ _) c.sound.ensures reports tt (ap not c.if-not-sound.true)

pub returns : goal.returns
unfolding row_bytes
returns c =
    let a = c.args in
    let r = checked a.arena.now (kept_in a.room.now a.t.now) c.sound.ensures (ap not c.if-not-sound.false) in
    reporting r.form (ap (λ z. done (listed z)) r.counts)
