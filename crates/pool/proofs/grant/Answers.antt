-- An ordinary grant.
use Rattle.ops.proofs.Kit.{lit≤, row_bytes, kept_in, Checked, called, carried_as, checked, refusing}
use Rattle.model.specs.Plans.{grants}
use Rattle.frames.proofs.Calls.{grant-does}
use Rattle.mem.proofs.Prelude.{ap, not}
use Rattle.pool.proofs.grant.Goals as goal
use Rattle.pool.proofs.grant.Goals.{Else-not-sound}

pub returns-then-not-sound : goal.returns-then-not-sound
returns-then-not-sound d = refusing _ _ d.sound.ensures (grants _) tt (ap not d.if-not-sound.true)

-- the tables are sound
lent : (c : Else-not-sound) → (let a = c.args in Checked row_bytes a.arena.now (kept_in a.room.now a.t.now))
lent c = checked _ _ c.sound.ensures (ap not c.if-not-sound.false)

pub grant_as-requires : goal.grant_as-requires
unfolding row_bytes
grant_as-requires c = record { totals_value = (lent (goal.at.grant_as-requires c).Else-not-sound).form.sound; code_in_range = (lit≤ tt, lit≤ tt) }

pub returns : goal.returns
unfolding row_bytes
returns c =
    let n = c.args.n in
    carried_as c.grant_as.ensures (called (lent (goal.at.returns c).Else-not-sound).form (grants n) _ (grant-does (lent (goal.at.returns c).Else-not-sound).form n))
