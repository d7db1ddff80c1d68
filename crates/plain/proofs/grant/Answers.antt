-- An ordinary grant.
use Rattle.plain.proofs.Kit.{lit≤, row_bytes, Sound, checked, refusing, called, carried_as}
use Rattle.model.specs.Plans.{grants}
use Rattle.frames.proofs.Calls.{grant-does}
use Rattle.mem.proofs.Prelude.{ap, not}
use Rattle.plain.proofs.grant.Goals as goal
use Rattle.plain.proofs.grant.Goals.{Else-not-sound}

pub returns-then-not-sound : goal.returns-then-not-sound
returns-then-not-sound c = refusing _ _ c.sound.ensures (grants _) tt (ap not c.if-not-sound.true)

-- the tables are sound
lent : (c : Else-not-sound) → (let a = c.args in Sound a.arena.now a.room.now)
lent c = checked _ _ c.sound.ensures (ap not c.if-not-sound.false)

pub grant_as-requires : goal.grant_as-requires
unfolding row_bytes
grant_as-requires c = record { room_value = (lent (goal.at.grant_as-requires c).Else-not-sound).sound; code_in_range = (lit≤ tt, lit≤ tt) }

pub returns : goal.returns
unfolding row_bytes
returns c =
    let r = lent (goal.at.returns c).Else-not-sound in
    carried_as c.grant_as.ensures (called r (grants _) _ (grant-does r _))
