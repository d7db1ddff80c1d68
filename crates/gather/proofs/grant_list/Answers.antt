-- Test by test, in the order of the answers; then all sizes are granted.
use Rattle.mem.proofs.Prelude.{sym, ap₂}
use Rattle.classes.specs.Classes.{row_bytes}
use Rattle.model.specs.Calls.{kept_in}
use Rattle.ops.proofs.Calls.{Checked, checked, refusing}
use Rattle.model.specs.declared.Refusal.TheVariants.{Unsound}
use Rattle.model.specs.Proposals.{entries}
use Rattle.model.specs.Plans.{grants_list}
use Rattle.frames.proofs.Listed.{Proposal, proposal, passing, refused-list, not-plannable, few_places, not_accepted, not_fitting, granted-list}
use Rattle.frames.proofs.Listed.{small-sizes, few_sizes}
use Rattle.mem.proofs.Prelude.{ap, not}
use Rattle.gather.proofs.grant_list.Goals as goal
use Rattle.gather.proofs.grant_list.Goals.{Else-not-accepts, Else-not-sound}

pub returns-then-not-sound : goal.returns-then-not-sound
returns-then-not-sound d = (refused-list Unsound _ (sym (refusing _ _ d.sound.ensures (grants_list _ _ _ _) tt
    (ap not d.if-not-sound.true))))

-- the tables are sound
lent : (c : Else-not-sound) → (let a = c.args in
    Checked row_bytes a.arena.now (kept_in a.room.now a.t.now))
lent c = checked _ _ c.sound.ensures (ap not c.if-not-sound.false)

pub returns-then-not-plannable : goal.returns-then-not-plannable
unfolding row_bytes
returns-then-not-plannable z =
    (not-plannable (lent (goal.at.returns-then-not-plannable z).Else-not-sound).form _ _ _ _ z.plannable.ensures (ap not z.if-not-plannable.true))

pub returns-then-handles-lt-ENTRIES : goal.returns-then-handles-lt-ENTRIES
unfolding row_bytes entries
returns-then-handles-lt-ENTRIES z =
    (few_places (lent (goal.at.returns-then-handles-lt-ENTRIES z).Else-not-sound).form _ _ _ _ z.if-handles-lt-ENTRIES.true)

pub returns-then-not-accepts : goal.returns-then-not-accepts
unfolding row_bytes entries
returns-then-not-accepts z =
    (not_accepted _ _ _ z.plannable.ensures (ap not z.if-not-plannable.false) z.if-handles-lt-ENTRIES.false
    (lent (goal.at.returns-then-not-accepts z).Else-not-sound).form _ z.accepts.ensures (ap not z.if-not-accepts.true))

-- the list is short enough and has its places, and the proposal is accepted
right : (c : Else-not-accepts) → (let a = c.args in
    Proposal a.total a.cap a.handles.now a.sizes.now)
unfolding entries
right c =
    proposal _ _ _ c.plannable.ensures (ap not c.if-not-plannable.false) c.if-handles-lt-ENTRIES.false c.accepts.ensures (ap not c.if-not-accepts.false)

pub fits-requires : goal.fits-requires
unfolding row_bytes
fits-requires c = record { room_value = (lent (goal.at.fits-requires c).Else-not-sound).room.sound; small_sizes = small-sizes (right (goal.at.fits-requires c).Else-not-accepts) }

pub returns-then-not-fits : goal.returns-then-not-fits
unfolding row_bytes
returns-then-not-fits z =
    (not_fitting (lent (goal.at.returns-then-not-fits z).Else-not-sound).form (right (goal.at.returns-then-not-fits z).Else-not-accepts) z.fits.ensures
    (ap not z.if-not-fits.true))

pub grant_all-requires : goal.grant_all-requires
unfolding row_bytes
grant_all-requires c =
    let p = right (goal.at.grant_all-requires c).Else-not-accepts in
    let r = lent (goal.at.grant_all-requires c).Else-not-sound in
    record { room_value = r.room.sound; small_sizes = (small-sizes p, few_sizes p); room_enough = (passing c.fits.ensures (ap not c.if-not-fits.false), r.counts) }

pub returns : goal.returns
unfolding row_bytes
returns c =
    let g = c.grant_all.ensures in
    granted-list (lent (goal.at.returns c).Else-not-sound).form (right (goal.at.returns c).Else-not-accepts)
    c.fits.ensures (ap not c.if-not-fits.false) g.handles_after g.arena_after (ap₂ kept_in g.room_after g.totals_after)
