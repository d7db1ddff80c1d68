-- The slot's bytes or the group's rows are cleared, as what is left of the group says.
use Rattle.mem.proofs.Prelude.{◌∙◌, ◌≡◌, sym, length}
use Rattle.model.specs.State.{Place}
use Rattle.model.specs.Plans.{release_at, totals}
use Rattle.model.specs.Tables.{masks_layout}
use Rattle.rows.specs.Rows.{Holds}
use Rattle.rows.proofs.Rooms.{by_masks}
use Rattle.totals.specs.Changes.{Small, Drops}
use Rattle.changes.specs.declared.Left.TheVariants.{Kept, Dropped}
use Rattle.changes.specs.Changes.{left_as}
use Rattle.frames.specs.Blocks.{Standing}
use Rattle.ops.proofs.Counts.{kept_live, dropped-none, given_counts, dropped_counts}
use Rattle.frames.proofs.Places.{held_stands}
use Rattle.frames.proofs.Plans.{kept_writes, dropped-writes}
use Rattle.ops.proofs.discard.Goals as goal
use Rattle.ops.proofs.discard.Goals.{After-rows, In-Dropped, In-Kept, Start}

stands : (s : Start) → Standing s.args.row.bytes (length s.args.arena.now) s.args.b
stands s = held_stands (by_masks s.requires.room_value.0 s.args.row.lawful) s.requires.holds.1

-- what is left of the group, as the code is told it
kept : (c : In-Kept) (p : Place) → (Holds masks_layout c.args.row.bytes c.args.room.now c.args.b p → Kept ≡ left_as p)
kept c p h = sym c.in-Kept.is ∙ (c.give_slot.ensures p h).0

gone : (c : In-Dropped) (p : Place) → (Holds masks_layout c.args.row.bytes c.args.room.now c.args.b p → Dropped c.in-Dropped.ready c.in-Dropped.waiting ≡ left_as p)
gone c p h = sym c.in-Dropped.is ∙ (c.give_slot.ensures p h).0

pub given-requires : goal.given-requires
given-requires c =
    let h = c.requires.holds in
    let d = given_counts h.1 c.args.t.now c.requires.room_value.1 (kept (goal.at.given-requires c).In-Kept h.0 h.1) in
    (_, d.0, d.1)

-- over what the call gives of the class
drops : (c : After-rows) (p : Place) → ((h : Holds masks_layout c.args.row.bytes c.args.room.now c.args.b p)
    → let z = totals c.args.row.bytes (release_at c.args.row.bytes p).pool in
    Drops c.args.b.alloc.size c.rows.result c.in-Dropped.ready c.in-Dropped.waiting c.args.t.now z × Small z)
drops c p h =
    rw c.rows.ensures.value (dropped_counts h c.args.t.now c.requires.room_value.1 _ _ (gone (goal.at.After-rows c).In-Dropped p h))

pub dropped-requires : goal.dropped-requires
dropped-requires c =
    let h = c.requires.holds in
    let d = drops c h.0 h.1 in
    (_, d.0, d.1)

pub returns-in-Kept : goal.returns-in-Kept
returns-in-Kept c p h =
    let a = c.args in (
      c.clear_slot.ensures ∙ kept_writes h a.arena.now (kept_live p (kept (goal.at.returns-in-Kept c).In-Kept p h)),
      (c.give_slot.ensures p h).1,
      c.given.ensures _ (given_counts h a.t.now c.requires.room_value.1 (kept (goal.at.returns-in-Kept c).In-Kept p h)).0,
    )

pub returns-in-Dropped : goal.returns-in-Dropped
returns-in-Dropped c p h =
    let a = c.args in (
      c.clear_group.ensures ∙ dropped-writes h a.arena.now (dropped-none p _ _ (gone (goal.at.returns-in-Dropped c).In-Dropped p h)).0,
      (c.give_slot.ensures p h).1,
      c.dropped.ensures _ (drops (goal.at.returns-in-Dropped c).After-rows p h).0,
    )

pub clear_slot-requires : goal.clear_slot-requires
clear_slot-requires c = record { standing = stands (goal.at.clear_slot-requires c).Start }

pub clear_group-requires : goal.clear_group-requires
clear_group-requires c = record { standing = stands (goal.at.clear_group-requires c).Start }

pub rows-requires : goal.rows-requires
rows-requires c = record { c_bound = (stands (goal.at.rows-requires c).Start).class }
