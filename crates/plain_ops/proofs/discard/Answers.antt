-- The slot's bytes or the group's rows are cleared, as the group stays or goes.
use Rattle.mem.proofs.Prelude.{◌∙◌, sym, length}
use Rattle.frames.specs.Blocks.{Standing}
use Rattle.frames.proofs.Places.{held_stands}
use Rattle.frames.proofs.Plans.{kept_writes, dropped-writes}
use Rattle.plain_tables.proofs.Rooms.{by_slots}
use Rattle.plain_ops.proofs.discard.Goals as goal
use Rattle.plain_ops.proofs.discard.Goals.{Start}

stands : (s : Start) → Standing s.args.row.bytes (length s.args.arena.now) s.args.b
stands s = held_stands (by_slots s.requires.room_value s.args.row.lawful) s.requires.holds.1

pub returns-then-give_slot : goal.returns-then-give_slot
returns-then-give_slot c p h =
    let a = c.args in
    let e = c.give_slot.ensures p h in
    (c.clear_slot.ensures ∙ kept_writes h a.arena.now (sym e.0 ∙ c.if-give_slot.true), e.1)

pub returns : goal.returns
returns c p h =
    let a = c.args in
    let e = c.give_slot.ensures p h in
    (c.clear_group.ensures ∙ dropped-writes h a.arena.now (sym e.0 ∙ c.if-give_slot.false), e.1)

pub clear_slot-requires : goal.clear_slot-requires
clear_slot-requires c = record { standing = stands (goal.at.clear_slot-requires c).Start }

pub clear_group-requires : goal.clear_group-requires
clear_group-requires c = record { standing = stands (goal.at.clear_group-requires c).Start }
