-- `resize_slot` meets its contract.
use Rattle.mem.proofs.Prelude.{ap, ◌+◌, ◌<◌, ◌≤◌, length}
use Rattle.model.specs.declared.Slot.{Slot}
use Rattle.model.specs.Tables.{row_at, row_record_bytes}
use Rattle.rows.proofs.Held.{held_rows, held_inside}
use Rattle.changes.proofs.Laws.{resized_slot}
use Rattle.changes.proofs.resize_slot.Goals as goal
use Rattle.changes.proofs.resize_slot.Goals.{Start}

-- the group's first row stands in the room, and the slot is one of a group's
inside : (s : Start)
    → ((s.args.b.first < 512) × (row_at s.args.b.first + row_record_bytes ≤ length s.args.room.now)) × (s.args.b.slot < 31)
inside s =
    let q = s.requires in
    let t = s.args.room.now in
    (held_inside q.0 t s.args.b q.1 q.2, (held_rows q.0 t s.args.b q.1 q.2).1)

pub returns : goal.returns
returns c row p h =
    let m = c.masks_at-m in
    let a = c.args in
    resized_slot row a.room.now a.b p h m.result m.ensures a.n
    (record { count = a.b.alloc.count; disp = a.b.alloc.disp; size = a.n; align = a.b.alloc.align })
    c.store.new.room
    (ap {B = Slot} (λ b. Slot.Live (record { count = b.alloc.count; disp = b.alloc.disp; size = a.n; align = b.alloc.align })) h.block)
    c.store.ensures

pub masks_at-m-requires : goal.masks_at-m-requires
masks_at-m-requires c = (inside (goal.at.masks_at-m-requires c).Start).0

pub store-requires : goal.store-requires
store-requires c = let told = inside (goal.at.store-requires c).Start in record { i_lt_most_rows = told.0; j_lt_most_slots = told.1 }
