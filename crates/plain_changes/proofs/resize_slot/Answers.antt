-- `resize_slot` meets its contract.
use Rattle.mem.proofs.Prelude.{ap, arith}
use Rattle.model.specs.declared.Slot.{Slot}
use Rattle.rows.proofs.Held.{held_rows, held_inside}
use Rattle.plain_changes.proofs.Changes.{held_code, resized_slot}
use Rattle.plain_changes.proofs.resize_slot.Goals as goal

pub store-requires : goal.store-requires
store-requires c =
    let t = c.args.room.now in
    let q = c.requires in record {
      i_lt_most_rows = held_inside q.0 t c.args.b q.1 q.2;
      j_lt_most_slots = (
        (held_rows q.0 t c.args.b q.1 q.2).1,
        omega (
          arith,
          held_code q.0 t c.args.b
              q.1 q.2,
        ),
      );
    }

pub returns : goal.returns
returns c row p h =
    let a = c.args in
    resized_slot row a.room.now a.b p h a.n
    (record { count = a.b.alloc.count; disp = a.b.alloc.disp; size = a.n; align = a.b.alloc.align }) c.store.new.room
    (ap {B = Slot} (λ b. Slot.Live (record { count = b.alloc.count; disp = b.alloc.disp; size = a.n; align = b.alloc.align })) h.block)
    c.store.ensures
