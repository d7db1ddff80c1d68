-- `store` meets its contract.
use Rattle.mem.proofs.Prelude.{◌≡◌, List, ◌+◌, ℕ, ◌*◌}
use Rattle.mem.specs.Bytes.{put}
use Rattle.model.specs.declared.Slot.{Slot}
use Rattle.model.specs.Tables.{row_at}
use Rattle.model.specs.Plain.{plain_record}
use Rattle.plain_slots.specs.Slots.{stored}
use Rattle.plain_slots.proofs.store.Goals as goal

written : (i j p : ℕ) (x : Slot) (w s s₁ : List ℕ) → p ≡ row_at i + (16 + 8 * j) → w ≡ plain_record x → s₁ ≡ put p w s → s₁ ≡ stored (row_at i) j x s
unfolding stored
written i j p x w s s₁ e f g = rw (g, f, e)

pub returns : goal.returns
returns c =
    let a = c.args in
    written a.i a.j c.slot_place.result a.x c.slot_record-record.result a.room.now c.copy_in.new.s c.slot_place.ensures
    c.slot_record-record.ensures c.copy_in.ensures
