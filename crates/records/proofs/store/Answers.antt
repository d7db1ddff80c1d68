-- `store` meets its contract.
use Rattle.mem.proofs.Prelude.{◌≡◌, List, ◌++◌, ◌+◌, ℕ, ◌*◌, add_assoc}
use Rattle.mem.specs.Bytes.{low, put}
use Rattle.masks.specs.declared.Masks.{Masks}
use Rattle.model.specs.declared.Slot.{Slot}
use Rattle.model.specs.Tables.{row_at, slot_record}
use Rattle.records.specs.Records.{stored}
use Rattle.records.proofs.store.Goals as goal

written : (i j p : ℕ) (m : Masks) (x : Slot) (v w s s₁ s₂ : List ℕ) → p ≡ row_at i → v ≡ low 4 m.ready ++ low 4 m.waiting → s₁ ≡ put (p + 8) v s
    → w ≡ slot_record x → s₂ ≡ put (p + 16 + 8 * j) w s₁ → s₂ ≡ stored (row_at i) m j x s
unfolding stored
written i j p m x v w s s₁ s₂ e f g h k = rw (k, h, g, f, ← e, add_assoc)

pub returns : goal.returns
returns c =
    let a = c.args in
    written a.i a.j c.row_at-at.result a.m a.x c.mask_bytes-sets.result c.slot_record-record.result a.room.now c.copy_in.new.s
    c.copy_in-2.new.s
    c.row_at-at.ensures c.mask_bytes-sets.ensures c.copy_in.ensures c.slot_record-record.ensures c.copy_in-2.ensures
