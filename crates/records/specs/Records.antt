-- A group's masks and slot records as the code reads and writes them: t is the room from the first row's record on.
use Rattle.std.specs.Prelude.{ℕ, ◌+◌, ◌*◌, ◌/◌, ◌%◌, ◌^◌, Bool, List, ◌++◌, eqb}
use Rattle.mem.specs.Bytes.{low, number, part, put}
use Rattle.masks.specs.declared.Masks.{Masks}
use Rattle.model.specs.declared.Slot.{Slot}
use Rattle.model.specs.Tables.{ready_at, waiting_at, slots_at, slot_record_bytes, slot_record, view_slot}

-- the masks of the group whose first row's record stands first
unfoldable pub masks_in : List ℕ → Masks
masks_in t = record { ready = number (part ready_at 4 t); waiting = number (part waiting_at 4 t) }

-- whether a mask has slot j
abbrev pub has : ℕ → ℕ → Bool
has j m = eqb (m / 2 ^ j % 2) 1

-- slot j of that group, with its masks
unfoldable pub slot_in : Masks → ℕ → List ℕ → Slot
slot_in m j t = view_slot (has j m.ready) (has j m.waiting) (part (slots_at + slot_record_bytes * j) slot_record_bytes t)

-- the slots of that group by their numbers
abbrev pub slots_here : List ℕ → ℕ → Slot
slots_here t j = slot_in (masks_in t) j t

-- a room after the masks and the record of slot j were written, for the group whose first row's record stands at a place
unfoldable pub stored : ℕ → Masks → ℕ → Slot → List ℕ → List ℕ
stored at m j x t =
    put (at + (slots_at + slot_record_bytes * j)) (slot_record x) (put (at + ready_at) (low 4 m.ready ++ low 4 m.waiting) t)
