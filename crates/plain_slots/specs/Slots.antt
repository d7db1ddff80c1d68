-- A group's plain slot records as the code reads and writes them: t is the room from the first row's record on.
use Rattle.std.specs.Prelude.{ℕ, ◌+◌, ◌*◌, ◌<◌, List}
use Rattle.mem.specs.Lists.{sum}
use Rattle.mem.specs.Bytes.{part, put, bit}
use Rattle.model.specs.declared.Slot.{Slot}
use Rattle.model.specs.State.{disp, size, is_live}
use Rattle.model.specs.Tables.{slots_at, slot_record_bytes}
use Rattle.model.specs.Plain.{condition, plain_record, plain_in}

-- slot j of the group whose first row's record stands first
unfoldable pub slot_in : ℕ → List ℕ → Slot
slot_in j t = plain_in (part (slots_at + slot_record_bytes * j) slot_record_bytes t)

-- a room after the record of slot j was written, for the group whose first row's record stands at a place
unfoldable pub stored : ℕ → ℕ → Slot → List ℕ → List ℕ
stored at j x t = put (at + (slots_at + slot_record_bytes * j)) (plain_record x) t

-- what a record has room for
abbrev pub Small : Slot → Type 0
Small x = (condition x < 256) × (disp x < 65536) × (size x < 16777216)

-- how many slots are live
abbrev pub live_in : List Slot → ℕ
live_in ss = sum (λ x. bit (is_live x)) ss
