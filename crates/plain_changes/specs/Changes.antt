-- What the refill of a group writes.
use Rattle.std.specs.Prelude.{ℕ, zero, suc, ◌+◌, List, drop}
use Rattle.model.specs.Plans.{turn_ready}
use Rattle.model.specs.Tables.{row_at}
use Rattle.plain_slots.specs.Slots.{slot_in, stored}

-- those that wait of n slots from slot j on become ready, one after the other, in the group whose first row is row i
unfoldable pub turned : (i n j : ℕ) → List ℕ → List ℕ
turned i zero j s = s
turned i (suc n) j s = turned i n (j + 1) (stored (row_at i) j (turn_ready (slot_in j (drop (row_at i) s))) s)
