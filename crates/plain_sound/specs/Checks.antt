-- What is tested and counted of a group's plain slot records.
use Rattle.std.specs.Prelude.{ℕ, ◌+◌, ◌*◌, ◌≤◌, Bool, ◌&&◌, List, eqb, Option, Some, None}
use Rattle.mem.specs.Lists.{choose, every, join, starts}
use Rattle.mem.specs.Bytes.{bit}
use Rattle.model.specs.declared.Slot.{Slot}
use Rattle.model.specs.declared.Totals.{Totals}
use Rattle.model.specs.State.{is_live, is_ready, is_waiting, size, slot_sound, slots_aligned}
use Rattle.model.specs.Plain.{plain_record, plain_slots}

-- the records of n slots of class c, of which the first begins at b: they are the one form of what they say, and that is sound
unfoldable pub slots_right : (c b n : ℕ) → List ℕ → Bool
slots_right c b n t = let ss = plain_slots n t in starts t (join plain_record ss) && (every (slot_sound c) ss && slots_aligned c b ss)

-- totals with one slot more
abbrev pub with_slot : Totals → Slot → Totals
with_slot s x = record {
  blocks = s.blocks + bit (is_live x);
  bytes = s.bytes + size x;
  held = s.held;
  free = s.free;
  ready = s.ready + bit (is_ready x);
  waiting = s.waiting + bit (is_waiting x);
}

-- totals to which n slots at most were counted
abbrev pub FewSlots : ℕ → Totals → Type 0
FewSlots n s = (s.blocks ≤ n) × (s.bytes ≤ 16777216 * n) × (s.ready ≤ n) × (s.waiting ≤ n)

-- what is counted of a group that must have a live slot
abbrev pub some_live : Option Totals → Option Totals
some_live (Some s) = choose (eqb s.blocks 0) None (Some s)
some_live None = None
