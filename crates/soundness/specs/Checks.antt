-- What is tested of a group's masks and slots, over the room's bytes from its first row's record on.
use Rattle.std.specs.Prelude.{ℕ, Bool, ◌&&◌, List, map, eqb, drop}
use Rattle.mem.specs.Lists.{every, any, join, starts}
use Rattle.mem.specs.Bytes.{number, mask, part}
use Rattle.model.specs.State.{is_ready, is_waiting, is_live, slot_sound, slots_aligned}
use Rattle.model.specs.Tables.{ready_at, waiting_at, slots_at, slot_record, view_group}

-- the masks and the slots of a group of class c, whose first slot begins at b, from its first row's record on
unfoldable pub members_checked : (c b : ℕ) → List ℕ → Bool
members_checked c b t =
    let ss = view_group c t in
    eqb (mask (map is_ready ss)) (number (part ready_at 4 t)) && eqb (mask (map is_waiting ss)) (number (part waiting_at 4 t))
    && starts (drop slots_at t) (join slot_record ss) && any is_live ss && every (slot_sound c) ss && slots_aligned c b ss
