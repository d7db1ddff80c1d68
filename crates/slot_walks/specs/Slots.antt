-- What is tested of a group's slots, by their masks and records, each piece over the room's bytes from its place on.
use Rattle.std.specs.Prelude.{ℕ, ◌+◌, ◌*◌, Bool, ◌&&◌, not, true, List, map, leb, ltb, eqb, take}
use Rattle.mem.specs.Lists.{every, join, starts}
use Rattle.mem.specs.Bytes.{mask}
use Rattle.classes.specs.Classes.{size_limit}
use Rattle.classes.specs.Alignments.{ordinary}
use Rattle.model.specs.declared.Slot.{Slot}
use Rattle.model.specs.declared.Slot.TheVariants.{Fresh, Idle, Live}
use Rattle.model.specs.State.{is_ready, is_waiting, slot_sound, slots_aligned}
use Rattle.model.specs.Tables.{slot_record_bytes, slot_record, view_slot, view_slots}

-- the rule of a slot that keeps no alignment but an ordinary block's, by two numbers of its class: 16d + n is no more than `most`, and
-- n + 4 is more than `least`
unfoldable pub slot_fits : ℕ → ℕ → Slot → Bool
slot_fits most least Fresh = true
slot_fits most least (Idle r k d) = leb (16 * d) most
slot_fits most least (Live a) =
    eqb a.align ordinary && leb (16 * a.disp + a.size) most && ltb least (a.size + 4) && ltb a.size size_limit

-- a slot's record, with its bits of the two masks: the bits are not both set, and the record is the one form of what it says
unfoldable pub slot_checked : ℕ → ℕ → Bool → Bool → List ℕ → Bool
slot_checked most least r w t =
    let x = view_slot r w (take slot_record_bytes t) in not (r && w) && starts t (slot_record x) && slot_fits most least x

-- the records of n slots, with the two masks, where all blocks are ordinary
unfoldable pub slots_checked : ℕ → ℕ → ℕ → ℕ → ℕ → List ℕ → Bool
slots_checked most least n ready waiting t =
    let ss = view_slots n ready waiting t in
    eqb (mask (map is_ready ss)) ready && eqb (mask (map is_waiting ss)) waiting && starts t (join slot_record ss)
    && every (slot_fits most least) ss

-- the same of any blocks, by the class, where the first slot begins at b
unfoldable pub slots_exactly : (c b n ready waiting : ℕ) → List ℕ → Bool
slots_exactly c b n ready waiting t =
    let ss = view_slots n ready waiting t in
    eqb (mask (map is_ready ss)) ready && eqb (mask (map is_waiting ss)) waiting && starts t (join slot_record ss)
    && every (slot_sound c) ss && slots_aligned c b ss
