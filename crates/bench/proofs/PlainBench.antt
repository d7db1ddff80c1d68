-- The bench sheet of the second engine's tables holds of the definitions: computed over arena and table room.
use Rattle.mem.proofs.Prelude.{T}
use Rattle.mem.specs.Lists.{choose, every}
use Rattle.mem.specs.Bytes.{zeros}
use Rattle.classes.specs.Classes.{row_bytes, size_limit, units_of, slot_bytes, slots_of, rows_of, class_of}
use Rattle.classes.specs.Alignments.{align_of, powers, code_of, round_up}
use Rattle.model.specs.State.{slot_sound, span_sound, aligned, places}
use Rattle.model.specs.Blocks.{header, guard, first_spare, spare, frame, header_right, guard_right, damage_in}
use Rattle.model.specs.Plans.{plan, opens, refill, displaced, grant_slot, fits_in_place}
use Rattle.model.specs.Tables.{row_record, later_records, room_bytes, view_holder, span_records_by, encode_by, view_rows_by, view_by, arena_right, sound_by}
use Rattle.model.specs.Calls.{call_by, carried_by, checked_by, set_up_by, set_up_right_by, unless}
use Rattle.model.specs.Plain.{plain_record, plain_row, plain_slot, plain_in, plain_slots, plain_group}
use Rattle.model.specs.PlainBench.{plain_sheet, plain_passes, plain_right}

pub plain_bench : T (every plain_right plain_sheet)
unfolding plain_sheet plain_passes plain_right choose zeros row_bytes size_limit units_of slot_bytes slots_of rows_of class_of slot_sound span_sound places header guard
    first_spare spare frame header_right guard_right damage_in opens refill displaced grant_slot fits_in_place align_of powers code_of round_up aligned plan row_record
    later_records span_records_by room_bytes view_holder view_rows_by encode_by view_by arena_right sound_by call_by set_up_by set_up_right_by checked_by carried_by unless
    plain_record plain_row plain_slot plain_in plain_slots plain_group
plain_bench = tt
