-- The lines of the sheet of traces are those due: computed over arena and table room.
use Rattle.mem.proofs.Prelude.{refl}
use Rattle.mem.specs.Lists.{choose}
use Rattle.mem.specs.Bytes.{zeros}
use Rattle.classes.specs.Classes.{row_bytes, size_limit, units_of, slot_bytes, slots_of, rows_of, class_of}
use Rattle.classes.specs.Alignments.{align_of, round_up}
use Rattle.model.specs.State.{slot_sound, span_sound, aligned, places}
use Rattle.model.specs.Blocks.{header, guard, first_spare, spare, frame, header_right, guard_right, damage_in}
use Rattle.model.specs.Plans.{plan, opens, refill, displaced, grant_slot, fits_in_place}
use Rattle.model.specs.Tables.{slot_record, row_record, later_records, room_bytes, view_slot, view_slots, view_group, view_holder, span_records_by, encode_by}
use Rattle.model.specs.Tables.{view_rows_by, view_by, arena_right, sound_by}
use Rattle.model.specs.Calls.{same_totals, call_by, carried_by, checked_by, set_up_by, set_up_right_by, unless}
use Rattle.trace.specs.Trace.{body, encode_record, encode_trace, fits, op_at, record_at, step_at, operation_of, items_from, items, trace_right}
use Rattle.trace.specs.Replay.{performed, lines_from, replayed_over, replayed}
use Rattle.trace.specs.Sheet.{sheet, LinesDue}

pub lines_due : LinesDue
unfolding sheet body encode_record encode_trace fits op_at record_at step_at operation_of items_from items trace_right performed lines_from replayed_over replayed
    choose zeros row_bytes size_limit units_of slot_bytes slots_of rows_of class_of slot_sound span_sound places header guard first_spare spare
    frame header_right guard_right damage_in
    opens refill displaced grant_slot fits_in_place align_of round_up aligned plan slot_record row_record later_records span_records_by room_bytes view_slot view_slots
    view_group view_holder view_rows_by
    encode_by view_by arena_right sound_by call_by set_up_by set_up_right_by checked_by carried_by unless same_totals
lines_due = refl
