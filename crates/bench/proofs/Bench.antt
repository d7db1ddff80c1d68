-- The bench sheet holds of the definitions: computed over arena and table room.
use Rattle.mem.proofs.Prelude.{Bool, List, ◌++◌, T}
use Rattle.mem.specs.Lists.{choose, every}
use Rattle.mem.specs.Bytes.{zeros}
use Rattle.mem.proofs.Tests.{every_append}
use Rattle.classes.specs.Classes.{row_bytes, size_limit, units_of, slot_bytes, slots_of, rows_of, class_of}
use Rattle.classes.specs.Alignments.{align_of, powers, code_of, round_up}
use Rattle.model.specs.State.{slot_sound, span_sound, aligned, places}
use Rattle.model.specs.Blocks.{header, guard, first_spare, spare, frame, header_right, guard_right, damage_in}
use Rattle.model.specs.Proposals.{entries, cap_right, size_right, accepts, plannable, full_caps, planned}
use Rattle.model.specs.Plans.{plan, opens, refill, displaced, grant_slot, fits_in_place}
use Rattle.model.specs.Tables.{slot_record, row_record, later_records, room_bytes, view_slot, view_slots, view_group, view_holder, span_records_by, encode_by}
use Rattle.model.specs.Tables.{view_rows_by, view_by, arena_right, sound_by, room_for}
use Rattle.model.specs.Calls.{same_totals, call_by, carried_by, checked_by, set_up_by, set_up_right_by, unless}
use Rattle.model.specs.Bench.{Entry, sheet01, sheet_aligned, sheet_handles, sheet_sound, sheet, passes, right}

-- the lines of a list, with all that they are computed from
unfoldable due : List Entry → Bool
unfolding right passes choose zeros row_bytes size_limit units_of slot_bytes slots_of rows_of class_of slot_sound span_sound places header guard first_spare spare
    frame header_right guard_right damage_in
    opens refill displaced grant_slot fits_in_place align_of powers code_of round_up aligned plan slot_record row_record later_records span_records_by room_bytes view_slot
    view_slots view_group view_holder view_rows_by room_for
    encode_by view_by arena_right sound_by entries cap_right size_right accepts plannable full_caps planned call_by set_up_by set_up_right_by checked_by carried_by unless
    same_totals
due es = every right es

-- one computation of all lines is past the prover's limit of steps
first_lines : T (due sheet01)
unfolding due sheet01
first_lines = tt

aligned_lines : T (due sheet_aligned)
unfolding due sheet_aligned
aligned_lines = tt

handle_lines : T (due sheet_handles)
unfolding due sheet_handles
handle_lines = tt

sound_lines : T (due sheet_sound)
unfolding due sheet_sound
sound_lines = tt

pub bench : T (every right sheet)
unfolding sheet due
bench =
    every_append right sheet01 (sheet_aligned ++ (sheet_handles ++ sheet_sound)) first_lines
    (every_append right sheet_aligned (sheet_handles ++ sheet_sound) aligned_lines (every_append right sheet_handles sheet_sound handle_lines sound_lines))
