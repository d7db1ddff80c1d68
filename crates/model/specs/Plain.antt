-- THE SECOND ENGINE'S TABLES: a plain record for each slot, which says its own condition. There are no masks and no stored totals.
use Rattle.std.specs.Prelude.{ℕ, zero, suc, ◌+◌, ◌*◌, ◌-◌, List, [], ◌∷◌, ◌++◌, leb, eqb, length, get_or, take, drop}
use Rattle.mem.specs.Lists.{choose, join}
use Rattle.mem.specs.Bytes.{zeros, low, number, part}
use Rattle.classes.specs.Classes.{slots_of}
use Rattle.model.specs.declared.Slot.{Slot}
use Rattle.model.specs.declared.Slot.TheVariants.{Fresh, Idle, Live}
use Rattle.model.specs.declared.Holder.TheVariants.{First}
use Rattle.model.specs.State.{count, disp, size}
use Rattle.model.specs.Tables.{Layout, slots_at, slot_record_bytes, kind_at, count_at, disp_at, size_at, most_slots, holder_bytes}
use Rattle.model.specs.Plans.{Call}
use Rattle.model.specs.Calls.{Form, Outcome, form_of, call_by}

-- the condition of a slot: 0 never granted, 1 ready, 2 waiting; from 3 on live, with the alignment's code
abbrev pub condition : Slot → ℕ
condition Fresh = 0
condition (Idle r k d) = choose r 1 2
condition (Live a) = a.align + 2

-- a slot's record, 8 bytes: condition, use count, displacement in two bytes, requested size in three, 0
unfoldable pub plain_record : Slot → List ℕ
plain_record x = condition x ∷ count x ∷ (low 2 (disp x) ++ (low 3 (size x) ++ (0 ∷ [])))

-- the record of a group's first row: its holder, 14 zeros, a record for each slot, zeros
unfoldable pub plain_row : ℕ → List Slot → List ℕ
plain_row c ss = holder_bytes (First c) ++ (zeros 14 ++ (join plain_record ss ++ zeros (slot_record_bytes * (most_slots - length ss))))

-- the slot of a condition, with its use count, displacement and size
unfoldable pub plain_slot : (b k d n : ℕ) → Slot
plain_slot b k d n =
    let live : Slot = Live (record { count = k; disp = d; size = n; align = b - 2 }) in
    choose (eqb b 0) Fresh (choose (leb b 2) (Idle (eqb b 1) k d) live)

-- the slot that a record says
unfoldable pub plain_in : List ℕ → Slot
plain_in r = plain_slot (get_or r kind_at 0) (get_or r count_at 0) (number (part disp_at 2 r)) (number (part size_at 3 r))

-- n slots, one record after the other
unfoldable pub plain_slots : ℕ → List ℕ → List Slot
plain_slots zero t = []
plain_slots (suc n) t = plain_in (take slot_record_bytes t) ∷ plain_slots n (drop slot_record_bytes t)

-- the slots of a group of class c, from its first row's record on
unfoldable pub plain_group : ℕ → List ℕ → List Slot
plain_group c t = plain_slots (slots_of c) (drop slots_at t)

-- by slots
abbrev pub slots_layout : Layout
slots_layout = record { first_row = plain_row; slots_in = plain_group }

-- THE SECOND ENGINE, by its form: soundness is document 01's with 02 §6, "but without §4's rule"
abbrev pub plain_form : ℕ → Form
plain_form row = form_of row slots_layout

-- what its calls leave
abbrev pub plain_call : ℕ → List ℕ → List ℕ → Call → Outcome (List ℕ)
plain_call row a t c = call_by row (plain_form row) a t c
