-- What the searches make of a group's first row.
use Rattle.std.specs.Prelude.{ℕ, ◌*◌, ◌-◌, ◌/◌, ◌%◌, Bool, ltb, leb, eqb}
use Rattle.mem.specs.Lists.{choose}
use Rattle.classes.specs.Classes.{slot_bytes, slots_of}
use Rattle.model.specs.declared.Slot.{Slot}
use Rattle.model.specs.declared.Slot.TheVariants.{Fresh, Idle, Live}
use Rattle.model.specs.State.{disp}
use Rattle.rows.specs.declared.Looked.{Looked}
use Rattle.rows.specs.declared.Looked.TheVariants.{Present, Freed, Absent}

-- a displacement of two bytes
abbrev pub disp_small : Slot → Bool
disp_small x = ltb (disp x) 65536

-- slot i of the group of class c whose first row is given, with the bytes by which an offset lies after the slot's beginning
abbrev pub slot_looked : ℕ → ℕ → ℕ → ℕ → Slot → Looked
slot_looked first c i after Fresh = Absent
slot_looked first c i after (Idle r k d) = choose (eqb (16 * d) after) Freed Absent
slot_looked first c i after (Live a) =
    choose (eqb (16 * a.disp) after) (Present (record { first = first; class = c; slot = i; alloc = a })) Absent

-- what stands some bytes after the first byte of that group, whose slots are given by their numbers
unfoldable pub group_looked : ℕ → ℕ → ℕ → (ℕ → Slot) → Looked
group_looked first c inside slots =
    let i = (inside - 16) / slot_bytes c in
    let after = (inside - 16) % slot_bytes c in
    choose (ltb inside 16) Absent (choose (leb (slots_of c) i) Absent (slot_looked first c i after (slots i)))
