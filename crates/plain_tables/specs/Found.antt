-- What the plain searches make of a group's first row and of its slots: t is the room from that row's record on.
use Rattle.std.specs.Prelude.{ℕ, suc, ◌+◌, ◌*◌, Bool, true, false, List, [], ◌∷◌, eqb}
use Rattle.mem.specs.Lists.{choose}
use Rattle.classes.specs.Classes.{slot_bytes}
use Rattle.model.specs.declared.Holder.{Holder}
use Rattle.model.specs.declared.Holder.TheVariants.{Free, First, Later}
use Rattle.model.specs.declared.Slot.{Slot}
use Rattle.model.specs.declared.Slot.TheVariants.{Fresh, Idle, Live}
use Rattle.model.specs.Tables.{view_holder}
use Rattle.model.specs.Plain.{plain_group}
use Rattle.rows.specs.declared.Looked.{Looked}
use Rattle.rows.specs.declared.Looked.TheVariants.{Present, Freed, Absent}

-- what slot j of the group of class c with that first row is to an offset, the slot beginning at that byte of the arena
abbrev pub slot_looked : (first c j begin offset : ℕ) → Slot → Looked
slot_looked first c j b o Fresh = Absent
slot_looked first c j b o (Idle r k d) = choose (eqb (b + 16 * d) o) Freed Absent
slot_looked first c j b o (Live a) =
    choose (eqb (b + 16 * a.disp) o) (Present (record { first = first; class = c; slot = j; alloc = a })) Absent

-- whether nothing was found, and what was found first
abbrev pub is_absent : Looked → Bool
is_absent Absent = true
is_absent Freed = false
is_absent (Present b) = false

abbrev pub or_else : Looked → Looked → Looked
or_else Absent r = r
or_else Freed r = Freed
or_else (Present b) r = Present b

-- the slots of that group from slot j on, one after the other
unfoldable pub slots_looked : (first c j begin offset : ℕ) → List Slot → Looked
slots_looked first c j b o [] = Absent
slots_looked first c j b o (x ∷ xs) = or_else (slot_looked first c j b o x) (slots_looked first c (suc j) (b + slot_bytes c) o xs)

-- what stands at an offset in the group that a row begins
abbrev pub holder_looked : (row first offset : ℕ) → List ℕ → Holder → Looked
holder_looked row first o t Free = Absent
holder_looked row first o t (First c) = slots_looked first c 0 (row * first + 16) o (plain_group c t)
holder_looked row first o t (Later k) = Absent

unfoldable pub row_looked : (row first offset : ℕ) → List ℕ → Looked
row_looked row first o t = holder_looked row first o t (view_holder t)
