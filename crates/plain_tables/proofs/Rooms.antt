-- Sound plain tables, as the code knows them.
use Rattle.mem.proofs.Prelude.{◌∙◌, ◌≡◌, ap, true, List, ◌∷◌, ◌++◌, ℕ, drop}
use Rattle.classes.specs.Classes.{Lawful}
use Rattle.model.specs.declared.Slot.{Slot}
use Rattle.model.specs.State.{Pool, group, rows}
use Rattle.model.specs.Tables.{row_at, view_by, sound_by}
use Rattle.model.specs.Plain.{plain_group, slots_layout}
use Rattle.model.proofs.Plain.{slots_laws}
use Rattle.rows.specs.Rows.{Lent}
use Rattle.rows.proofs.Rooms.{lent_by, group-first, span_sound_lem, span_from}

pub by_slots : {row n : ℕ} {t : List ℕ} → sound_by slots_layout row n t ≡ true → Lawful row → Lent slots_layout row n t
by_slots = lent_by slots_laws

-- the slots that the records of a group say, from its first row on
pub group-read : {row n : ℕ} {t : List ℕ} (r : Lent slots_layout row n t) (X : Pool) (c : ℕ) (ss : List Slot) (Y : Pool)
    → view_by slots_layout row t ≡ X ++ (group c ss ∷ Y) → plain_group c (drop (row_at (rows row X)) t) ≡ ss
group-read {row} r X c ss Y p =
    ap (plain_group c) (span_from r X (group c ss) Y p ∙ group-first slots_layout row c ss Y) ∙ r.laws.slots c ss _ (span_sound_lem r X (group c ss) Y p)
