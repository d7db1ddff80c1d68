-- `look_row` meets its contract.
use Rattle.mem.proofs.Prelude.{◌∙◌, ◌≡◌, sym, refl, ap, subst, List, ℕ, ◌<◌, drop}
use Rattle.model.specs.declared.Holder.{Holder}
use Rattle.model.specs.declared.Holder.TheVariants.{Free, First, Later}
use Rattle.model.specs.Tables.{row_at, view_holder}
use Rattle.rows.specs.Rows.{class_held}
use Rattle.rows.specs.declared.Looked.TheVariants.{Absent}
use Rattle.plain_tables.specs.Found.{holder_looked, row_looked}
use Rattle.plain_tables.proofs.look_row.Goals as goal
use Rattle.plain_tables.proofs.look_row.Goals.{After-wide}

-- what the code knows of the row is what the room says
told : (row i o : ℕ) (t : List ℕ) (h : Holder) → h ≡ view_holder t → holder_looked row i o t h ≡ row_looked row i o t
unfolding row_looked
told row i o t h e = ap (holder_looked row i o t) e

-- no first row
other : (row i o : ℕ) (t : List ℕ) (h : Holder) → ((k : ℕ) → h ≡ First k → ⊥) → Absent ≡ holder_looked row i o t h
other row i o t Free e = refl
other row i o t (First k) e = absurd (e k refl)
other row i o t (Later k) e = refl

-- the class that the row says
class : (c : After-wide) → (let a = c.args in
    First c.wide.result ≡ view_holder (drop (row_at a.i) a.room.now))
class c = ap First c.wide.ensures.0 ∙ sym c.in-First.is ∙ c.holder_at-h.ensures

pub returns-in_default : goal.returns-in_default
returns-in_default c =
    let h = c.holder_at-h in
    let a = c.args in
    let t = drop (row_at a.i) a.room.now in
    other a.row.bytes a.i a.offset t h.result c.in_default.not-First ∙ told a.row.bytes a.i a.offset t h.result h.ensures

pub look_group-requires : goal.look_group-requires
look_group-requires c =
    record { first_lt_most_rows = c.requires.i_lt_most_rows; c_bound = subst (λ h. class_held h < 48) (sym (class c)) c.requires.room_bound }

pub returns : goal.returns
returns c =
    let a = c.args in
    let t = drop (row_at a.i) a.room.now in
    c.look_group.ensures ∙ told a.row.bytes a.i a.offset t (First c.wide.result) (class (goal.at.returns c).After-wide)
