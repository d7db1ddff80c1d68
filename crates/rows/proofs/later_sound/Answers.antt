-- `later_sound` meets its contract, by who holds the row.
use Rattle.mem.proofs.Prelude.{◌∙◌, ◌≡◌, sym, ap, drop}
use Rattle.model.specs.declared.Holder.TheVariants.{Later}
use Rattle.model.specs.Tables.{row_at, view_holder}
use Rattle.rows.proofs.Checks.{later_held, later_other}
use Rattle.rows.proofs.later_sound.Goals as goal

pub returns-in_default : goal.returns-in_default
returns-in_default c =
    let a = c.args in
    let h = c.holder_at-h in
    sym (later_other (drop (row_at a.i) a.room.now) a.k (λ e. c.in_default.not-Later a.k (h.ensures ∙ e)))

pub returns-then-wide-k : goal.returns-then-wide-k
returns-then-wide-k c =
    let a = c.args in
    let f : Later c.in-Later.d ≡ view_holder (drop (row_at a.i) a.room.now) = sym c.in-Later.is ∙ c.holder_at-h.ensures in
    sym (later_other (drop (row_at a.i) a.room.now) a.k
    (λ e. let g : Later c.in-Later.d ≡ Later a.k = f ∙ e in let j : c.in-Later.d ≡ a.k = cc in c.if-wide-k.true (c.wide.ensures.0 ∙ j)))

pub returns : goal.returns
returns c =
    let a = c.args in
    let k : c.in-Later.d ≡ a.k = sym c.wide.ensures.0 ∙ c.if-wide-k.false in
    let f : view_holder (drop (row_at a.i) a.room.now) ≡ Later a.k = sym c.holder_at-h.ensures ∙ c.in-Later.is ∙ ap Later k in
    c.zeros_at.ensures ∙ rw c.row_at.ensures (sym (later_held a.room.now (row_at a.i) a.k c.requires.1 f))
