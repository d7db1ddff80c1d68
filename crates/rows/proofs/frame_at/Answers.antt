-- `frame_at` meets its contract, by who holds the first row.
use Rattle.mem.proofs.Prelude.{◌∙◌, ◌≡◌, sym, ap, drop}
use Rattle.mem.specs.Lists.{choose}
use Rattle.mem.proofs.Starts.{starts-zeros}
use Rattle.model.specs.declared.Holder.{Holder}
use Rattle.model.specs.declared.Holder.TheVariants.{First}
use Rattle.model.specs.Tables.{row_at, row_record_bytes}
use Rattle.rows.specs.Checks.{frame_held, frame_in}
use Rattle.rows.proofs.frame_at.Goals as goal
use Rattle.rows.proofs.frame_at.Goals.{After-holder_at}

-- the holder that was read
held : (e : After-holder_at) (h : Holder) → (let a = e.args in
    let t = drop (row_at a.i) a.room.now in
    e.holder_at.result ≡ h → frame_in a.row.bytes a.n t ≡ frame_held a.row.bytes a.n t h)
unfolding frame_in
held e h q =
    let a = e.args in
    ap (frame_held a.row.bytes a.n (drop (row_at a.i) a.room.now)) (sym e.holder_at.ensures ∙ q)

pub returns-then-zeros_at : goal.returns-then-zeros_at
unfolding choose
returns-then-zeros_at c =
    let a = c.args in
    sym (held (goal.at.returns-then-zeros_at c).After-holder_at _ c.in-Free.is
    ∙ rw (← starts-zeros (row_at a.i) row_record_bytes a.room.now, ← c.row_at.ensures, ← c.zeros_at.ensures, c.if-zeros_at.true))

pub returns-else-zeros_at : goal.returns-else-zeros_at
unfolding choose
returns-else-zeros_at c =
    let a = c.args in
    sym (held (goal.at.returns-else-zeros_at c).After-holder_at _ c.in-Free.is
    ∙ rw (← starts-zeros (row_at a.i) row_record_bytes a.room.now, ← c.row_at.ensures, ← c.zeros_at.ensures, c.if-zeros_at.false))

pub returns-in-First : goal.returns-in-First
returns-in-First c =
    c.group_frame.ensures ∙ sym (held (goal.at.returns-in-First c).After-holder_at _ (c.in-First.is ∙ ap First (sym c.wide.ensures.0)))

pub returns-in-Later : goal.returns-in-Later
returns-in-Later c = sym (held (goal.at.returns-in-Later c).After-holder_at _ c.in-Later.is)
