-- `span_counted` meets its contract, by what begins with its rows.
use Rattle.mem.proofs.Prelude.{◌∙◌, ◌≡◌, sym, ap, Some, None, Option, ◌*◌, rules, arith, drop}
use Rattle.model.specs.Tables.{row_at}
use Rattle.model.proofs.SixTotals.{zero_totals}
use Rattle.rows.specs.declared.Frame.{Frame}
use Rattle.rows.specs.Checks.{group_checked}
use Rattle.rows.specs.Counts.{count_if, group_totals, frame_counted, span_counted}
use Rattle.rows.proofs.Counts.{frame_counted_lem, frame-group}
use Rattle.walks.proofs.span_counted.Given.{Over}
use Rattle.walks.proofs.span_counted.Goals as goal
use Rattle.walks.proofs.span_counted.Goals.{After-frame_at}

-- what was found of its rows
framed : (g : Over) (e : After-frame_at g) (f : Option Frame) → (let L = g.K.Keeping.layout in
    let a = e.args in
    let t = drop (row_at a.i) a.room.now in
    e.frame_at.result ≡ f → span_counted L a.row.bytes (a.row.bytes * a.i) a.n t
    ≡ frame_counted f (λ c k. count_if (group_checked L (a.row.bytes * a.i) c t) (group_totals k (L.slots_in c t))))
framed g e f q =
    let a = e.args in
    frame_counted_lem g.K.Keeping.layout a.row.bytes (a.row.bytes * a.i) a.n (drop (row_at a.i) a.room.now) f (sym e.frame_at.ensures ∙ q)

pub group_counted-requires : goal.group_counted-requires
group_counted-requires g c =
    let b = frame-group c.args.row.bytes c.args.n c.in-Group.class c.in-Group.rows (drop (row_at c.args.i) c.args.room.now)
    (sym c.frame_at.ensures ∙ c.in_ok-frame_at.was ∙ ap Some c.in-Group.is) in
    record { i_lt_most_rows = search rules; c_bound = b }

pub returns-in-Free : goal.returns-in-Free
returns-in-Free g c =
    rw (zero_totals c.default.result c.default.ensures)
    (sym (framed g (goal.at.returns-in-Free g c).After-frame_at (Some Frame.Free) (c.in_ok-frame_at.was ∙ ap Some c.in-Free.is)))

pub returns-in-Group : goal.returns-in-Group
returns-in-Group g c =
    c.group_counted.ensures ∙ sym (framed g (goal.at.returns-in-Group g c).After-frame_at (Some (Frame.Group c.in-Group.class c.in-Group.rows)) (c.in_ok-frame_at.was ∙ ap Some c.in-Group.is))

pub returns-in_err-frame_at : goal.returns-in_err-frame_at
returns-in_err-frame_at g c =
    let e : c.from_residual.result ≡ None = grind arith in
    e ∙ sym (framed g (goal.at.returns-in_err-frame_at g c).After-frame_at None c.in_err-frame_at.was)
