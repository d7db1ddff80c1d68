-- `next_run` meets its contract.
use Rattle.mem.proofs.Prelude.{◌∙◌, ap}
use Rattle.rows.specs.Rows.{rows_held}
use Rattle.rows.proofs.next_run.Goals as goal

pub returns-in-First : goal.returns-in-First
returns-in-First c =
    let e = c.in-First.is in
    rw (e, c.rows_held.ensures.value ∙ ap (rows_held c.args.row.bytes) e)

pub returns-in-Free : goal.returns-in-Free
returns-in-Free c =
    let e = c.in-Free.is in
    rw (e, c.rows_held.ensures.value ∙ ap (rows_held c.args.row.bytes) e)

pub returns-in-Later : goal.returns-in-Later
returns-in-Later c =
    let e = c.in-Later.is in
    rw (e, c.rows_held.ensures.value ∙ ap (rows_held c.args.row.bytes) e)
