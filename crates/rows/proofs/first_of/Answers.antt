-- `first_of` meets its contract.
use Rattle.mem.proofs.Prelude.{◌≡◌, true, arith, leb-true, leb}
use Rattle.rows.proofs.first_of.Goals as goal

pub overflow_sub-result : goal.overflow_sub-result
overflow_sub-result c =
    let e : leb c.in-Later.k c.args.i ≡ true = rw c.in-Later.is at c.requires in
    omega (arith, leb-true c.in-Later.k c.args.i e, c.wide.ensures.0)

pub returns-in-First : goal.returns-in-First
returns-in-First c = rw c.in-First.is

pub returns-in-Later : goal.returns-in-Later
returns-in-Later c = rw (c.in-Later.is, c.wide.ensures.0)
