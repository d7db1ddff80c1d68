-- Where the last search ended is where this one begins, if it was for the same class.
use Rattle.mem.proofs.Prelude.{sym, eqb, eq-eqb, ne_eqb}
use Rattle.mem.proofs.Tests.{choose-true, choose-false}
use Rattle.lists.proofs.begin.Goals as goal

pub returns-in-Some : goal.returns-in-Some
returns-in-Some c =
    let s = c.in-Some.s in
    rw c.in-Some.is (sym (choose-true (eqb c.args.c s.class) c.args.from 0 (eq-eqb c.args.c s.class c.if-c-s.true)))

pub returns-in_default : goal.returns-in_default
returns-in_default c =
    let s = c.in-Some.s in
    rw c.in-Some.is (sym (choose-false (eqb c.args.c s.class) c.args.from 0 (ne_eqb c.args.c s.class c.if-c-s.false)))
