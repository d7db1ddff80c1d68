-- `lowest_run` meets its contract. The invariant: the search of the whole is that from the first of the free rows just passed.
use Rattle.mem.proofs.Prelude.{sym, subst, ◌+◌, ◌<◌, arith, length}
use Rattle.serving.proofs.MapRuns.{Scan, scan_free, scan_held, scan_end}
use Rattle.serving.proofs.lowest_run.Goals as goal
use Rattle.serving.proofs.lowest_run.Goals.{Joined-gap-ne1, else-gap-ne1, then-gap-ne1}

-- one row further
further : (c : Joined-gap-ne1)
    → (Scan c.args.need c.args.gaps.now c.if-gap-ne1.from (c.loop-i.i + 1))
further c =
    let l = c.loop-i in
    let a = c.args in
    let m = a.gaps.now in
    let h : l.i < length m = omega arith in
    elim c.if-gap-ne1.branch [ then-gap-ne1 w ↦ subst (λ f. Scan a.need m f (l.i + 1)) (sym w.from-is) (scan_held a.need m l.from l.i l.invariant h w.if-gap-ne1.true) | else-gap-ne1 w ↦ subst (λ f. Scan a.need m f (l.i + 1)) (sym w.from-is) (scan_free a.need m l.from l.i l.invariant h w.if-gap-ne1.false) ]

pub returns-then-i-from : goal.returns-then-i-from
returns-then-i-from c = sym ((further (goal.at.returns-then-i-from c).Joined-gap-ne1).hit c.if-i-from.true)

pub loop-i-preserved : goal.loop-i-preserved
loop-i-preserved c = (further (goal.at.loop-i-preserved c).Joined-gap-ne1).miss c.if-i-from.false

pub returns : goal.returns
returns c =
    let a = c.args in
    let l = c.loop-i in
    sym (scan_end a.need a.gaps.now l.from l.i l.invariant (omega arith))
