-- `lowest_run` meets its contract. The invariant: the search of the whole is that from the first of the free rows just passed.
use Rattle.serving.proofs.MapRuns.{Scanned}
use Rattle.serving.proofs.lowest_run.Given as goal

abbrev pub invariant-loop-i : goal.invariant-loop-i
invariant-loop-i l = Scanned l.need l.gaps l.from l.i
