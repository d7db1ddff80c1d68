-- The invariant: the sizes that are left to write make the plan. A size is at least 1, so that what is left falls.
use Rattle.proposals.proofs.Filling.{Filled}
use Rattle.proposals.proofs.full_caps.Given as goal

abbrev pub invariant-loop-left : goal.invariant-loop-left
invariant-loop-left l = Filled l.total l.cap l.initial.sizes l.sizes l.left l.count

abbrev pub decreases-loop-left : goal.decreases-loop-left
decreases-loop-left l = l.left
