-- `serve_all` meets its contract. The invariant: the sizes that are left fit exactly if all fit in the pool told of at first.
use Rattle.model.specs.State.{Pool}
use Rattle.serving.specs.Survey.{NotesOf}
use Rattle.serving.proofs.Sizes.{ToGo}
use Rattle.serving.proofs.serve_all.Given as goal

abbrev pub invariant-loop-size : goal.invariant-loop-size
invariant-loop-size l =
    (P : Pool) → NotesOf l.row.bytes P l.initial.spare l.initial.gaps → ToGo l.row.bytes l.sizes P l.size-index l.spare l.gaps
