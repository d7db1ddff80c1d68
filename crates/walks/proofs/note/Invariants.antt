-- `note` meets its contract. The invariant: counts and map tell what the spans passed have.
use Rattle.mem.proofs.Prelude.{◌-◌}
use Rattle.serving.proofs.Notes.{Passed}
use Rattle.walks.proofs.note.Given as goal

abbrev pub invariant-loop-i : goal.invariant-loop-i
invariant-loop-i g l = Passed g.K.Keeping.layout l.row.bytes l.len l.room l.i l.spare l.gaps

abbrev pub decreases-loop-i : goal.decreases-loop-i
decreases-loop-i g l = l.n - l.i
