-- `turn_all` meets its contract. The invariant: the walk over all slots is the walk over those that are left.
use Rattle.mem.proofs.Prelude.{◌≡◌, ◌-◌}
use Rattle.plain_changes.specs.Changes.{turned}
use Rattle.plain_changes.proofs.turn_all.Given as goal

abbrev pub invariant-loop-j : goal.invariant-loop-j
invariant-loop-j l = turned l.i l.n 0 l.initial.room ≡ turned l.i (l.n - l.j) l.j l.room
