-- `laters_sound` meets its contract. The invariant: the test of all later rows is the test of those that are left.
use Rattle.mem.proofs.Prelude.{◌≡◌, ◌+◌, ◌-◌, drop}
use Rattle.mem.specs.Lists.{starts}
use Rattle.model.specs.Tables.{row_at, later_records}
use Rattle.rows.proofs.laters_sound.Given as goal

abbrev pub invariant-loop-k : goal.invariant-loop-k
invariant-loop-k l =
    starts (drop (row_at (l.i + 1)) l.room) (later_records l.m 1) ≡ starts (drop (row_at (l.i + 1 + l.k)) l.room) (later_records (l.m - l.k) (l.k + 1))
