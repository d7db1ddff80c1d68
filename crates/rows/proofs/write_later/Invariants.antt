-- `write_later` meets its contract. The invariant: writing what is left of the later rows makes all of them written.
use Rattle.mem.proofs.Prelude.{◌≡◌, ◌+◌, ◌-◌}
use Rattle.mem.specs.Bytes.{put}
use Rattle.model.specs.Tables.{row_at, later_records}
use Rattle.rows.proofs.write_later.Given as goal

abbrev pub invariant-loop-k : goal.invariant-loop-k
invariant-loop-k l =
    put (row_at (l.i + l.k)) (later_records (l.n - l.k) l.k) l.room ≡ put (row_at (l.i + 1)) (later_records (l.n - 1) 1) l.initial.room
