-- The invariant: from here on the sizes that are left make what all of them make from the start.
use Rattle.mem.proofs.Prelude.{map}
use Rattle.mem.specs.Bytes.{put}
use Rattle.model.specs.State.{handle}
use Rattle.model.specs.Plans.{enframe, reserve_all, pool_after}
use Rattle.model.specs.Tables.{view_by}
use Rattle.model.specs.Plain.{slots_layout}
use Rattle.model.specs.Calls.{written}
use Rattle.frames.specs.Grants.{granted}
use Rattle.frames.proofs.Grants.{ToGo}
use Rattle.plain_ops.proofs.list.grant_all.Given as goal

abbrev pub invariant-loop-i : goal.invariant-loop-i
invariant-loop-i l =
    let qs = granted (reserve_all l.row.bytes (view_by slots_layout l.row.bytes l.initial.room) l.sizes) in
    ToGo slots_layout l.row.bytes l.sizes (written l.initial.arena (map (enframe l.row.bytes) qs)) (pool_after (view_by slots_layout l.row.bytes l.initial.room) qs) (put 0 (map (handle l.row.bytes) qs) l.initial.handles) l.i
    l.arena l.room l.handles
