-- The invariant: from here on the sizes that are left make what all of them make from the start.
use Rattle.mem.proofs.Prelude.{◌≡◌, map}
use Rattle.std.specs.Prelude.{IfSome}
use Rattle.mem.specs.Bytes.{put}
use Rattle.model.specs.State.{handle}
use Rattle.model.specs.Plans.{enframe, reserve_all, pool_after, totals}
use Rattle.model.specs.Tables.{masks_layout, view}
use Rattle.model.specs.Calls.{written}
use Rattle.rows.specs.Rows.{NoneOpen}
use Rattle.frames.specs.Grants.{granted}
use Rattle.frames.proofs.Grants.{ToGo}
use Rattle.lists.proofs.grant_all.Given as goal

abbrev pub invariant-loop-i : goal.invariant-loop-i
invariant-loop-i l =
    let qs = granted (reserve_all l.row.bytes (view l.row.bytes l.initial.room) l.sizes) in
    IfSome l.last (λ s. NoneOpen masks_layout l.row.bytes l.room s.class l.from)
    × ToGo masks_layout l.row.bytes l.sizes (written l.initial.arena (map (enframe l.row.bytes) qs)) (pool_after (view l.row.bytes l.initial.room) qs) (put 0 (map (handle l.row.bytes) qs) l.initial.handles) l.i
    l.arena l.room l.handles × (l.t ≡ totals l.row.bytes (view l.row.bytes l.room))
