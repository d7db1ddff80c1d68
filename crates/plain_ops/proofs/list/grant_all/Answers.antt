-- The invariant: from here on the sizes that are left make what all of them make from the start.
use Rattle.mem.proofs.Prelude.{◌∙◌, sym, refl}
use Rattle.model.specs.Plain.{slots_layout}
use Rattle.frames.proofs.Grants.{one_placed, one_further, all_done}
use Rattle.plain_tables.proofs.Rooms.{by_slots}
use Rattle.plain_ops.proofs.list.grant_all.Goals as goal

pub loop-i-init : goal.loop-i-init
loop-i-init c =
    let h = c.requires in
    record { lent = by_slots h.room_value c.args.row.lawful; fits = h.room_enough; arena = refl; pool = refl; list = refl }

-- the next size has a place
pub unwrap-requires : goal.unwrap-requires
unwrap-requires c =
    let l = c.loop-i in
    let a = c.args in
    rw (
      c.grant_one.ensures.value,
      (one_placed slots_layout a.row.bytes a.sizes.now _ _ _ l.i l.arena l.room l.handles c.loop-i-test.true l.invariant).1,
    )

pub loop-i-preserved : goal.loop-i-preserved
loop-i-preserved c =
    let g = c.grant_one in
    let l = c.loop-i in
    let a = c.args in
    (one_further slots_layout a.row.bytes a.sizes.now _ _ _ c.requires.small_sizes.0 l.i l.arena l.room l.handles c.loop-i-test.true l.invariant
    g.new.arena g.new.room c.unwrap.result (sym c.unwrap.ensures ∙ g.ensures.value) g.ensures.arena_after g.ensures.room_after g.auto.arena).rest

pub returns : goal.returns
returns c =
    let a = c.args in
    let l = c.loop-i in
    let e = all_done slots_layout a.row.bytes a.sizes.now _ _ _ l.i l.arena l.room l.handles c.loop-i-test.false l.invariant in
    record { arena_after = e.0; room_after = e.1; handles_after = e.2 }
