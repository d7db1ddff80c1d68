-- The invariant: from here on the sizes that are left make what all of them make from the start.
use Rattle.mem.proofs.Prelude.{◌∙◌, sym, ap, refl, subst, arith, get_or}
use Rattle.mem.specs.Lists.{choose}
use Rattle.classes.specs.Classes.{class_of, units}
use Rattle.classes.specs.Alignments.{ordinary}
use Rattle.model.specs.Plans.{reserve, totals}
use Rattle.model.specs.Tables.{masks_layout, view}
use Rattle.model.proofs.Lists.{small_at}
use Rattle.rows.proofs.Rooms.{by_masks}
use Rattle.rows.specs.Rows.{NoneOpen}
use Rattle.reserving.specs.Reserves.{next_room, next_totals}
use Rattle.frames.specs.Grants.{next_arena}
use Rattle.lists.specs.Grants.{placed_as}
use Rattle.frames.proofs.Grants.{one_placed, one_further, all_done}
use Rattle.lists.proofs.Grants.{placed_parts, begins_by, none_before, counts_on}
use Rattle.lists.proofs.grant_all.Goals as goal

pub loop-i-init : goal.loop-i-init
unfolding class_of units choose
loop-i-init c =
    let h = c.requires in (
      tt,
      record { lent = by_masks h.room_value c.args.row.lawful; fits = h.room_enough.0; arena = refl; pool = refl; list = refl },
      h.room_enough.1,
    )

pub grant_one-requires : goal.grant_one-requires
grant_one-requires c =
    let l = c.loop-i in
    let w = c.with_class-s.ensures in
    let h = small_at c.args.sizes.now l.i c.requires.small_sizes.0 c.loop-i-test.true in
    let p = begins_by (λ s. s.class) l.last c.with_class-s.result.class l.from c.begin.result l.invariant.0 c.begin.ensures in
    record { room_value = l.invariant.1.lent.sound; size_known = (omega (arith, w, h), p, l.invariant.2) }

pub unwrap-p-requires : goal.unwrap-p-requires
unwrap-p-requires c =
    let g = c.grant_one in
    let w = c.with_class-s in
    let l = c.loop-i in
    let a = c.args in
    let (q, f) = one_placed masks_layout a.row.bytes a.sizes.now _ _ _ l.i l.arena l.room l.handles c.loop-i-test.true l.invariant.1 in
    let n = reserve a.row.bytes (view a.row.bytes l.room) ordinary in
    rw (g.ensures.value ∙ ap (λ k. placed_as a.row.bytes (n k)) w.ensures ∙ ap (placed_as a.row.bytes) f) refl

pub loop-i-preserved : goal.loop-i-preserved
loop-i-preserved c =
    let g = c.grant_one in
    let w = c.with_class-s in
    let l = c.loop-i in
    let a = c.args in
    let n = reserve a.row.bytes (view a.row.bytes l.room) ordinary in
    let e = w.ensures in
    let k = c.unwrap-p.result in
    let o = placed_parts a.row.bytes (n (get_or a.sizes.now l.i 0)) k (sym c.unwrap-p.ensures ∙ g.ensures.value ∙ ap (λ k. placed_as a.row.bytes (n k)) e) in
    let x = one_further masks_layout a.row.bytes a.sizes.now _ _ _ c.requires.small_sizes.0 l.i l.arena l.room l.handles c.loop-i-test.true
    l.invariant.1 g.new.arena g.new.room k.handle o.0
    (g.ensures.arena_after ∙ ap (λ k. next_arena a.row.bytes l.arena (n k)) e)
    (g.ensures.room_after ∙ ap (λ k. next_room a.row.bytes l.room (n k)) e) g.auto.arena in (
      subst (λ j. NoneOpen masks_layout a.row.bytes g.new.room j k.first) (sym (w.result.class_is ∙ ap class_of e)) (none_before x l.invariant.1.lent k.first o.1),
      x.rest,
      counts_on x l.t g.new.t (g.ensures.totals_after ∙ ap (λ k. next_totals a.row.bytes l.t (n k)) e),
    )

pub returns : goal.returns
returns c =
    let a = c.args in
    let l = c.loop-i in
    let e = all_done masks_layout a.row.bytes a.sizes.now _ _ _ l.i l.arena l.room l.handles c.loop-i-test.false l.invariant.1 in
    record { arena_after = e.0; room_after = e.1; handles_after = e.2; totals_after = l.invariant.2 ∙ ap (totals a.row.bytes) e.3 }
