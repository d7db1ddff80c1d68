-- Where the block can stay in its slot, the frame is written anew, and the slot's record.
use Rattle.mem.proofs.Prelude.{◌∙◌, ◌≡◌, sym, ap, ap₂, true, [], ◌∷◌, ◌<◌, arith, length}
use Rattle.classes.specs.Classes.{size_limit}
use Rattle.classes.proofs.Alignments.{enlarged_least}
use Rattle.model.specs.declared.Refusal.TheVariants.{NotInPlace}
use Rattle.model.specs.State.{pool_of}
use Rattle.model.specs.Answers.{done}
use Rattle.model.specs.Plans.{resize_at}
use Rattle.model.specs.Tables.{masks_layout, encode}
use Rattle.model.specs.Calls.{kept_in}
use Rattle.rows.specs.Rows.{Lent, handle_at}
use Rattle.rows.proofs.Rooms.{by_masks}
use Rattle.frames.specs.Blocks.{Standing, stays_in}
use Rattle.frames.proofs.Places.{held_stands}
use Rattle.frames.proofs.Plans.{stays_fits, in_place-writes, in_place_pool, stays_plan, refused-plan}
use Rattle.ops.proofs.Counts.{sized_counts}
use Rattle.ops.proofs.Moves.{refused_on_lem}
use Rattle.ops.proofs.resize_in_place.Goals as goal
use Rattle.ops.proofs.resize_in_place.Goals.{Else-not-stays_in, Start}

room : (s : Start) → Lent masks_layout s.args.row.bytes (length s.args.arena.now) s.args.room.now
room s = by_masks s.requires.room_value.0 s.args.row.lawful

stands : (s : Start) → Standing s.args.row.bytes (length s.args.arena.now) s.args.b
stands s = held_stands (room s) s.requires.holds.1

-- the size is one that can be asked for
small : (s : Start) → s.args.n < size_limit
small s = let h = s.requires.askable in omega (arith, h.small, enlarged_least s.args.b.alloc.align s.args.n)

-- the block can stay
stayed : (c : Else-not-stays_in) → (let a = c.args in stays_in a.b a.n ≡ true)
stayed c = sym c.stays_in.ensures ∙ c.if-not-stays_in.false

pub stays_in-requires-clause-class_bound : goal.stays_in-requires-clause-class_bound
stays_in-requires-clause-class_bound c =
    let h = stands (goal.at.stays_in-requires-clause-class_bound c).Start in
    (h.class, omega (arith, h.bytes))

pub returns-then-not-stays_in : goal.returns-then-not-stays_in
returns-then-not-stays_in c p h =
    rw (refused-plan h (pool_of p) c.args.n (sym c.stays_in.ensures ∙ c.if-not-stays_in.true))
    (refused_on_lem (room (goal.at.returns-then-not-stays_in c).Start) h c.args.arena.now c.args.t.now c.requires.room_value.1 NotInPlace)

pub reframe-requires-clause-standing : goal.reframe-requires-clause-standing
reframe-requires-clause-standing c = stands (goal.at.reframe-requires-clause-standing c).Start

pub reframe-requires-clause-fits : goal.reframe-requires-clause-fits
reframe-requires-clause-fits c =
    let here = goal.at.reframe-requires-clause-fits c in
    stays_fits c.args.b c.args.n (stayed here.Else-not-stays_in) (omega (arith, (stands here.Start).bytes))

pub handle_of-requires : goal.handle_of-requires
handle_of-requires c =
    let h = stands (goal.at.handle_of-requires c).Start in
    record { class_bound = (h.class, h.slot, omega (arith, h.few)); disp_bound = omega (arith, h.bytes) }

pub sized-requires : goal.sized-requires
sized-requires c =
    let d = sized_counts c.requires.holds.1 c.args.t.now c.requires.room_value.1 c.args.n (small (goal.at.sized-requires c).Start) in
    (_, d.0, d.1)

pub returns : goal.returns
unfolding resize_at
returns c p h =
    let w = c.resize_slot in
    let kept = c.min-kept in
    let a = c.args in
    rw (stays_plan h (pool_of p) a.n (stayed (goal.at.returns c).Else-not-stays_in)) (record {
      answer = ap (λ v. done (v ∷ [])) (c.handle_of.ensures ∙ ap (handle_at a.row.bytes) h.block);
      arena = in_place-writes h a.arena.now a.n kept.result c.reframe.new.arena kept.ensures c.reframe.ensures;
      kept = ap₂ kept_in (w.ensures a.row.bytes p h ∙ ap (encode a.row.bytes) (in_place_pool a.row.bytes p a.n))
          (c.sized.ensures _ (sized_counts h a.t.now c.requires.room_value.1 a.n (small (goal.at.returns c).Start)).0);
    })
