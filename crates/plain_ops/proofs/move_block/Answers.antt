-- A grant, a copy and a release; the old block is still there for the release, and apart from the new one.
use Rattle.mem.proofs.Prelude.{◌∙◌, ◌≡◌, sym, ap, ap₂, subst, ⊎_elim, inl, inr, Some, Err, min, arith, length}
use Rattle.std.specs.Result.{result_ok}
use Rattle.mem.specs.Bytes.{put, part}
use Rattle.mem.proofs.Laws.{put-length}
use Rattle.model.specs.declared.Refusal.TheVariants.{NoRoom}
use Rattle.model.specs.State.{Place, pool_of}
use Rattle.model.specs.Plans.{reserve}
use Rattle.model.specs.Tables.{view_by, sound_by, encode_by}
use Rattle.model.specs.Plain.{slots_layout}
use Rattle.rows.specs.Rows.{Lent, block_of, start_at, Holds}
use Rattle.frames.specs.Blocks.{Standing, next_room_by}
use Rattle.frames.proofs.Places.{held_stands}
use Rattle.frames.proofs.Moves.{reserve-leaves, beside, beside_holds, copy_apart, taken-size, moved, unmoved_plan}
use Rattle.frames.proofs.Plans.{refused_on_lem}
use Rattle.plain_tables.proofs.Rooms.{by_slots}
use Rattle.frames.proofs.Reserved.{reserved_place, reserved-none}
use Rattle.plain_ops.proofs.move_block.Goals as goal
use Rattle.plain_ops.proofs.move_block.Goals.{In_ok-q, Start}

room : (s : Start) → Lent slots_layout s.args.row.bytes (length s.args.arena.now) s.args.room.now
room s = by_slots s.requires.room_value s.args.row.lawful

pub returns-in_err-q : goal.returns-in_err-q
returns-in_err-q c p h =
    let a = c.args in
    let e = reserved-none a.row.bytes (reserve a.row.bytes (view_by slots_layout a.row.bytes a.room.now) a.b.alloc.align a.n)
    (sym c.reserve_slot.ensures.value ∙ c.ok_or.ensures.ok_part ∙ ap result_ok c.in_err-q.was) in
    let w : c.from_residual.result ≡ Err NoRoom = grind arith in
    rw (
      w,
      c.reserve_slot.ensures.room_after ∙ ap (next_room_by slots_layout a.row.bytes a.room.now) e,
      unmoved_plan (room (goal.at.returns-in_err-q c).Start) a.b.alloc.align a.n h (ap (λ b. b.alloc.align) h.block) e,
    )
    (refused_on_lem h a.arena.now NoRoom)

-- the place that is taken, and the room with it
new : (c : In_ok-q) → (let a = c.args in
    (q : Place) × (reserve a.row.bytes (view_by slots_layout a.row.bytes a.room.now) a.b.alloc.align a.n ≡ Some q) × (block_of a.row.bytes q
    ≡ c.in_ok-q.q))
new c =
    let a = c.args in
    reserved_place a.row.bytes (reserve a.row.bytes (view_by slots_layout a.row.bytes a.room.now) a.b.alloc.align a.n) c.in_ok-q.q
    (sym c.reserve_slot.ensures.value ∙ c.ok_or.ensures.ok_part ∙ ap result_ok c.in_ok-q.was)

after : (c : In_ok-q) → (c.reserve_slot.new.room ≡ encode_by slots_layout c.args.row.bytes (pool_of (new c).0))
after c =
    let a = c.args in
    c.reserve_slot.ensures.room_after ∙ ap (next_room_by slots_layout a.row.bytes a.room.now) (new c).1

-- the new block stands in the arena, and the old one
stands : (c : In_ok-q) → (let a = c.args in
    Standing a.row.bytes (length a.arena.now) c.in_ok-q.q)
stands c =
    let (q, f, e) = new c in
    rw (sym e) (reserve-leaves (room (goal.at.In_ok-q c).Start) c.args.b.alloc.align c.args.n c.requires.askable q f).stands

old : (s : Start) → Standing s.args.row.bytes (length s.args.arena.now) s.args.b
old s = held_stands (room s) s.requires.holds.1

pub start_of-requires : goal.start_of-requires
start_of-requires c =
    let h = old (goal.at.start_of-requires c).Start in
    record { class_bound = (h.class, h.slot, omega (arith, h.few)); disp_bound = omega (arith, h.bytes) }

pub start_of-requires-2 : goal.start_of-requires-2
start_of-requires-2 c =
    let h = stands (goal.at.start_of-requires-2 c).In_ok-q in
    record { class_bound = (h.class, h.slot, omega (arith, h.few)); disp_bound = omega (arith, h.bytes) }

pub copy_within-requires : goal.copy_within-requires
copy_within-requires c =
    let a = c.args in
    let (q, f, e) = new (goal.at.copy_within-requires c).In_ok-q in
    let h = stands (goal.at.copy_within-requires c).In_ok-q in
    let o = old (goal.at.copy_within-requires c).Start in
    let x = c.lay_out-handle in
    let l : length x.new.arena ≡ length a.arena.now = ap length x.ensures.arena_after ∙ put-length _ _ a.arena.now in
    let from = c.start_of.ensures.value in
    let at = c.start_of-2.ensures.value in
    let to = at ∙ ap (start_at a.row.bytes) (sym e) in
    let z = taken-size (room (goal.at.copy_within-requires c).Start) a.b.alloc.align a.n c.requires.askable q f c.requires.holds.1 in
    let zb = ap (λ b. b.alloc.size) e in
    let m = c.min.ensures in record {
      n_in_bounds = (
        omega (arith, l, from, m, o.owned, o.bytes),
        omega (arith, l, at, m, h.owned, h.bytes, z, zb),
      );
      apart = ⊎_elim (λ x. inl (omega (arith, x, from, to, m))) (λ x. inr (omega (arith, x, from, to, m)))
          (copy_apart (room (goal.at.copy_within-requires c).Start) a.b.alloc.align a.n c.requires.askable q f c.requires.holds.1 (min a.b.alloc.size a.n) (omega arith)
          (omega (arith, z)));
    }

-- the old block in the room that the grant left
still : (c : In_ok-q) → (let a = c.args in
    (p : Place) (h : Holds slots_layout a.row.bytes a.room.now a.b p)
    → Holds slots_layout a.row.bytes c.reserve_slot.new.room a.b
    (beside (room (goal.at.In_ok-q c).Start) a.b.alloc.align a.n c.requires.askable (new c).0 (new c).1 h).place)
still c p h =
    subst (λ u. Holds slots_layout c.args.row.bytes u c.args.b (beside (room (goal.at.In_ok-q c).Start) c.args.b.alloc.align c.args.n c.requires.askable (new c).0
    (new c).1 h).place)
    (sym (after c)) (beside_holds (room (goal.at.In_ok-q c).Start) c.args.b.alloc.align c.args.n c.requires.askable (new c).0 (new c).1 h)

pub discard-requires : goal.discard-requires
discard-requires c =
    let a = c.args in
    let x = c.lay_out-handle in
    let y = c.copy_within in
    let l : length y.new.s ≡ length a.arena.now = ap length y.ensures ∙ put-length _ _ x.new.arena ∙ ap length x.ensures.arena_after
    ∙ put-length _ _ a.arena.now in
    let (q, f, e) = new (goal.at.discard-requires c).In_ok-q in record { room_value = ap₂ (sound_by slots_layout a.row.bytes) l (after (goal.at.discard-requires c).In_ok-q) ∙ (reserve-leaves (room (goal.at.discard-requires c).Start) a.b.alloc.align a.n c.requires.askable q f).room.sound; holds = (_, still (goal.at.discard-requires c).In_ok-q c.requires.holds.0 c.requires.holds.1) }

pub returns : goal.returns
returns c p h =
    let a = c.args in
    let x = c.lay_out-handle in
    let y = c.copy_within in
    let d = c.discard in
    let from = c.start_of in
    let to = c.start_of-2 in
    let m = c.min in
    let b = c.in_ok-q.q in
    let g = d.ensures _ (still (goal.at.returns c).In_ok-q p h) in
    let copied : y.new.s ≡ put (start_at a.row.bytes b) (part (start_at a.row.bytes a.b) (min a.b.alloc.size a.n) x.new.arena) x.new.arena =
    y.ensures ∙ rw (to.ensures.value, from.ensures.value, m.ensures) in
    moved (room (goal.at.returns c).Start) a.b.alloc.align a.n c.requires.askable (new (goal.at.returns c).In_ok-q).0 (new (goal.at.returns c).In_ok-q).1 h b a.arena.now x.new.arena y.new.s d.new.arena
    d.new.room
    x.result (new (goal.at.returns c).In_ok-q).2 x.ensures.arena_after copied g.0 g.1 x.ensures.value (ap (λ b. b.alloc.align) h.block)

pub lay_out-handle-requires : goal.lay_out-handle-requires
lay_out-handle-requires c = record { standing = stands (goal.at.lay_out-handle-requires c).In_ok-q }
