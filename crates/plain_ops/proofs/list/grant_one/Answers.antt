-- By what is reserved.
use Rattle.mem.proofs.Prelude.{◌∙◌, ◌≡◌, sym, ap, subst, Some, length}
use Rattle.classes.specs.Alignments.{ordinary}
use Rattle.model.specs.State.{Place}
use Rattle.model.specs.Plans.{reserve, enframe}
use Rattle.model.specs.Tables.{view_by}
use Rattle.model.specs.Plain.{slots_layout}
use Rattle.model.proofs.Reserve.{plain}
use Rattle.rows.specs.declared.Block.{Block}
use Rattle.rows.specs.Rows.{block_of, handle_at, owned_at}
use Rattle.model.specs.Blocks.{frame}
use Rattle.mem.specs.Bytes.{put}
use Rattle.frames.specs.Blocks.{Standing}
use Rattle.frames.specs.Grants.{handle_of, next_arena}
use Rattle.frames.proofs.Places.{reserved_stands}
use Rattle.plain_tables.proofs.Rooms.{by_slots}
use Rattle.frames.proofs.Reserved.{reserved_place}
use Rattle.plain_ops.proofs.list.grant_one.Goals as goal
use Rattle.plain_ops.proofs.list.grant_one.Goals.{In_ok-b}

-- the place that is reserved
place : (c : In_ok-b) → (let a = c.args in
    (q : Place) × (reserve a.row.bytes (view_by slots_layout a.row.bytes a.room.now) ordinary a.n ≡ Some q) × (block_of a.row.bytes q ≡ c.in_ok-b.b))
place c =
    let a = c.args in
    reserved_place a.row.bytes (reserve a.row.bytes (view_by slots_layout a.row.bytes a.room.now) ordinary a.n) c.in_ok-b.b
    (sym c.reserve_slot.ensures.value ∙ c.in_ok-b.was)

pub lay_out-requires : goal.lay_out-requires
lay_out-requires c =
    let a = c.args in
    let (q, f, e) = place (goal.at.lay_out-requires c).In_ok-b in record {
      standing = subst (Standing a.row.bytes (length a.arena.now)) e
          (reserved_stands (by_slots c.requires.room_value c.args.row.lawful) ordinary a.n (plain c.requires.n_lt_limit) q f);
    }

pub returns : goal.returns
unfolding enframe
returns c =
    let a = c.args in
    let (q, f, e) = place (goal.at.returns c).In_ok-b in
    let l = c.lay_out.ensures in record {
      value = ap Some (l.value ∙ ap (handle_at a.row.bytes) (sym e)) ∙ sym (ap (handle_of a.row.bytes) f);
      arena_after = l.arena_after ∙ ap (λ (b : Block). put (owned_at a.row.bytes b) (frame b.class b.slot b.alloc.disp b.alloc.size) a.arena.now) (sym e)
          ∙ sym (ap (next_arena a.row.bytes a.arena.now) f);
      room_after = c.reserve_slot.ensures.room_after;
    }
