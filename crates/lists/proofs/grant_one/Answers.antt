-- By what is reserved.
use Rattle.mem.proofs.Prelude.{◌∙◌, ◌≡◌, sym, ap, None, arith, length}
use Rattle.classes.specs.Alignments.{ordinary}
use Rattle.model.specs.Plans.{reserve}
use Rattle.model.proofs.Reserve.{plain}
use Rattle.model.specs.Tables.{masks_layout, view}
use Rattle.rows.specs.Rows.{Lent}
use Rattle.rows.proofs.Rooms.{by_masks}
use Rattle.frames.proofs.Reserved.{reserved-none}
use Rattle.frames.specs.Grants.{next_arena}
use Rattle.lists.specs.Grants.{placed_as}
use Rattle.lists.proofs.Grants.{GrantedOne, granted_one}
use Rattle.lists.proofs.grant_one.Goals as goal
use Rattle.lists.proofs.grant_one.Goals.{In_ok-b, Start}

lent : (s : Start) → Lent masks_layout s.args.row.bytes (length s.args.arena.now) s.args.room.now
lent s = by_masks s.requires.room_value s.args.row.lawful

pub reserve_in-requires : goal.reserve_in-requires
reserve_in-requires c =
    let (h, p, q) = c.requires.size_known in
    record { room_value = c.requires.room_value; askable = plain h; c_value = (c.args.s.class_is, c.args.s.small, p, q) }

pub returns-in_err-b : goal.returns-in_err-b
returns-in_err-b c =
    let a = c.args in
    let r = reserved-none a.row.bytes (reserve a.row.bytes (view a.row.bytes a.room.now) ordinary a.s.size) (sym c.reserve_in.ensures.value ∙ c.in_err-b.was) in
    let e : c.from_residual.result ≡ None = grind arith in
    record {
      value = e ∙ sym (ap (placed_as a.row.bytes) r);
      arena_after = sym (ap (next_arena a.row.bytes a.arena.now) r);
      room_after = c.reserve_in.ensures.room_after;
      totals_after = c.reserve_in.ensures.totals_after;
    }

-- the block that is granted
block : (c : In_ok-b) → (GrantedOne (lent (goal.at.In_ok-b c).Start) c.args.s.size c.requires.size_known.0 c.args.arena.now c.in_ok-b.b)
block c =
    granted_one (lent (goal.at.In_ok-b c).Start) c.args.s.size c.requires.size_known.0 c.args.arena.now c.in_ok-b.b
    (sym c.reserve_in.ensures.value ∙ c.in_ok-b.was)

pub lay_out-handle-requires : goal.lay_out-handle-requires
lay_out-handle-requires c =
    record { standing = (block (goal.at.lay_out-handle-requires c).In_ok-b).stands }

pub returns : goal.returns
returns c =
    let g = block (goal.at.returns c).In_ok-b in
    let l = c.lay_out-handle.ensures in
    let r = c.reserve_in.ensures in
    record { value = rw l.value g.placed; arena_after = l.arena_after ∙ g.arena; room_after = r.room_after; totals_after = r.totals_after }
