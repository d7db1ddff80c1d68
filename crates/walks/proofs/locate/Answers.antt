-- What the search finds, as it is judged, is what is located.
use Rattle.mem.proofs.Prelude.{◌∙◌, sym, ap, subst, length}
use Rattle.model.specs.Plans.{lookup}
use Rattle.model.specs.Tables.{view_by}
use Rattle.rows.proofs.Rooms.{lent_by}
use Rattle.frames.specs.Blocks.{Lies, judged, located}
use Rattle.frames.proofs.Places.{found_lies, judged-looked}
use Rattle.walks.proofs.locate.Goals as goal

pub judge-requires : goal.judge-requires
judge-requires g c =
    let a = c.args in record {
      lies = subst (Lies a.row.bytes (length a.arena.now)) (sym c.find_block.ensures)
          (found_lies (lent_by g.met.K.Keeping.laws c.requires.room_value c.args.row.lawful) c.start_in.result);
    }

pub returns : goal.returns
returns g c =
    let a = c.args in
    c.judge.ensures ∙ ap (judged a.row.bytes a.arena.now a.handle) c.find_block.ensures
    ∙ judged-looked a.row.bytes a.arena.now a.handle (lookup a.row.bytes (view_by g.K.Keeping.layout a.row.bytes a.room.now) c.start_in.result)
    ∙ ap (λ o. located a.row.bytes a.arena.now a.handle (lookup a.row.bytes (view_by g.K.Keeping.layout a.row.bytes a.room.now) o)) c.start_in.ensures
