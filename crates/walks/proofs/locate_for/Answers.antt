-- What the search finds, as it is judged for a size, is what is located for it.
use Rattle.mem.proofs.Prelude.{◌∙◌, sym, ap, subst}
use Rattle.model.specs.Plans.{lookup}
use Rattle.model.specs.Tables.{view_by}
use Rattle.rows.proofs.Rooms.{lent_by}
use Rattle.frames.specs.Blocks.{judged_for, located_for}
use Rattle.frames.proofs.Places.{Known, found_known, judged_for-looked}
use Rattle.walks.proofs.locate_for.Goals as goal

pub judge_for-requires : goal.judge_for-requires
judge_for-requires g c =
    let r = lent_by g.met.K.Keeping.laws c.requires.room_value c.args.row.lawful in
    let k = subst (Known r c.start_in.result) (sym c.find_block.ensures) (found_known r c.start_in.result) in
    record { lies = k.lies; found_bound = k.last_code }

pub returns : goal.returns
returns g c =
    let a = c.args in
    c.judge_for.ensures ∙ ap (judged_for a.row.bytes a.arena.now a.handle a.n) c.find_block.ensures
    ∙ judged_for-looked a.row.bytes a.arena.now a.handle a.n
    (lookup a.row.bytes (view_by g.K.Keeping.layout a.row.bytes a.room.now) c.start_in.result)
    ∙ ap (λ o. located_for a.row.bytes a.arena.now a.handle a.n (lookup a.row.bytes (view_by g.K.Keeping.layout a.row.bytes a.room.now) o))
    c.start_in.ensures
