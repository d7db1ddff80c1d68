-- The class is that of the enlarged size, and the search begins at row 0.
use Rattle.mem.proofs.Prelude.{◌∙◌, ap, arith}
use Rattle.classes.specs.Classes.{class_of}
use Rattle.classes.proofs.Alignments.{enlarged_least}
use Rattle.model.specs.Tables.{masks_layout}
use Rattle.rows.proofs.Walks.{open_start}
use Rattle.reserving.proofs.reserve_slot.Goals as goal

pub enlarged-requires : goal.enlarged-requires
enlarged-requires c =
    let h = c.requires.askable in
    (h.last_code, omega (arith, h.small, enlarged_least c.args.code c.args.n))

pub class_of-c-requires : goal.class_of-c-requires
class_of-c-requires c = omega (arith, c.requires.askable.small, c.enlarged.ensures.value)

pub reserve_in-requires : goal.reserve_in-requires
reserve_in-requires c =
    let e = c.class_of-c.ensures.value ∙ ap class_of c.enlarged.ensures.value in
    record { room_value = c.requires.room_value; askable = c.requires.askable; c_value = (e, c.class_of-c.ensures.small, open_start masks_layout c.args.row.bytes c.args.room.now c.class_of-c.result, c.requires.totals_value) }
