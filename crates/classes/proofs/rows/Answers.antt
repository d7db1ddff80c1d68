-- `rows` computes the definition, with what `units` and `slots` give.
use Rattle.mem.proofs.Prelude.{◌∙◌, ◌≡◌, ap, ◌+◌, ◌*◌, ◌-◌, ◌/◌, arith}
use Rattle.classes.specs.Classes.{slot_bytes, slots_of, rows_of}
use Rattle.classes.proofs.Laws.{rows_pos, rows-small}
use Rattle.classes.proofs.rows.Goals as goal
use Rattle.classes.proofs.rows.Goals.{After-slots}

-- the bytes of the slots
bytes : (c : After-slots) → 16 * c.units.result * c.slots.result ≡ slot_bytes c.args.c * slots_of c.args.c
unfolding slot_bytes
bytes c = rw (c.units.ensures.value, c.slots.ensures.value)

pub returns : goal.returns
unfolding rows_of
returns c =
    let a = c.args in
    let e = c.whole_rows.ensures ∙ ap (λ n. (16 + n + (a.row.bytes - 1)) / a.row.bytes) (bytes (goal.at.returns c).After-slots) in
    record { value = e; small = (rw e (rows_pos a.row.bytes a.c (omega arith)), rw e (rows-small a.row.bytes a.c (omega arith))) }
