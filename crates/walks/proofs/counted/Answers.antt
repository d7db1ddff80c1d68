-- `counted` meets its contract: the head of the room, and what its rows count.
use Rattle.mem.proofs.Prelude.{◌∙◌, ◌≡◌, sym, arith, length, drop}
use Rattle.mem.proofs.Tests.{choose-false, nonzero_some, nonzero_none}
use Rattle.model.specs.Tables.{row_at, sound_by}
use Rattle.rows.specs.Checks.{room_rows, rows_checked}
use Rattle.rows.proofs.Checks.{under_none, under_some}
use Rattle.rows.proofs.Counts.{room_counted}
use Rattle.walks.proofs.counted.Given.{Over}
use Rattle.walks.proofs.counted.Goals as goal
use Rattle.walks.proofs.counted.Goals.{In_ok-n}

pub returns-in_err-n : goal.returns-in_err-n
returns-in_err-n g c =
    let a = c.args in
    let k = nonzero_none (room_rows a.row.bytes a.len a.room.now) (sym c.rows_under.ensures.value ∙ c.in_err-n.was) in
    c.from_residual.ensures ∙ sym (choose-false (sound_by g.K.Keeping.layout a.row.bytes a.len a.room.now) _ _
    (under_none g.met.K.Keeping.laws a.row.bytes (omega arith) (omega arith) a.len a.room.now (λ i. omega (arith, c.type_inv.room i)) k))

-- past the test of the head
rows_left : (g : Over) (e : In_ok-n g) → (let L = g.K.Keeping.layout in
    let a = e.args in
    let t = a.room.now in
    let n = e.in_ok-n.n in
    (length t ≡ row_at n) × (sound_by L a.row.bytes a.len t ≡ rows_checked L a.row.bytes 0 n (drop 16 t)))
rows_left g e =
    let a = e.args in
    let (k, h) = nonzero_some (room_rows a.row.bytes a.len a.room.now) e.in_ok-n.n (sym e.rows_under.ensures.value ∙ e.in_ok-n.was) in
    rw (← k) (under_some g.met.K.Keeping.laws a.row.bytes (omega arith) (omega arith) a.len a.room.now (λ i. omega (arith, e.type_inv.room i)) (λ z. omega (arith, k, h, z)))

pub rows_counted-requires : goal.rows_counted-requires
rows_counted-requires g c = record { n_le_most_rows = (c.in_ok-n.ensures.small.1, (rows_left g c).0) }

pub returns : goal.returns
returns g c =
    let a = c.args in
    let (e, f) = rows_left g (goal.at.returns g c).In_ok-n in
    c.rows_counted.ensures ∙ room_counted g.K.Keeping.layout a.row.bytes a.len c.in_ok-n.n a.room.now e f
