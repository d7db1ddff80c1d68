-- `drop_rows` meets its contract.
use Rattle.mem.proofs.Prelude.{◌∙◌, ◌≡◌, ap₂, ◌*◌, ◌-◌, arith}
use Rattle.model.specs.Tables.{row_record_bytes}
use Rattle.mem.specs.Bytes.{zeros, put}
use Rattle.rows.proofs.drop_rows.Goals as goal

pub returns : goal.returns
returns c =
    let a = c.args in
    let e : c.row_at-2.result - c.row_at.result ≡ row_record_bytes * a.n = omega arith in
    c.clear.ensures ∙ ap₂ (λ p k. put p (zeros k) a.room.now) c.row_at.ensures e
