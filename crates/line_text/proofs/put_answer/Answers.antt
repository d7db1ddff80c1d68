-- `put_answer` meets its contract: the number, the values and a newline.
use Rattle.mem.proofs.Prelude.{arith}
use Rattle.mem.specs.Lists.{join}
use Rattle.text.specs.Decimal.{decimal}
use Rattle.line_text.specs.Lines.{field, line_text}
use Rattle.line_text.proofs.Laws.{ended}
use Rattle.line_text.proofs.put_answer.Goals as goal

pub returns : goal.returns
unfolding line_text
returns c =
    let a = c.args in
    let e = c.put_fields-end.ensures in
    let n = c.put_decimal-told.ensures in
    let w = ended a.at (decimal a.number) (join field a.values.now) a.out.now c.put_decimal-told.result c.put_fields-end.result _ _
    n.value n.out_after e.value e.out_after in
    record { value = w.0; out_after = w.1; small = omega (arith, e.small, n.small) }
