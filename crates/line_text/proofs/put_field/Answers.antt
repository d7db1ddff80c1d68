-- `put_field` meets its contract: a byte, and the number behind it.
use Rattle.mem.proofs.Prelude.{◌∙◌, sym, add-one, arith}
use Rattle.mem.proofs.Laws.{put-cons}
use Rattle.text.specs.Decimal.{decimal}
use Rattle.line_text.specs.Lines.{field}
use Rattle.line_text.proofs.put_field.Goals as goal

pub returns : goal.returns
unfolding field
returns c =
    let a = c.args in
    let e = c.put_decimal.ensures in
    record { value = omega (arith, e.value); out_after = rw add-one at e.out_after ∙ sym (put-cons a.at 32 (decimal a.n) a.out.now); small = omega (arith, e.small) }
