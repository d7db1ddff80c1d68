-- The texts of the sheet are those due: computed.
use Rattle.mem.proofs.Prelude.{refl}
use Rattle.mem.specs.Lists.{choose}
use Rattle.text.specs.Decimal.{decimal_in, decimal}
use Rattle.line_text.specs.Lines.{field, line_text}
use Rattle.line_text.specs.Sheet.{sheet, TextsDue}

pub texts_due : TextsDue
unfolding sheet line_text field decimal decimal_in choose
texts_due = refl
