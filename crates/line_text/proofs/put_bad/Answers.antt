-- `put_bad` meets its contract: the word, the number and a newline.
use Rattle.mem.proofs.Prelude.{refl, [], ◌∷◌, arith}
use Rattle.line_text.specs.Lines.{field, line_text}
use Rattle.line_text.proofs.Laws.{ended}
use Rattle.line_text.proofs.put_bad.Goals as goal

pub returns : goal.returns
unfolding line_text
returns c =
    let a = c.args in
    let e = c.put_field-end.ensures in
    let w = ended a.at (98 ∷ 97 ∷ 100 ∷ []) (field a.count) a.out.now _ c.put_field-end.result _ _ refl c.copy_in.ensures e.value e.out_after in
    record { value = w.0; out_after = w.1; small = omega (arith, e.small) }
