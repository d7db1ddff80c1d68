-- `put_decimal` meets its contract: the digits are made in a local array, and copied to their place.
use Rattle.mem.proofs.Prelude.{◌∙◌, ap, List, ℕ, ◌+◌, arith, length}
use Rattle.mem.specs.Bytes.{put}
use Rattle.text.proofs.Laws.{digits_are, most}
use Rattle.text.proofs.put_decimal.Goals as goal

pub returns : goal.returns
returns c =
    let a = c.args in
    let e = c.decimal-k.ensures in
    let t = e.digits ∙ digits_are c.decimal-k.result a.n e.len in record { value = ap (λ (k : ℕ). a.at + k) (e.in_bounds.1 ∙ ap length t); out_after = c.copy_in.ensures ∙ ap (λ (t : List ℕ). put a.at t a.out.now) t; small = omega (arith, most a.n c.decimal-k.result (omega arith) e.len) }
