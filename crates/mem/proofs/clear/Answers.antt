-- `clear` meets its contract: std's fill of a part, back in its place.
use Rattle.mem.proofs.Prelude.{◌∙◌, ◌≡◌, ap, ◌-◌, arith, length}
use Rattle.mem.specs.Bytes.{zeros, part, put}
use Rattle.mem.proofs.Laws.{part_length, put-part}
use Rattle.mem.proofs.clear.Goals as goal

pub returns : goal.returns
unfolding zeros
returns c =
    let a = c.args in
    let n = a.to - a.from in
    let e : length (part a.from n a.s.now) ≡ n = part_length a.from n a.s.now (omega arith) in
    put-part a.from n c.fill.new.self a.s.now (c.fill.ensures.len ∙ e) (omega arith)
    ∙ ap (λ v. put a.from v a.s.now) (c.fill.ensures.after (λ y h. h) ∙ ap zeros e)
