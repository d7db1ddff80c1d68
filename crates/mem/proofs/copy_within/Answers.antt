-- `copy_within` meets its contract: std's word for the copy is this crate's.
use Rattle.mem.proofs.Prelude.{◌≡◌, append_assoc, ◌+◌, ◌-◌, arith, length}
use Rattle.mem.specs.Bytes.{part}
use Rattle.mem.proofs.Laws.{part_length, put_split}
use Rattle.mem.proofs.copy_within.Goals as goal

pub returns : goal.returns
returns c =
    let a = c.args in
    let s = a.s.now in
    let e : a.from + a.n - a.from ≡ a.n = omega arith in
    let l : length (part a.from a.n s) ≡ a.n = part_length a.from a.n s (omega arith) in
    rw (put_split a.to (part a.from a.n s) s (omega arith), l, ← append_assoc) (rw e at c.copy_within.ensures.after)
