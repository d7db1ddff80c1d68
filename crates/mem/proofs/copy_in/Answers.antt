-- `copy_in` meets its contract. The invariant: writing what is left of `v` makes the whole written.
use Rattle.mem.proofs.Prelude.{◌∙◌, ◌≡◌, sym, List, ◌+◌, ℕ, ◌<◌, suc, add-one, arith, length, drop, get_or}
use Rattle.mem.proofs.Prelude.{set, drop-cons}
use lib.ListN.{drop_of_length-le}
use Rattle.mem.specs.Bytes.{put}
use Rattle.mem.proofs.Laws.{put-nil, put-cons}
use Rattle.mem.proofs.copy_in.Goals as goal

-- one turn
turn : (at i : ℕ) (v s : List ℕ) → i < length v
    → put (at + i) (drop i v) s ≡ put (at + (i + 1)) (drop (i + 1) v) (set s (at + i) (get_or v i 0))
turn at i v s h =
    let e : suc (at + i) ≡ at + suc i = omega arith in
    rw (add-one, ← e, drop-cons v i 0) (put-cons (at + i) (get_or v i 0) (drop (suc i) v) s)

pub loop-i-preserved : goal.loop-i-preserved
loop-i-preserved c =
    let l = c.loop-i in
    let a = c.args in
    sym (turn a.at l.i a.v.now l.s (omega arith)) ∙ l.invariant

pub returns : goal.returns
returns c =
    let l = c.loop-i in
    let a = c.args in
    sym (put-nil (a.at + l.i) l.s) ∙ rw (drop_of_length-le a.v.now c.loop-i-test.false) at l.invariant
