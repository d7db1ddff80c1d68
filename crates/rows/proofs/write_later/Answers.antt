-- `write_later` meets its contract. The invariant: writing what is left of the later rows makes all of them written.
use Rattle.mem.proofs.Prelude.{◌∙◌, ◌≡◌, sym, ap, List, [], ◌+◌, ℕ, ◌<◌, ◌-◌, suc, add-one, arith, lit≤, length}
use Rattle.mem.specs.Bytes.{put}
use Rattle.mem.proofs.Laws.{put-nil, put-append}
use Rattle.model.specs.declared.Holder.{Holder}
use Rattle.model.specs.Tables.{row_at, row_record, later_records}
use Rattle.model.proofs.Tables.{row_length}
use Rattle.rows.proofs.write_later.Goals as goal

-- one turn
turn : (i n k : ℕ) (s : List ℕ) → k < n
    → put (row_at (i + (k + 1))) (later_records (n - (k + 1)) (k + 1)) (put (row_at (i + k)) (row_record (Holder.Later k) []) s)
    ≡ put (row_at (i + k)) (later_records (n - k) k) s
unfolding later_records
turn i n k s h =
    let e : n - k ≡ suc (n - (k + 1)) = omega arith in
    let f : row_at (i + (k + 1)) ≡ row_at (i + k) + length (row_record (Holder.Later k) []) = omega (arith, row_length (Holder.Later k) [] (lit≤ tt)) in
    sym (ap (λ m. put (row_at (i + k)) (later_records m k) s) e
    ∙ put-append (row_at (i + k)) (row_record (Holder.Later k) []) (later_records (n - (k + 1)) (suc k)) s
    ∙ rw (← f, add-one k))

pub loop-k-preserved : goal.loop-k-preserved
loop-k-preserved c =
    let l = c.loop-k in
    rw c.write_row.ensures (turn c.args.i c.args.n l.k l.room (omega arith)) ∙ l.invariant

pub returns : goal.returns
unfolding later_records
returns c =
    let l = c.loop-k in
    let a = c.args in
    let e : a.n - l.k ≡ 0 = omega arith in
    sym (put-nil (row_at (a.i + l.k)) l.room) ∙ ap (λ m. put (row_at (a.i + l.k)) (later_records m l.k) l.room) (sym e) ∙ l.invariant
