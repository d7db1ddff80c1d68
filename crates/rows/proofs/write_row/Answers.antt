-- `write_row` meets its contract: the holder's bytes stand before zeros.
use Rattle.mem.proofs.Prelude.{◌∙◌, ◌≡◌, sym, ap, List, [], ◌++◌, ◌+◌, ℕ, ◌-◌, add-zero, arith, lit≤}
use Rattle.mem.specs.Bytes.{zeros, put}
use Rattle.mem.proofs.Laws.{put-put}
use Rattle.model.specs.declared.Holder.{Holder}
use Rattle.model.specs.declared.Holder.TheVariants.{Free, First, Later}
use Rattle.model.specs.Tables.{row_at, holder_bytes, row_record, row_record_bytes}
use Rattle.rows.proofs.Checks.{row_form}
use Rattle.rows.proofs.write_row.Goals as goal

whole : (p : ℕ) (h : Holder) (s : List ℕ) → put (p + 0) (holder_bytes h) (put p (zeros row_record_bytes) s) ≡ put p (holder_bytes h ++ zeros 262) s
unfolding zeros
whole p Free s = put-put p 0 (holder_bytes Free) (zeros row_record_bytes) s (lit≤ tt)
whole p (First c) s = put-put p 0 (holder_bytes (First c)) (zeros row_record_bytes) s (lit≤ tt)
whole p (Later k) s = put-put p 0 (holder_bytes (Later k)) (zeros row_record_bytes) s (lit≤ tt)

written : (i p : ℕ) (h : Holder) (s s₁ : List ℕ) → p ≡ row_at i → s₁ ≡ put p (zeros (p + row_record_bytes - p)) s → put p (holder_bytes h) s₁
    ≡ put (row_at i) (row_record h []) s
written i p h s s₁ e f =
    let d : p + row_record_bytes - p ≡ row_record_bytes = omega arith in
    rw (f, d, row_form h) (ap (λ q. put q (holder_bytes h) (put p (zeros row_record_bytes) s)) (sym (add-zero p)) ∙ whole p h s)
    ∙ ap (λ q. put q (row_record h []) s) e

pub returns : goal.returns
returns c =
    let held = c.holder_bytes-holder in
    let cleared = c.clear in
    let a = c.args in
    c.copy_in.ensures
    ∙ rw held.ensures (written a.i c.row_at-at.result a.h a.room.now cleared.new.s c.row_at-at.ensures cleared.ensures)
