-- `make_group` meets its contract: the record of a slot that was never granted is all zeros.
use Rattle.mem.proofs.Prelude.{◌∙◌, ◌≡◌, sym, ap, refl, List, [], ◌++◌, ◌+◌, ℕ, ◌≤◌, ◌*◌, ◌-◌, suc, zero}
use Rattle.mem.proofs.Prelude.{arith, length, replicate, length-replicate}
use Rattle.mem.specs.Lists.{join}
use Rattle.mem.specs.Bytes.{zeros, put}
use Rattle.mem.proofs.Laws.{zeros-add, put-append}
use Rattle.classes.specs.Classes.{slots_of, rows_of}
use Rattle.classes.proofs.Laws.{slots_small, rows_pos}
use Rattle.model.specs.declared.Slot.{Slot}
use Rattle.model.specs.declared.Slot.TheVariants.{Fresh}
use Rattle.model.specs.declared.Holder.TheVariants.{First}
use Rattle.model.specs.State.{group}
use Rattle.model.specs.Tables.{row_at, row_record, holder_bytes, later_records, span_records_by}
use Rattle.model.specs.Plain.{plain_record, plain_row, slots_layout}
use Rattle.model.proofs.Plain.{slots_laws}
use Rattle.rows.proofs.Checks.{row_form}
use Rattle.plain_changes.proofs.make_group.Goals as goal

fresh_records : (n : ℕ) → join plain_record (replicate n Fresh) ≡ zeros (8 * n)
unfolding plain_record zeros
fresh_records zero = refl
fresh_records (suc n) =
    let e : 8 + 8 * n ≡ 8 * suc n = omega arith in
    ap (λ t. zeros 8 ++ t) (fresh_records n) ∙ sym (zeros-add 8 (8 * n)) ∙ ap zeros e

-- a group's first row is that of a row that keeps no slots
first : (c n : ℕ) → n ≤ 31 → plain_row c (replicate n Fresh) ≡ row_record (First c) []
unfolding plain_row
first c n h =
    let l : length (replicate n Fresh) ≡ n = length-replicate n Fresh in
    let e : 14 + (8 * n + 8 * (31 - length (replicate n Fresh))) ≡ 262 = omega arith in
    ap (λ t. holder_bytes (First c) ++ (zeros 14 ++ (t ++ zeros (8 * (31 - length (replicate n Fresh)))))) (fresh_records n)
    ∙ ap (λ t. holder_bytes (First c) ++ (zeros 14 ++ t)) (sym (zeros-add (8 * n) (8 * (31 - length (replicate n Fresh)))))
    ∙ ap (λ t. holder_bytes (First c) ++ t) (sym (zeros-add 14 (8 * n + 8 * (31 - length (replicate n Fresh)))) ∙ ap zeros e)
    ∙ sym (row_form (First c))

-- the two writes together
made : (row i c k : ℕ) (s s₁ s₂ : List ℕ) → s₁ ≡ put (row_at i) (row_record (First c) []) s → k ≡ rows_of row c
    → s₂ ≡ put (row_at (i + 1)) (later_records (k - 1) 1) s₁ → s₂ ≡ put (row_at i) (span_records_by slots_layout row (group c (replicate (slots_of c) Fresh))) s
unfolding span_records_by
made row i c k s s₁ s₂ e₁ ek e₂ =
    let ss : List Slot = replicate (slots_of c) Fresh in
    let l : length ss ≡ slots_of c = length-replicate (slots_of c) Fresh in
    let f : row_at (i + 1) ≡ row_at i + length (plain_row c ss) = omega (arith, slots_laws.long c ss (omega (arith, slots_small c))) in
    rw (e₂, e₁, ek, f, ← first c (slots_of c) (slots_small c)) (sym (put-append (row_at i) (plain_row c ss) (later_records (rows_of row c - 1) 1) s))

pub write_row-requires : goal.write_row-requires
write_row-requires c =
    let a = c.args in (omega (arith, rows_pos a.row.bytes a.c (omega arith)), omega (arith, rows_pos a.row.bytes a.c (omega arith)))

pub returns : goal.returns
returns c =
    let a = c.args in
    made a.row.bytes a.i a.c c.rows.result a.room.now c.write_row.new.room c.write_later.new.room c.write_row.ensures
    c.rows.ensures.value c.write_later.ensures
