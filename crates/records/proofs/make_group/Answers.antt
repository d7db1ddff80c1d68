-- `make_group` meets its contract.
use Rattle.mem.proofs.Prelude.{◌∙◌, ◌≡◌, sym, ap, refl, List, [], ◌++◌, map, ◌+◌, ℕ, ◌≤◌, ◌*◌, ◌-◌, suc, zero, ◌^◌, pow-suc, arith, lit≤}
use Rattle.mem.proofs.Prelude.{length, replicate, length-replicate}
use lib.Pow.{pow_pos}
use Rattle.mem.specs.Lists.{join}
use Rattle.mem.specs.Bytes.{zeros, low, mask, put}
use Rattle.mem.proofs.Laws.{zeros-none, zeros-add, put-append, put-put}
use Rattle.classes.specs.Classes.{slots_of, rows_of}
use Rattle.classes.proofs.Laws.{slots_small, rows_pos}
use Rattle.model.specs.declared.Slot.{Slot}
use Rattle.model.specs.declared.Holder.{Holder}
use Rattle.model.specs.State.{group, is_ready, is_waiting}
use Rattle.model.specs.Tables.{row_at, slot_record, row_record, later_records, span_records, span_records_by}
use Rattle.model.proofs.Tables.{row_length}
use Rattle.records.proofs.make_group.Goals as goal

-- n slots that were never granted
fresh_ready : (n : ℕ) → mask (map is_ready (replicate n Slot.Fresh)) ≡ 2 ^ n - 1
fresh_ready zero = refl
fresh_ready (suc n) = rw (fresh_ready n, pow-suc) (omega (arith, pow_pos n))

fresh_waiting : (n : ℕ) → mask (map is_waiting (replicate n Slot.Fresh)) ≡ 0
fresh_waiting zero = refl
fresh_waiting (suc n) = rw (fresh_waiting n)

fresh_records : (n : ℕ) → join slot_record (replicate n Slot.Fresh) ≡ zeros (8 * n)
unfolding slot_record
fresh_records zero = sym zeros-none
fresh_records (suc n) =
    let e : 8 + 8 * n ≡ 8 * suc n = omega arith in
    rw (fresh_records n) (sym (zeros-add 8 (8 * n)) ∙ ap zeros e)

-- the record of their first row
first : (c n : ℕ) → n ≤ 31
    → put 8 (low 4 (2 ^ n - 1) ++ low 4 0) (row_record (Holder.First c) []) ≡ row_record (Holder.First c) (replicate n Slot.Fresh)
unfolding row_record zeros
first c n h =
    let l : length (replicate n Slot.Fresh) ≡ n = length-replicate n Slot.Fresh in
    let e : 8 * n + 8 * (31 - length (replicate n Slot.Fresh)) ≡ 248 = omega arith in
    let z : join slot_record (replicate n Slot.Fresh) ++ zeros (8 * (31 - length (replicate n Slot.Fresh))) ≡ zeros 248 =
    rw (fresh_records n) (sym (zeros-add (8 * n) (8 * (31 - length (replicate n Slot.Fresh)))) ∙ ap zeros e) in
    sym (rw (fresh_ready n, fresh_waiting n, z))

-- the three writes together
made : (row i c n b p k : ℕ) (v s s₁ s₂ s₃ : List ℕ) → s₁ ≡ put (row_at i) (row_record (Holder.First c) []) s → n ≡ slots_of c → b ≡ 2 ^ n
    → v ≡ low 4 (b - 1) ++ low 4 0 → p ≡ row_at i → s₂ ≡ put (p + 8) v s₁ → k ≡ rows_of row c
    → s₃ ≡ put (row_at (i + 1)) (later_records (k - 1) 1) s₂
    → s₃ ≡ put (row_at i) (span_records row (group c (replicate (slots_of c) Slot.Fresh))) s
unfolding span_records_by zeros row_record
made row i c n b p k v s s₁ s₂ s₃ e₁ en eb ev ep e₂ ek e₃ =
    let ss : List Slot = replicate (slots_of c) Slot.Fresh in
    let l : length ss ≡ slots_of c = length-replicate (slots_of c) Slot.Fresh in
    let f : row_at (i + 1) ≡ row_at i + length (row_record (Holder.First c) ss) =
    omega (arith, row_length (Holder.First c) ss (omega (arith, slots_small c))) in
    let h : s₂ ≡ put (row_at i) (row_record (Holder.First c) ss) s =
    rw (e₂, e₁, ev, eb, en, ep)
    (put-put (row_at i) 8 (low 4 (2 ^ slots_of c - 1) ++ low 4 0) (row_record (Holder.First c) []) s (lit≤ tt)
    ∙ ap (λ r. put (row_at i) r s) (first c (slots_of c) (slots_small c))) in
    rw (e₃, h, ek, f) (sym (put-append (row_at i) (row_record (Holder.First c) ss) (later_records (rows_of row c - 1) 1) s))

pub write_row-requires : goal.write_row-requires
write_row-requires c =
    let a = c.args in (omega (arith, rows_pos a.row.bytes a.c (omega arith)), omega (arith, rows_pos a.row.bytes a.c (omega arith)))

pub copy_in-requires : goal.copy_in-requires
copy_in-requires c =
    let a = c.args in
    omega (arith, rows_pos a.row.bytes a.c (omega arith))

pub returns : goal.returns
returns c =
    let a = c.args in
    made a.row.bytes a.i a.c c.slots.result c.bit_of.result c.row_at.result c.rows.result c.mask_bytes-sets.result a.room.now
    c.write_row.new.room c.copy_in.new.s c.write_later.new.room c.write_row.ensures c.slots.ensures.value c.bit_of.ensures
    c.mask_bytes-sets.ensures c.row_at.ensures c.copy_in.ensures c.rows.ensures.value c.write_later.ensures
