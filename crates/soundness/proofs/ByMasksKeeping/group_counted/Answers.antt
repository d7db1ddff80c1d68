-- `group_counted` meets its contract: each return is the law of a first row under the tests so far.
use Rattle.mem.proofs.Prelude.{◌∙◌, ◌≡◌, sym, ap, refl, ◌&&◌, ◌+◌, ℕ, ◌*◌, ◌-◌, ◌/◌, ◌%◌, ◌≤◌, arith, rules, drop}
use native.Mathlib.Nat.{mul_assoc}
use Rattle.mem.specs.Lists.{choose}
use Rattle.mem.specs.Bytes.{zeros, same, part}
use Rattle.classes.specs.Classes.{slots_of}
use Rattle.classes.proofs.Laws.{few_bytes}
use Rattle.model.specs.Tables.{row_at, masks_layout}
use Rattle.rows.specs.Checks.{group_checked}
use Rattle.soundness.specs.Checks.{members_checked}
use Rattle.soundness.proofs.Groups.{group_law}
use Rattle.soundness.proofs.ByMasksKeeping.group_counted.Goals as goal
use Rattle.soundness.proofs.ByMasksKeeping.group_counted.Goals.{After-rest_zero, After-zeros_at, Else-not-rest_zero}

law : (e : After-zeros_at) (n : ℕ) → (let a = e.args in
    let s = a.room.now in
    let at = e.row_at-at.result in
    n ≡ slots_of a.c
    → group_checked masks_layout (a.row.bytes * a.i) a.c (drop (row_at a.i) s)
    ≡ (e.zeros_at.result && same (part (at + 16 + 8 * n) (8 * (31 - n)) s) (zeros (8 * (31 - n))) && members_checked a.c (a.row.bytes * a.i + 16) (drop at s)))
law e n en =
    let a = e.args in
    rw (e.zeros_at.ensures, e.row_at-at.ensures)
    (group_law a.room.now (λ i. omega (arith, e.shared_slice_known-1.given i)) (row_at a.i) a.c e.requires.i_lt_most_rows.1 n
    (a.row.bytes * a.i) en e.requires.c_bound.1 e.requires.c_bound.0)

pub returns-then-not-zeros_at : goal.returns-then-not-zeros_at
unfolding choose
returns-then-not-zeros_at c = sym (simp (law (goal.at.returns-then-not-zeros_at c).After-zeros_at (slots_of c.args.c) refl, c.if-not-zeros_at.true))

-- past the zeros before the masks
rest : (e : After-rest_zero) → (let a = e.args in
    group_checked masks_layout (a.row.bytes * a.i) a.c (drop (row_at a.i) a.room.now)
    ≡ (e.rest_zero.result && members_checked a.c (a.row.bytes * a.i + 16) (drop e.row_at-at.result a.room.now)))
rest e =
    let n = e.slots-n in
    law (goal.at.After-rest_zero e).After-zeros_at n.result n.ensures.value ∙ simp (e.if-not-zeros_at.false, ← e.rest_zero.ensures)

pub returns-then-not-rest_zero : goal.returns-then-not-rest_zero
unfolding choose
returns-then-not-rest_zero c = sym (simp (rest (goal.at.returns-then-not-rest_zero c).After-rest_zero, c.if-not-rest_zero.true))

-- the bytes before the row, which is whole units
row_begin : (e : Else-not-rest_zero) → (let a = e.args in a.row.bytes * a.i ≤ 524288)
row_begin e = let a = e.args in few_bytes a.row.bytes a.i (omega arith) (omega arith)

whole : (row i : ℕ) → row % 16 ≡ 0 → (row * i + 16) % 16 ≡ 0
whole row i h =
    let f : row ≡ 16 * (row / 16) = omega arith in
    let g : row * i ≡ 16 * (row / 16 * i) = ap (λ z. z * i) f ∙ mul_assoc 16 (row / 16) i in
    omega (arith, g)

pub overflow_mul-row : goal.overflow_mul-row
overflow_mul-row c = omega (arith, row_begin (goal.at.overflow_mul-row c).Else-not-rest_zero)

pub overflow_add-row : goal.overflow_add-row
overflow_add-row c = omega (arith, row_begin (goal.at.overflow_add-row c).Else-not-rest_zero)

pub members_counted-requires : goal.members_counted-requires
members_counted-requires c =
    record { record_in_bounds = search rules; begin_bound = (omega (arith, row_begin (goal.at.members_counted-requires c).Else-not-rest_zero), whole c.args.row.bytes c.args.i (omega arith)) }

pub returns : goal.returns
returns c =
    let r = c.row_at-at in
    c.members_counted.ensures ∙ sym (simp (rest (goal.at.returns c).After-rest_zero, c.if-not-rest_zero.false, r.ensures))
