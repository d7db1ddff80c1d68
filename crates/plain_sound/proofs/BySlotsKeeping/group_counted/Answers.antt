-- `group_counted` meets its contract: each return is the law of a first row under the tests so far.
use Rattle.mem.proofs.Prelude.{◌∙◌, ◌≡◌, sym, ap, refl, true, ◌&&◌, and-false, ◌+◌, ℕ, ◌*◌, ◌-◌, ◌≤◌, arith, drop, None}
use Rattle.mem.specs.Lists.{choose}
use Rattle.mem.specs.Bytes.{zeros, same, part}
use Rattle.classes.specs.Classes.{slots_of}
use Rattle.classes.proofs.Laws.{few_bytes}
use Rattle.model.specs.Tables.{row_at}
use Rattle.model.specs.Plain.{plain_group, slots_layout}
use Rattle.rows.specs.Checks.{group_checked}
use Rattle.rows.specs.Counts.{count_if, group_totals}
use Rattle.plain_sound.specs.Checks.{some_live}
use Rattle.plain_sound.proofs.Laws.{Whole, group_counted}
use Rattle.plain_sound.proofs.BySlotsKeeping.group_counted.Goals as goal
use Rattle.plain_sound.proofs.BySlotsKeeping.group_counted.Goals.{Else-not-zeros_at-2, Start}

law : (b : Start) (n : ℕ) → (let a = b.args in
    let s = a.room.now in
    let t = drop (row_at a.i) s in
    n ≡ slots_of a.c
    → count_if (group_checked slots_layout (a.row.bytes * a.i) a.c t) (group_totals a.k (plain_group a.c t))
    ≡ choose (same (part (row_at a.i + 2) 14 s) (zeros 14) && same (part (row_at a.i + (16 + 8 * n)) (8 * (31 - n)) s) (zeros (8 * (31 - n))))
    (some_live (Whole s (row_at a.i + 16) a.c a.k (a.row.bytes * a.i + 16) n)) None)
law b n e =
    let a = b.args in group_counted a.room.now a.i a.c b.requires.i_lt_most_rows.1 (a.row.bytes * a.i) n e b.requires.c_bound.1 b.requires.c_bound.0 a.k

pub returns-then-not-zeros_at : goal.returns-then-not-zeros_at
unfolding choose
returns-then-not-zeros_at c =
    sym (law (goal.at.returns-then-not-zeros_at c).Start (slots_of c.args.c) refl ∙ rw (← c.row_at.ensures, ← c.zeros_at.ensures, c.if-not-zeros_at.true))

pub returns-then-not-zeros_at-2 : goal.returns-then-not-zeros_at-2
unfolding choose
returns-then-not-zeros_at-2 c =
    let n = c.slots-n in
    sym (law (goal.at.returns-then-not-zeros_at-2 c).Start n.result n.ensures.value
    ∙ rw (← c.slot_place-after.ensures, ← c.zeros_at-2.ensures, c.if-not-zeros_at-2.true, and-false))

-- the bytes before the row
row_begin : (e : Else-not-zeros_at-2) → (let a = e.args in a.row.bytes * a.i ≤ 524288)
row_begin e = let a = e.args in few_bytes a.row.bytes a.i (omega arith) (omega arith)

pub overflow_mul-row : goal.overflow_mul-row
overflow_mul-row c = omega (arith, row_begin (goal.at.overflow_mul-row c).Else-not-zeros_at-2)

pub overflow_add-row : goal.overflow_add-row
overflow_add-row c = omega (arith, row_begin (goal.at.overflow_add-row c).Else-not-zeros_at-2)

pub slots_counted-requires : goal.slots_counted-requires
slots_counted-requires c =
    record { i_lt_most_rows = c.requires.i_lt_most_rows; c_bound = (c.requires.c_bound.0, omega (arith, row_begin (goal.at.slots_counted-requires c).Else-not-zeros_at-2)) }

pub returns : goal.returns
unfolding choose
returns c =
    let n = c.slots-n in
    let t = c.args.room.now in
    let i = c.args.i in
    let ez : same (part (row_at i + 2) 14 t) (zeros 14) ≡ true =
    rw (← c.row_at.ensures) (sym c.zeros_at.ensures ∙ c.if-not-zeros_at.false) in
    let m = n.result in
    let eo : same (part (row_at i + (16 + 8 * m)) (8 * (31 - m)) t) (zeros (8 * (31 - m))) ≡ true =
    rw (← c.slot_place-after.ensures) (sym c.zeros_at-2.ensures ∙ c.if-not-zeros_at-2.false) in
    c.some_live.ensures ∙ ap some_live c.slots_counted.ensures ∙ sym (law (goal.at.returns c).Start m n.ensures.value ∙ rw (ez, eo, n.ensures.value))
