-- `look_group` meets its contract. The invariant: what stands there is what stands there in the slots that are left.
use Rattle.mem.proofs.Prelude.{◌∙◌, ◌≡◌, sym, ap, true, false, List, ℕ, ◌+◌, ◌*◌, ◌<◌, ◌≤◌, add-one, arith, drop}
use Rattle.classes.specs.Classes.{slot_bytes}
use Rattle.classes.proofs.Laws.{few_bytes}
use Rattle.model.specs.Tables.{row_at}
use Rattle.rows.specs.declared.Looked.{Looked}
use Rattle.plain_slots.specs.Slots.{slot_in}
use Rattle.plain_tables.specs.Found.{or_else, is_absent, slot_looked, slots_looked}
use Rattle.plain_slots.proofs.Walks.{slots_from, slots-begin, slots_turn, slots_end}
use Rattle.plain_tables.proofs.Blocks.{or-absent, or_found}
use Rattle.plain_tables.proofs.look_group.Goals as goal
use Rattle.plain_tables.proofs.look_group.Goals.{After-absent, After-units-bytes}

-- one turn, x being the next slot
module _ (first c n j b o : ℕ) (s : List ℕ) (h : j < n) where
  turn : slots_looked first c j b o (slots_from n first s j)
      ≡ or_else (slot_looked first c j b o (slot_in j (drop (row_at first) s))) (slots_looked first c (j + 1) (b + slot_bytes c) o (slots_from n first s (j + 1)))
  unfolding slots_looked
  turn =
      ap (slots_looked first c j b o) (slots_turn n first s j h)
      ∙ ap (λ k. or_else (slot_looked first c j b o (slot_in j (drop (row_at first) s))) (slots_looked first c k (b + slot_bytes c) o (slots_from n first s (j + 1))))
      (sym (add-one j))

  module _ (whole r : Looked) (e : whole ≡ slots_looked first c j b o (slots_from n first s j))
      (f : r ≡ slot_looked first c j b o (slot_in j (drop (row_at first) s))) where
    hit : is_absent r ≡ false → r ≡ whole
    hit h = sym (e ∙ turn ∙ ap (λ x. or_else x (slots_looked first c (j + 1) (b + slot_bytes c) o (slots_from n first s (j + 1)))) (sym f) ∙ or_found r _ h)

    miss : is_absent r ≡ true → (u : ℕ) → u ≡ slot_bytes c → whole ≡ slots_looked first c (j + 1) (b + u) o (slots_from n first s (j + 1))
    miss h u g =
        e ∙ turn ∙ ap (λ x. or_else x (slots_looked first c (j + 1) (b + slot_bytes c) o (slots_from n first s (j + 1)))) (sym f) ∙ or-absent r _ h
        ∙ ap (λ v. slots_looked first c (j + 1) (b + v) o (slots_from n first s (j + 1))) (sym g)

-- the bytes before the group
before : (c : After-units-bytes) → (let a = c.args in a.row.bytes * a.first ≤ 524288)
before c = few_bytes c.args.row.bytes c.args.first c.args.row.lawful.1 (omega arith)

pub loop-j-init : goal.loop-j-init
loop-j-init c =
    let k = c.slots-n in
    let a = c.args in (
      omega (arith, before (goal.at.loop-j-init c).After-units-bytes),
      ap (slots_looked a.first a.c 0 (a.row.bytes * a.first + 16) a.offset)
          (slots-begin k.result a.c a.first a.room.now k.ensures.value),
    )

-- what the code knows of the next slot
found : (c : After-absent) → (let l = c.loop-j in
    let a = c.args in
    c.look_slot-found.result ≡ slot_looked a.first a.c l.j l.begin a.offset (slot_in l.j (drop (row_at a.first) a.room.now)))
found c =
    let l = c.loop-j in
    let a = c.args in
    c.look_slot-found.ensures ∙ ap (slot_looked a.first a.c l.j l.begin a.offset) c.slot_at-x.ensures.value

pub returns-then-not-absent : goal.returns-then-not-absent
returns-then-not-absent c =
    let l = c.loop-j in
    let k = c.slots-n in
    let a = c.args in
    hit a.first a.c k.result l.j l.begin a.offset a.room.now c.loop-j-test.true _
    c.look_slot-found.result
    l.invariant.1 (found (goal.at.returns-then-not-absent c).After-absent) (sym c.absent.ensures ∙ c.if-not-absent.true)

pub loop-j-preserved : goal.loop-j-preserved
unfolding slot_bytes
loop-j-preserved c =
    let l = c.loop-j in
    let u = c.units-bytes in
    let k = c.slots-n in
    let a = c.args in (
      omega arith,
      miss a.first a.c k.result l.j l.begin a.offset a.room.now c.loop-j-test.true _
          c.look_slot-found.result l.invariant.1 (found (goal.at.loop-j-preserved c).After-absent) (sym c.absent.ensures ∙ c.if-not-absent.false) (16 * u.result)
          (ap (λ v. 16 * v) u.ensures.value),
    )

pub returns : goal.returns
unfolding slots_looked
returns c =
    let l = c.loop-j in
    let k = c.slots-n in
    let a = c.args in
    sym (l.invariant.1 ∙ ap (slots_looked a.first a.c l.j l.begin a.offset) (slots_end k.result a.first a.room.now l.j
    c.loop-j-test.false))
