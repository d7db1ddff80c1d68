-- `class_of` meets its contract: up to ten units the need is its class, and past them each comparison halves the classes that are left.
use Rattle.mem.proofs.Prelude.{subst, sym, arith}
use Rattle.classes.specs.Classes.{units_of, size_limit}
use Rattle.classes.proofs.Zeros.{Among, four_from, up_to_ten, by_zeros, halve, halve_not, past, not-past}
use Rattle.classes.proofs.class_of.Goals as goal
use Rattle.classes.proofs.class_of.Goals.{Joined-table-c, then-table-c, else-table-c}

pub overflow_add-q : goal.overflow_add-q
unfolding size_limit
overflow_add-q c = omega arith

pub overflow_add-q-2 : goal.overflow_add-q-2
unfolding size_limit
overflow_add-q-2 c = omega arith

pub returns-then-q-le10 : goal.returns-then-q-le10
returns-then-q-le10 c = let e = up_to_ten c.args.n c.requires (omega arith) in record { value = e; small = omega (arith, e) }

pub overflow_sub-c : goal.overflow_sub-c
overflow_sub-c c = omega (arith, (by_zeros c.args.n c.requires (omega arith)).0)

pub bounds-table-c : goal.bounds-table-c
bounds-table-c c = omega (arith, (by_zeros c.args.n c.requires (omega arith)).1)

-- past the first comparison
two : (c : Joined-table-c) → Among 2 c.args.n c.if-table-c.c
unfolding units_of
two c =
    let n = c.args.n in
    let f = (by_zeros n c.requires (omega arith)).1 in
    elim c.if-table-c.branch [
      | then-table-c w ↦ subst (Among 2 n) (sym w.c-is) (halve n c.requires (four_from n) f (omega arith))
      | else-table-c w ↦ subst (Among 2 n) (sym w.c-is) (halve_not n c.requires (four_from n) f (omega arith))
    ]

pub bounds-table-c-2 : goal.bounds-table-c-2
bounds-table-c-2 c = omega (arith, two (goal.at.bounds-table-c-2 c).Joined-table-c)

pub returns-then-table-c-2 : goal.returns-then-table-c-2
unfolding units_of
returns-then-table-c-2 c =
    let t = two (goal.at.returns-then-table-c-2 c).Joined-table-c in
    let p = past c.args.n c.requires c.if-table-c.c (omega arith) (omega arith) in
    record { value = omega arith; small = omega arith }

pub returns-else-table-c-2 : goal.returns-else-table-c-2
unfolding units_of
returns-else-table-c-2 c =
    let t = two (goal.at.returns-else-table-c-2 c).Joined-table-c in
    let p = not-past c.args.n c.requires c.if-table-c.c (omega arith) in
    record { value = omega arith; small = omega arith }
