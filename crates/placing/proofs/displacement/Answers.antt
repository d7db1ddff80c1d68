-- `displacement` meets its contract.
use Rattle.mem.proofs.Prelude.{◌∙◌, ◌≡◌, sym, ap, ap₂, ◌+◌, ℕ, ◌*◌, ◌-◌, ◌/◌, ◌%◌, ◌≤◌, ◌<◌, suc, add-one, arith, leb, le-leb, lt-leb}
use Rattle.mem.proofs.Tests.{choose-true, choose-false}
use Rattle.classes.specs.Classes.{units_of, slot_bytes}
use Rattle.classes.specs.Alignments.{ordinary, align_of, round_up}
use Rattle.classes.proofs.Alignments.{round_near}
use Rattle.model.specs.Plans.{displaced}
use Rattle.placing.proofs.displacement.Goals as goal

pub overflow_sub-t-then-code-le-ORDINARY : goal.overflow_sub-t-then-code-le-ORDINARY
unfolding slot_bytes
overflow_sub-t-then-code-le-ORDINARY c = omega (arith, c.units.ensures.value)

-- an ordinary block's goes by the use count
by_count : (c k n b j u w : ℕ) → k ≤ ordinary → u ≡ units_of c → w ≡ j → w % ((16 * u - 4 - n) / 16 + 1) ≡ displaced c k n b j
unfolding displaced slot_bytes
by_count c k n b j u w h e f =
    ap₂ (λ x y. x % y) f (add-one ((16 * u - 4 - n) / 16) ∙ ap (λ v. suc ((16 * v - 4 - n) / 16)) e)
    ∙ sym (choose-true (leb k ordinary) _ _ (le-leb k ordinary h))

pub returns-then-code-le-ORDINARY : goal.returns-then-code-le-ORDINARY
returns-then-code-le-ORDINARY c =
    let a = c.args in
    by_count a.c a.code a.n a.begin a.uses c.units.result c.wide.result (omega arith) c.units.ensures.value c.wide.ensures.0

-- an aligned block's by the boundary
by_boundary : (c k n b j r a : ℕ) → ordinary < k → a ≡ align_of k → r ≡ round_up a b → (r - b) / 16 ≡ displaced c k n b j
unfolding displaced
by_boundary c k n b j r a h e f =
    ap (λ x. (x - b) / 16) (f ∙ ap (λ y. round_up y b) e) ∙ sym (choose-false (leb k ordinary) _ _ (lt-leb k ordinary h))

pub overflow_sub-result : goal.overflow_sub-result
overflow_sub-result c =
    let a = c.args in
    omega (arith, c.round_up.ensures, (round_near c.align_of.result a.begin (omega arith)).0)

pub returns : goal.returns
returns c =
    let a = c.args in
    by_boundary a.c a.code a.n a.begin a.uses c.round_up.result c.align_of.result (omega arith)
    c.align_of.ensures.value c.round_up.ensures
