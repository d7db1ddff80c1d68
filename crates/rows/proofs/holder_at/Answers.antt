-- `holder_at` meets its contract.
use Rattle.mem.proofs.Prelude.{◌∙◌, ◌≡◌, sym, List, ◌+◌, ℕ, add-zero, arith, eq-eqb, ne_eqb, eqb, drop, get_or, get_or-drop}
use Rattle.mem.specs.Lists.{choose}
use Rattle.mem.proofs.Tests.{choose-true, choose-false}
use Rattle.model.specs.declared.Holder.{Holder}
use Rattle.model.specs.Tables.{view_holder}
use Rattle.model.specs.Tables.{row_at}
use Rattle.rows.proofs.holder_at.Goals as goal

-- the holder of the row whose record stands at p
module _ (i p : ℕ) (t : List ℕ) (e : p ≡ row_at i) where
  at : view_holder (drop (row_at i) t)
      ≡ choose (eqb (get_or t p 0) 1) (Holder.First (get_or t (p + 1) 0)) (choose (eqb (get_or t p 0) 2) (Holder.Later (get_or t (p + 1) 0)) Holder.Free)
  unfolding view_holder
  at = rw (← e, get_or-drop p t 0 0, get_or-drop p t 1 0, add-zero)

  first : get_or t p 0 ≡ 1 → Holder.First (get_or t (p + 1) 0) ≡ view_holder (drop (row_at i) t)
  first h = sym (at ∙ choose-true (eqb (get_or t p 0) 1) _ _ (eq-eqb (get_or t p 0) 1 h))

  later : get_or t p 0 ≡ 2 → Holder.Later (get_or t (p + 1) 0) ≡ view_holder (drop (row_at i) t)
  later h =
      sym (at ∙ choose-false (eqb (get_or t p 0) 1) _ _ (ne_eqb (get_or t p 0) 1 (λ k. omega arith))
      ∙ choose-true (eqb (get_or t p 0) 2) _ _ (eq-eqb (get_or t p 0) 2 h))

  none : (get_or t p 0 ≡ 1 → ⊥) → (get_or t p 0 ≡ 2 → ⊥) → Holder.Free ≡ view_holder (drop (row_at i) t)
  none h k =
      sym (at ∙ choose-false (eqb (get_or t p 0) 1) _ _ (ne_eqb (get_or t p 0) 1 h) ∙ choose-false (eqb (get_or t p 0) 2) _ _ (ne_eqb (get_or t p 0) 2 k))

pub returns-then-kind-eq1 : goal.returns-then-kind-eq1
returns-then-kind-eq1 c =
    let a = c.args in
    first a.i c.row_at-at.result a.room.now c.row_at-at.ensures c.if-kind-eq1.true

pub returns-then-kind-eq2 : goal.returns-then-kind-eq2
returns-then-kind-eq2 c =
    let a = c.args in
    later a.i c.row_at-at.result a.room.now c.row_at-at.ensures c.if-kind-eq2.true

pub returns : goal.returns
returns c =
    let a = c.args in
    none a.i c.row_at-at.result a.room.now c.row_at-at.ensures c.if-kind-eq1.false c.if-kind-eq2.false
