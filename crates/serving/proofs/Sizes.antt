-- One size of a list, and the sizes after it.
use Rattle.mem.proofs.Prelude.{◌∙◌, ◌≡◌, sym, ap, refl, Bool, true, false, not, not-true, not-false, Some, None, Option, List, ◌+◌, ℕ, ◌<◌, ◌≤◌, is_some}
use Rattle.mem.proofs.Prelude.{arith, ltb, length, drop, get_or}
use Rattle.mem.specs.Lists.{choose, every}
use Rattle.classes.specs.Classes.{class_of, size_limit}
use Rattle.classes.specs.Alignments.{ordinary}
use Rattle.model.specs.State.{Pool, Place, pool_of}
use Rattle.model.specs.Plans.{reserve, placed_by, reserve_all}
use Rattle.model.proofs.Lists.{small_at, some-placed, all_placed, next-placed}
use Rattle.serving.specs.Survey.{NotesOf, Serves}

pub class-zero : 0 ≡ class_of 0
unfolding class_of choose
class-zero = refl

-- counts and a map tell of a pool in which the sizes from place i on fit exactly if all of them fit in P
pub record ToGo (row : ℕ) (sizes : List ℕ) (P : Pool) (i : ℕ) (spare gaps : List ℕ) : Type 0 where
  pub pool : Pool
  pub tells : NotesOf row pool spare gaps
  pub same : is_some (reserve_all row P sizes) ≡ is_some (reserve_all row pool (drop i sizes))

pub all_to_go : {row : ℕ} {P : Pool} {spare gaps : List ℕ} (sizes : List ℕ) → NotesOf row P spare gaps → ToGo row sizes P 0 spare gaps
all_to_go {P = P} sizes t = record { pool = P; tells = t; same = refl }

module _ {row : ℕ} {sizes : List ℕ} {P : Pool} {i : ℕ} {spare gaps : List ℕ} (g : ToGo row sizes P i spare gaps) where
  pub none_to_go : length sizes ≤ i → true ≡ is_some (reserve_all row P sizes)
  none_to_go h = sym (g.same ∙ ap is_some (all_placed row g.pool sizes i h))

  -- size i is tried, for which a slot of class c is asked
  module _ (h : i < length sizes) (small : every (λ n. ltb n size_limit) sizes ≡ true) {c : ℕ} (e : c ≡ class_of (get_or sizes i 0)) {r : Bool}
      {spare' map' : List ℕ} (f : (P : Pool) (n : ℕ) → NotesOf row P spare gaps → c ≡ class_of n → n < size_limit → Serves row P n r spare' map') where
    serves : Serves row g.pool (get_or sizes i 0) r spare' map'
    serves = f g.pool (get_or sizes i 0) g.tells e (small_at sizes i small h)

    -- all sizes, by the place that this one has
    by_place : (o : Option Place) → reserve row g.pool ordinary (get_or sizes i 0) ≡ o
        → is_some (reserve_all row P sizes) ≡ is_some (placed_by o (λ q. reserve_all row (pool_of q) (drop (i + 1) sizes)))
    by_place o k = g.same ∙ ap is_some (next-placed row g.pool sizes i h ∙ ap (λ o. placed_by o (λ q. reserve_all row (pool_of q) (drop (i + 1) sizes))) k)

    pub one_refused : not r ≡ true → false ≡ is_some (reserve_all row P sizes)
    one_refused n = go (reserve row g.pool ordinary (get_or sizes i 0)) refl (sym (not-true r n) ∙ serves.found)
      where
        go : (o : Option Place) → reserve row g.pool ordinary (get_or sizes i 0) ≡ o → false ≡ is_some o → false ≡ is_some (reserve_all row P sizes)
        go None k s = sym (by_place None k)
        go (Some q) k s = let z : ◌≡◌ {A = ℕ} 0 1 = cc in absurd (omega arith)

    pub one_served : not r ≡ false → ToGo row sizes P (i + 1) spare' map'
    one_served n = go (reserve row g.pool ordinary (get_or sizes i 0)) refl (sym (not-false r n) ∙ serves.found)
      where
        go : (o : Option Place) → reserve row g.pool ordinary (get_or sizes i 0) ≡ o → true ≡ is_some o → ToGo row sizes P (i + 1) spare' map'
        go None k s = let z : ◌≡◌ {A = ℕ} 0 1 = cc in absurd (omega arith)
        go (Some q) k s = record {
          pool = pool_of q;
          tells = serves.left q k;
          same = by_place (Some q) k ∙ some-placed q (reserve_all row (pool_of q) (drop (i + 1) sizes));
        }
