-- Where a list call's reasons are due: the list is too long, or a size finds no place once those before it are granted.
use Rattle.mem.proofs.Prelude.{◌∙◌, ◌≡◌, sym, ap, refl, subst, true, false, Bool, ◌&&◌, Some, None, Option, List, [], ◌∷◌, ◌++◌, ℕ, ◌<◌, ◌*◌, arith}
use Rattle.mem.proofs.Prelude.{T, leb, ltb, leb→le, leb-false, ltb→lt}
use borrow.Author.Tests.{ltb-false}
use Rattle.mem.proofs.Tests.{and_left, and_right, true-T}
use Rattle.classes.specs.Classes.{class_of, size_limit}
use Rattle.classes.specs.Alignments.{ordinary}
use Rattle.model.specs.State.{Pool, Place, pool_of}
use Rattle.model.specs.Proposals.{entries, cap_right, plannable}
use Rattle.model.specs.Plans.{reserve, placed, placed_by, reserve_all, pool_after, NoPlace}
use Rattle.model.proofs.Lowest.{reserve-none, reserve-some}
use Rattle.claims.specs.Demand1.{TooLongList, longer, no_cap, large_cap, few_places, Meets}

-- ---- too long

module _ (total cap places : ℕ) where
  pub too_long : (plannable total cap && leb entries places) ≡ false → TooLongList total cap places
  unfolding plannable cap_right
  too_long e = by_cap (leb 1 cap) refl (ltb cap size_limit) refl (leb total (entries * cap)) refl (leb entries places) refl e
    where
      by_cap : (a : Bool) → leb 1 cap ≡ a → (b : Bool) → ltb cap size_limit ≡ b → (c : Bool) → leb total (entries * cap) ≡ c
          → (d : Bool) → leb entries places ≡ d → (((a && b) && c) && d) ≡ false → TooLongList total cap places
      by_cap false x b y c z d w e = no_cap (leb-false 1 cap x)
      by_cap true x false y c z d w e = large_cap (ltb-false cap size_limit y)
      by_cap true x true y false z d w e = longer (leb-false total (entries * cap) z)
      by_cap true x true y true z false w e = few_places (leb-false entries places w)
      by_cap true x true y true z true w e = let z : ◌≡◌ {A = ℕ} 0 1 = cc in absurd (omega arith)

  pub short_enough : (plannable total cap && leb entries places) ≡ true → TooLongList total cap places → ⊥
  unfolding plannable cap_right
  short_enough e d = go d
    where
      t : T (plannable total cap && leb entries places)
      t = true-T _ e

      p : T (plannable total cap)
      p = and_left (plannable total cap) (leb entries places) t

      c : T (cap_right cap)
      c = and_left (cap_right cap) (leb total (entries * cap)) p

      go : TooLongList total cap places → ⊥
      go (longer h) = omega (arith, h, leb→le total (entries * cap) (and_right (cap_right cap) (leb total (entries * cap)) p))
      go (no_cap h) = omega (arith, h, leb→le 1 cap (and_left (leb 1 cap) (ltb cap size_limit) c))
      go (large_cap h) = omega (arith, h, ltb→lt cap size_limit (and_right (leb 1 cap) (ltb cap size_limit) c))
      go (few_places h) = omega (arith, h, leb→le entries places (and_right (plannable total cap) (leb entries places) t))

-- ---- no room

module _ (row : ℕ) where
  meets_here : 0 < row → (P : Pool) (n : ℕ) (ns : List ℕ) → reserve row P ordinary n ≡ None → Meets row P (n ∷ ns)
  unfolding reserve_all
  meets_here pos P n ns e = record {
    earlier = [];
    size = n;
    later = ns;
    split = refl;
    places = [];
    granted-before = refl;
    no_place = reserve-none row pos P ordinary n e;
  }

  meets_later : (P : Pool) (n : ℕ) (ns : List ℕ) (q : Place) → reserve row P ordinary n ≡ Some q → Meets row (pool_of q) ns → Meets row P (n ∷ ns)
  unfolding reserve_all
  meets_later P n ns q e m = record {
    earlier = n ∷ m.earlier;
    size = m.size;
    later = m.later;
    split = ap (λ l. n ∷ l) m.split;
    places = q ∷ m.places;
    granted-before = ap (λ o. placed_by o (λ q. reserve_all row (pool_of q) m.earlier)) e ∙ ap (placed q) m.granted-before;
    no_place = m.no_place;
  }

  -- a list that is refused meets it
  pub meets : 0 < row → (P : Pool) (ns : List ℕ) → reserve_all row P ns ≡ None → Meets row P ns
  unfolding reserve_all
  meets pos P [] e = let z : ◌≡◌ {A = ℕ} 0 1 = cc in absurd (omega arith)
  meets pos P (n ∷ ns) e = go (reserve row P ordinary n) refl e (λ Q. meets pos Q ns)
    where
      rest : (q : Place) (o : Option (List Place)) → placed q o ≡ None → o ≡ None
      rest q None e = refl
      rest q (Some qs) e = let z : ◌≡◌ {A = ℕ} 0 1 = cc in absurd (omega arith)

      go : (o : Option Place) → reserve row P ordinary n ≡ o → placed_by o (λ q. reserve_all row (pool_of q) ns) ≡ None
          → ((Q : Pool) → reserve_all row Q ns ≡ None → Meets row Q ns) → Meets row P (n ∷ ns)
      go None r e k = meets_here pos P n ns r
      go (Some q) r e k = meets_later P n ns q r (k (pool_of q) (rest q (reserve_all row (pool_of q) ns) e))

  -- one that is granted does not
  met : (P : Pool) (ms : List ℕ) (n : ℕ) (later : List ℕ) (ps qs : List Place) → reserve_all row P ms ≡ Some ps → NoPlace row (pool_after P ps) (class_of n)
      → reserve_all row P (ms ++ (n ∷ later)) ≡ Some qs → ⊥
  unfolding reserve_all
  met P [] n later [] qs e h f = go (reserve row P ordinary n) refl f
    where
      go : (o : Option Place) → reserve row P ordinary n ≡ o → placed_by o (λ q. reserve_all row (pool_of q) later) ≡ Some qs → ⊥
      go None r f = let z : ◌≡◌ {A = ℕ} 0 1 = cc in omega arith
      go (Some q) r f = reserve-some row P ordinary n q r h
  met P [] n later (p ∷ ps) qs e h f = let z : ◌≡◌ {A = ℕ} 0 1 = cc in omega arith
  met P (m ∷ ms) n later ps qs e h f = go (reserve row P ordinary m) e f (λ Q. met Q ms n later)
    where
      Later : Type 0
      Later = (Q : Pool) (ps qs : List Place) → reserve_all row Q ms ≡ Some ps → NoPlace row (pool_after Q ps) (class_of n)
          → reserve_all row Q (ms ++ (n ∷ later)) ≡ Some qs → ⊥

      rest : (q : Place) (o : Option (List Place)) → reserve_all row (pool_of q) ms ≡ o → placed q o ≡ Some ps
          → (u : Option (List Place)) → reserve_all row (pool_of q) (ms ++ (n ∷ later)) ≡ u → placed q u ≡ Some qs → Later → ⊥
      rest q None x e u y f k = let z : ◌≡◌ {A = ℕ} 0 1 = cc in omega arith
      rest q (Some rs) x e None y f k = let z : ◌≡◌ {A = ℕ} 0 1 = cc in omega arith
      rest q (Some rs) x e (Some us) y f k =
          let z : ps ≡ q ∷ rs = cc in k (pool_of q) rs us x (subst (λ l. NoPlace row (pool_after P l) (class_of n)) z h) y

      go : (o : Option Place) → placed_by o (λ q. reserve_all row (pool_of q) ms) ≡ Some ps
          → placed_by o (λ q. reserve_all row (pool_of q) (ms ++ (n ∷ later))) ≡ Some qs → Later → ⊥
      go None e f k = let z : ◌≡◌ {A = ℕ} 0 1 = cc in omega arith
      go (Some q) e f k = rest q (reserve_all row (pool_of q) ms) refl e (reserve_all row (pool_of q) (ms ++ (n ∷ later))) refl f k

  pub meets_none : (P : Pool) (ns : List ℕ) (qs : List Place) → reserve_all row P ns ≡ Some qs → Meets row P ns → ⊥
  meets_none P ns qs e m =
      met P m.earlier m.size m.later m.places qs m.granted-before m.no_place (ap (reserve_all row P) (sym m.split) ∙ e)
