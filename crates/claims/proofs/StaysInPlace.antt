-- What serves in place: the test of the plans is what is said, and of an ordinary block that is document 01's.
use Rattle.mem.proofs.Prelude.{◌≡◌, sym, refl, subst, true, false, Bool, ◌||◌, ⊎_elim, inl, inr, ℕ, suc, ◌+◌, ◌*◌, ◌-◌, ◌≤◌, arith, T, leb, leb→le}
use Rattle.mem.proofs.Prelude.{le→leb, eqb, eqb→eq, eq-eqb, eqb-true}
use mathlib.Core.Logic.{◌↔◌}
use native.Mathlib.Nat.{eq-or-lt_of_le}
use Rattle.mem.proofs.Tests.{and_left, and_right, and_both, eq→eqb}
use Rattle.classes.specs.Classes.{slot_bytes, class_of, own_class}
use Rattle.classes.specs.Alignments.{align_of, enlarged}
use Rattle.classes.proofs.Laws.{bytes_least, class_least}
use Rattle.model.specs.State.{Place, disp, align}
use Rattle.model.specs.Plans.{fits_in_place}
use Rattle.claims.specs.Demand1.{Near, StaysInPlace}
use Rattle.claims.specs.AsSaid.{ServesOrdinary}
use Rattle.claims.proofs.Codes.{enlarged-align}

-- a class is that of a size or the next one up
pub own_near : (c m : ℕ) → T (own_class c m) ↔ Near c m
own_near c m = (
  there (eqb c (class_of m)) refl,
  ⊎_elim (λ e. rw (eq-eqb c (class_of m) e) tt) (λ e. back (eqb c (class_of m)) (eq→eqb c (suc (class_of m)) e)),
)
  where
    there : (b : Bool) → eqb c (class_of m) ≡ b → T (b || eqb c (suc (class_of m))) → Near c m
    there true e t = inl (eqb-true c (class_of m) e)
    there false e t = inr (eqb→eq c (suc (class_of m)) t)

    back : (b : Bool) → T (eqb c (suc (class_of m))) → T (b || eqb c (suc (class_of m)))
    back true t = tt
    back false t = t

-- the test is what is said, of a live block
pub in_place_serves : (p : Place) (n : ℕ) → 1 ≤ align p.state → T (fits_in_place p n) ↔ StaysInPlace p n
unfolding fits_in_place
in_place_serves p n h = (
  λ t. record {
    fits = leb→le n s (and_left (leb n s) (own_class p.cls (enlarged (align p.state) n)) t);
    near = subst (Near p.cls) e ((own_near p.cls (enlarged (align p.state) n)).0 (and_right (leb n s) _ t));
  },
  λ v. and_both (leb n s) _ (le→leb n s v.fits)
      ((own_near p.cls (enlarged (align p.state) n)).1 (subst (Near p.cls) (sym e) v.near)),
)
  where
    s : ℕ
    s = slot_bytes p.cls - 4 - 16 * disp p.state

    e : enlarged (align p.state) n ≡ n + (align_of (align p.state) - 16)
    e = enlarged-align (align p.state) n h

-- a class in which n fits is no lower than n's, so at most one above is the same or the next one up
pub serves_ordinary : ServesOrdinary
serves_ordinary c d n h f = (
  λ near. ⊎_elim (λ e. omega arith) (λ e. omega arith) near,
  λ l. ⊎_elim (λ e. inl (sym e)) (λ g. inr (omega arith)) (eq-or-lt_of_le least),
)
  where
    least : class_of n ≤ c
    least = class_least n c (omega (arith, bytes_least c h))
