-- The block at an offset, from the group that has the offset's row.
use Rattle.mem.proofs.Prelude.{◌∙◌, ◌≡◌, sym, ap, refl, ap₂, subst, true, Bool, false, Some, None, Option, List, [], ◌∷◌, ◌++◌, ◌+◌, ℕ, ◌<◌, ◌≤◌, ◌*◌}
use Rattle.mem.proofs.Prelude.{◌-◌, suc, ◌/◌, ◌%◌, mul_comm, le-div_iff_mul-le, arith, eq-eqb, ne_eqb, leb-false, lt-leb, le-ltb, T, eqb, leb, ltb}
use Rattle.mem.proofs.Prelude.{length, drop, get_or, take, length-take-le}
use native.Mathlib.Nat.{mul-add-div, mul-add-mod_self_left, mod-eq_of_lt, div-eq_of_lt, div-add-mod}
use lib.Seq.{split_at, get_or_at}
use borrow.Author.Tests.{ltb-true, ltb-false}
use Rattle.mem.specs.Lists.{choose}
use Rattle.mem.proofs.Tests.{choose_case, choose-true, choose-false, and_left, every-right}
use Rattle.classes.specs.Classes.{slot_bytes, slots_of}
use Rattle.model.specs.declared.Slot.{Slot}
use Rattle.model.specs.declared.Slot.TheVariants.{Fresh, Idle, Live}
use Rattle.model.specs.State.{Span, Pool, Place, free, group, granted, disp, size, span_sound, well_formed, pool_of, slot_number, rows, rows_in, start}
use Rattle.model.specs.Plans.{lookup}
use Rattle.model.proofs.Tables.{group-slots}
use Rattle.model.proofs.Rooms.{rows_append}
use Rattle.model.proofs.Lookup.{placed, Fits, fits, disp_inside, InRows, start_row, span_unique, lookup-start, lookup_found}
use Rattle.rows.specs.declared.Looked.TheVariants.{Freed, Absent}
use Rattle.rows.specs.Rows.{looked}
use Rattle.search.specs.Found.{slot_looked, group_looked}

-- i slots of s bytes and 16d bytes less than one more
slot_of : (s i d : ℕ) → d < s → ((s * i + d) / s ≡ i) × ((s * i + d) % s ≡ d)
slot_of s i d h =
    let pos : 0 < s = omega arith in
    (mul-add-div pos i d ∙ ap (λ k. i + k) (div-eq_of_lt h) ∙ omega arith, mul-add-mod_self_left s i d ∙ mod-eq_of_lt h)

at_slot : (first c inside i d : ℕ) (slots : ℕ → Slot) → inside ≡ 16 + (slot_bytes c * i + d) → d < slot_bytes c → i < slots_of c
    → group_looked first c inside slots ≡ slot_looked first c i d (slots i)
unfolding group_looked
at_slot first c inside i d slots e h l =
    let q : inside - 16 ≡ slot_bytes c * i + d = omega arith in
    let u : ((slot_bytes c * i + d) / slot_bytes c ≡ i) × ((slot_bytes c * i + d) % slot_bytes c ≡ d) = slot_of (slot_bytes c) i d h in
    let a : (inside - 16) / slot_bytes c ≡ i = ap (λ m. m / slot_bytes c) q ∙ u.0 in
    let b : (inside - 16) % slot_bytes c ≡ d = ap (λ m. m % slot_bytes c) q ∙ u.1 in
    choose-false (ltb inside 16) _ _ (le-ltb inside 16 (omega arith))
    ∙ choose-false (leb (slots_of c) ((inside - 16) / slot_bytes c)) _ _ (lt-leb (slots_of c) ((inside - 16) / slot_bytes c) (omega arith))
    ∙ ap₂ (λ j f. slot_looked first c j f (slots j)) a b

-- at a granted slot's own displacement, it is what is looked up
own : (row : ℕ) (X : Pool) (c : ℕ) (us : List Slot) (x : Slot) (vs : List Slot) (Y : Pool) → T (granted x)
    → looked row (Some (placed X c us x vs Y)) ≡ slot_looked (rows row X) c (length us) (16 * disp x) x
unfolding choose
own row X c us Fresh vs Y g = absurd g
own row X c us (Idle r k d) vs Y g = sym (choose-true (eqb (16 * d) (16 * d)) Freed Absent (eq-eqb (16 * d) (16 * d) refl))
own row X c us (Live a) vs Y g = sym (choose-true (eqb (16 * a.disp) (16 * a.disp)) _ Absent (eq-eqb (16 * a.disp) (16 * a.disp) refl))

-- with another displacement, or never granted, nothing is
other : (first c i after : ℕ) (x : Slot) → (T (granted x) → 16 * disp x ≡ after → ⊥) → Absent ≡ slot_looked first c i after x
other first c i after Fresh h = refl
other first c i after (Idle r k d) h = sym (choose-false (eqb (16 * d) after) Freed Absent (ne_eqb (16 * d) after (h tt)))
other first c i after (Live a) h = sym (choose-false (eqb (16 * a.disp) after) _ Absent (ne_eqb (16 * a.disp) after (h tt)))

module _ (row : ℕ) (pos : 0 < row) (X : Pool) (c : ℕ) (ss : List Slot) (Y : Pool) (w : T (well_formed (X ++ (group c ss ∷ Y)))) (o : ℕ)
    (i : InRows row pos (o / row) X (group c ss)) where
  found : (p : Place) → lookup row (X ++ (group c ss ∷ Y)) o ≡ Some p → looked row (Some p)
      ≡ group_looked (rows row X) c (o - row * rows row X) (λ j. get_or ss j Fresh)
  found p e =
      let f : (pool_of p ≡ X ++ (group c ss ∷ Y)) × T (granted p.state) × (start row p ≡ o) = lookup_found row pos (X ++ (group c ss ∷ Y)) o p e in
      let w' : T (well_formed (pool_of p)) = subst (λ Q. T (well_formed Q)) (sym f.0) w in
      let sp : List Slot = p.lower ++ (p.state ∷ p.upper) in
      let u : (p.before ≡ X) × (group p.cls sp ≡ group c ss) × (p.after ≡ Y) =
      span_unique row pos (o / row) p.before (group p.cls sp) p.after X (group c ss) Y f.0
      (subst (λ n. InRows row pos (n / row) p.before (group p.cls sp)) f.2 (start_row row pos p w')) i in
      let k : group p.cls sp ≡ group c ss = u.1 in
      let cl : p.cls ≡ c = cc in
      let sl : sp ≡ ss = cc in
      let t : Fits p = fits p w' in
      let d : 16 * disp p.state + size p.state + 4 ≤ slot_bytes p.cls = disp_inside p.cls p.state t.class t.state in
      let b : row * rows row p.before ≡ row * rows row X = ap (λ Z. row * rows row Z) u.0 in
      let m : slot_bytes p.cls * slot_number p ≡ slot_bytes c * slot_number p = ap (λ z. slot_bytes z * slot_number p) cl in
      let n : o - row * rows row X ≡ 16 + (slot_bytes c * slot_number p + 16 * disp p.state) =
      omega (arith, f.2, b, m, mul_comm (slot_bytes p.cls) (slot_number p)) in
      let x : get_or ss (slot_number p) Fresh ≡ p.state = ap (λ l. get_or l (slot_number p) Fresh) (sym sl)
      ∙ get_or_at p.lower p.state p.upper Fresh (slot_number p) refl in
      own row p.before p.cls p.lower p.state p.upper p.after f.1
      ∙ ap₂ (λ Z z. slot_looked (rows row Z) z (slot_number p) (16 * disp p.state) p.state) u.0 cl
      ∙ ap (slot_looked (rows row X) c (slot_number p) (16 * disp p.state)) (sym x)
      ∙ sym (at_slot (rows row X) c (o - row * rows row X) (slot_number p) (16 * disp p.state) (λ j. get_or ss j Fresh) n
      (omega (arith, d, ap slot_bytes cl)) (omega (arith, t.number, ap slots_of cl)))

  missed : lookup row (X ++ (group c ss ∷ Y)) o ≡ None → Absent ≡ group_looked (rows row X) c (o - row * rows row X) (λ j. get_or ss j Fresh)
  unfolding group_looked
  missed e =
      choose_case (λ r. Absent ≡ r) (ltb n 16) Absent (choose (leb (slots_of c) j) Absent (slot_looked (rows row X) c j (m % slot_bytes c) (get_or ss j Fresh)))
      (λ h. refl)
      (λ h. choose_case (λ r. Absent ≡ r) (leb (slots_of c) j) Absent (slot_looked (rows row X) c j (m % slot_bytes c) (get_or ss j Fresh)) (λ l. refl)
      (λ l. other (rows row X) c j (m % slot_bytes c) (get_or ss j Fresh) (nothing (ltb-false n 16 h) (leb-false (slots_of c) j l))))
    where
      n : ℕ
      n = o - row * rows row X

      m : ℕ
      m = n - 16

      j : ℕ
      j = m / slot_bytes c

      nothing : 16 ≤ n → j < slots_of c → T (granted (get_or ss j Fresh)) → 16 * disp (get_or ss j Fresh) ≡ m % slot_bytes c → ⊥
      nothing h l g q =
          let sg : T (span_sound (group c ss)) = and_left (span_sound (group c ss)) (well_formed Y) (every-right span_sound X (group c ss ∷ Y) w) in
          let len : length ss ≡ slots_of c = group-slots c ss sg in
          let v : ss ≡ take j ss ++ (get_or ss j Fresh ∷ drop (suc j) ss) = split_at ss j Fresh (omega arith) in
          let p : Place = placed X c (take j ss) (get_or ss j Fresh) (drop (suc j) ss) Y in
          let pe : pool_of p ≡ X ++ (group c ss ∷ Y) = ap (λ z. X ++ (group c z ∷ Y)) (sym v) in
          let lo : row * rows row X ≤ o = omega (arith, (le-div_iff_mul-le {k = row} {x = rows row X} {y = o} pos).0 i.from, mul_comm row (rows row X)) in
          let st : start row p ≡ o =
          omega (arith, q, div-add-mod m (slot_bytes c), ap (λ z. z * slot_bytes c) (length-take-le j ss (omega arith)), mul_comm (slot_bytes c) j) in
          let r : lookup row (X ++ (group c ss ∷ Y)) o ≡ Some p =
          ap₂ (lookup row) (sym pe) (sym st) ∙ lookup-start row pos p (subst (λ Q. T (well_formed Q)) (sym pe) w) g in
          let z : ◌≡◌ {A = ℕ} 0 1 = cc in
          omega arith

  pub looked-group : looked row (lookup row (X ++ (group c ss ∷ Y)) o) ≡ group_looked (rows row X) c (o - row * rows row X) (λ j. get_or ss j Fresh)
  looked-group = go (lookup row (X ++ (group c ss ∷ Y)) o) refl
    where
      go : (r : Option Place) → lookup row (X ++ (group c ss ∷ Y)) o ≡ r → looked row r
          ≡ group_looked (rows row X) c (o - row * rows row X) (λ j. get_or ss j Fresh)
      go None e = missed e
      go (Some p) e = found p e

-- ---- other offsets

module _ (row : ℕ) (pos : 0 < row) where
  no_place : (P : Pool) (o : ℕ) → ((p : Place) → lookup row P o ≡ Some p → ⊥) → looked row (lookup row P o) ≡ Absent
  no_place P o f = go (lookup row P o) refl
    where
      go : (r : Option Place) → lookup row P o ≡ r → looked row r ≡ Absent
      go None e = refl
      go (Some p) e = absurd (f p e)

  pub looked-free : (X Y : Pool) (o : ℕ) → T (well_formed (X ++ (free ∷ Y))) → InRows row pos (o / row) X free → looked row (lookup row (X ++ (free ∷ Y)) o)
      ≡ Absent
  looked-free X Y o w i = no_place (X ++ (free ∷ Y)) o none_there
    where
      none_there : (p : Place) → lookup row (X ++ (free ∷ Y)) o ≡ Some p → ⊥
      none_there p e =
          let f : (pool_of p ≡ X ++ (free ∷ Y)) × T (granted p.state) × (start row p ≡ o) = lookup_found row pos (X ++ (free ∷ Y)) o p e in
          let sp : List Slot = p.lower ++ (p.state ∷ p.upper) in
          let u : (p.before ≡ X) × (group p.cls sp ≡ free) × (p.after ≡ Y) =
          span_unique row pos (o / row) p.before (group p.cls sp) p.after X free Y f.0
          (subst (λ n. InRows row pos (n / row) p.before (group p.cls sp)) f.2
          (start_row row pos p (subst (λ Q. T (well_formed Q)) (sym f.0) w))) i in
          let k : group p.cls sp ≡ free = u.1 in
          let z : ◌≡◌ {A = ℕ} 0 1 = cc in
          omega arith

  pub looked-past : (P : Pool) (o : ℕ) → T (well_formed P) → row * rows row P ≤ o → looked row (lookup row P o) ≡ Absent
  looked-past P o w h = no_place P o none_there
    where
      none_there : (p : Place) → lookup row P o ≡ Some p → ⊥
      none_there p e =
          let f : (pool_of p ≡ P) × T (granted p.state) × (start row p ≡ o) = lookup_found row pos P o p e in
          let sp : List Slot = p.lower ++ (p.state ∷ p.upper) in
          let i : InRows row pos (start row p / row) p.before (group p.cls sp) = start_row row pos p (subst (λ Q. T (well_formed Q)) (sym f.0) w) in
          let r : rows row P ≤ start row p / row = (le-div_iff_mul-le pos).1 (omega (arith, f.2, mul_comm row (rows row P))) in
          omega (arith, i.to, ap (rows row) f.0, rows_append row p.before (group p.cls sp ∷ p.after))

  -- the span that has a row
  pub record AtRow (P : Pool) (r : ℕ) : Type 0 where
    pub before : Pool
    pub span : Span
    pub after : Pool
    pub split : P ≡ before ++ (span ∷ after)
    pub inside : InRows row pos r before span

  pub at_row : (P : Pool) (r : ℕ) → r < rows row P → AtRow P r
  at_row [] r h = absurd (omega arith)
  at_row (s ∷ P) r h = go (ltb r (rows_in row s)) refl (λ l. at_row P (r - rows_in row s) (omega arith))
    where
      go : (b : Bool) → ltb r (rows_in row s) ≡ b → (rows_in row s ≤ r → AtRow P (r - rows_in row s)) → AtRow (s ∷ P) r
      go true e k =
          record { before = []; span = s; after = P; split = refl; inside = record { from = omega arith; to = omega (arith, ltb-true r (rows_in row s) e) } }
      go false e k =
          let l : rows_in row s ≤ r = ltb-false r (rows_in row s) e in
          let a : AtRow P (r - rows_in row s) = k l in
          record {
            before = s ∷ a.before;
            span = a.span;
            after = a.after;
            split = ap (λ Q. s ∷ Q) a.split;
            inside = record { from = omega (arith, a.inside.from); to = omega (arith, a.inside.to) };
          }
