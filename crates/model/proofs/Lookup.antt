-- A granted slot is found by its start, and by nothing else.
use Rattle.mem.proofs.Prelude.{◌≡◌, sym, ap, refl, ap₂, subst, true, Bool, false, not, inl, inr, ◌⊎◌, Some, None, Option, List, [], ◌∷◌, ◌++◌, append_assoc}
use Rattle.mem.proofs.Prelude.{append-nil, ◌+◌, ℕ, ◌<◌, ◌≤◌, ◌*◌, ◌-◌, suc, ◌/◌, mul_comm, le-div_iff_mul-le, mul-add, arith, eq-eqb, leb-false, leb-true, T}
use Rattle.mem.proofs.Prelude.{eqb, eqb-true, eqb-false, leb, eqb→eq, leb→le, ltb→lt, T_not, length, length-append}
use Prim.Native.Nat.{max}
use native.Mathlib.Nat.{mul-le-mul_right, suc-mul, div-lt_iff_lt-mul}
use Rattle.mem.specs.Lists.{choose, every, find}
use Rattle.mem.proofs.Tests.{and_left, and_right, every-left, every-right, choose_case, choose-true, T_true, true-T}
use Rattle.classes.specs.Classes.{slot_bytes, slots_of, rows_of}
use Rattle.classes.proofs.Laws.{bytes_least, rows_hold}
use Rattle.model.specs.declared.Slot.{Slot}
use Rattle.model.specs.declared.Slot.TheVariants.{Fresh, Idle, Live}
use Rattle.model.specs.State.{Span, Pool, Place, free, group, is_live, granted, disp, size, slot_sound, span_sound, well_formed, pool_of, slot_number}
use Rattle.model.specs.State.{slot_places, places_from, places, rows_in, rows, base, owned, start}
use Rattle.model.specs.Plans.{lookup}
use Rattle.model.proofs.Tables.{group-slots}
use Rattle.model.proofs.Rooms.{rows_append}

-- ---- lists

-- what holds of every element
abbrev pub All : {A : Type 0} → (A → Type 0) → List A → Type 0
All Q [] = Unit {0}
All Q (x ∷ xs) = Q x × All Q xs

module _ {A : Type 0} (Q : A → Type 0) where
  pub all_append : (xs ys : List A) → All Q xs → All Q ys → All Q (xs ++ ys)
  all_append [] ys s t = t
  all_append (x ∷ xs) ys s t = (s.0, all_append xs ys s.1 t)

  pub all_left : (xs ys : List A) → All Q (xs ++ ys) → All Q xs
  all_left [] ys t = tt
  all_left (x ∷ xs) ys t = (t.0, all_left xs ys t.1)

  pub all_right : (xs ys : List A) → All Q (xs ++ ys) → All Q ys
  all_right [] ys t = t
  all_right (x ∷ xs) ys t = all_right xs ys t.1

  -- what is found passes the test, and what holds of every element holds of it
  pub find-some : (f : A → Bool) (xs : List A) (y : A) → find f xs ≡ Some y → All Q xs → Q y × T (f y)
  unfolding choose
  find-some f [] y e t = let z : ◌≡◌ {A = ℕ} 0 1 = cc in absurd (omega arith)
  find-some f (x ∷ xs) y e t = go (f x) refl e (λ e. find-some f xs y e t.1)
    where
      go : (b : Bool) → f x ≡ b → choose b (Some x) (find f xs) ≡ Some y → (find f xs ≡ Some y → Q y × T (f y)) → Q y × T (f y)
      go true h e r = let q : x ≡ y = cc in (subst Q q t.0, subst (λ z. T (f z)) q (true-T (f x) h))
      go false h e r = r e

-- where nothing is found, no element passes the test
pub find_none : {A : Type 0} (f : A → Bool) (xs : List A) → find f xs ≡ None → All (λ x. T (f x) → ⊥) xs
unfolding choose
find_none f [] e = tt
find_none f (x ∷ xs) e = go (f x) refl e (λ e. find_none f xs e)
  where
    go : (b : Bool) → f x ≡ b → choose b (Some x) (find f xs) ≡ None → (find f xs ≡ None → All (λ x. T (f x) → ⊥) xs)
        → (T (f x) → ⊥) × All (λ x. T (f x) → ⊥) xs
    go true h e r = let z : ◌≡◌ {A = ℕ} 0 1 = cc in absurd (omega arith)
    go false h e r = (λ t. subst T h t, r e)

-- one list split in two ways at one place
pub split_unique : {A : Type 0} (us vs us' vs' : List A) (x x' : A) → us ++ (x ∷ vs) ≡ us' ++ (x' ∷ vs') → length us ≡ length us'
    → (us ≡ us') × (x ≡ x') × (vs ≡ vs')
split_unique [] vs [] vs' x x' e l = (refl, cc, cc)
split_unique [] vs (y ∷ us') vs' x x' e l = absurd (omega arith)
split_unique (y ∷ us) vs [] vs' x x' e l = absurd (omega arith)
split_unique (y ∷ us) vs (y' ∷ us') vs' x x' e l =
    let h : y ≡ y' = cc in
    let t : us ++ (x ∷ vs) ≡ us' ++ (x' ∷ vs') = cc in
    let r : (us ≡ us') × (x ≡ x') × (vs ≡ vs') = split_unique us vs us' vs' x x' t (omega arith) in
    (ap₂ (λ a b. a ∷ b) h r.0, r.1, r.2)

-- ---- the places of a pool

-- the place of slot x, with the slots us before it and vs after it, in a group between X and Y
abbrev pub placed : Pool → ℕ → List Slot → Slot → List Slot → Pool → Place
placed X c us x vs Y = record { before = X; cls = c; lower = us; state = x; upper = vs; after = Y }

pub same-placed : {X X' : Pool} {c c' : ℕ} {us us' : List Slot} {x x' : Slot} {vs vs' : List Slot} {Y Y' : Pool}
    → X ≡ X' → c ≡ c' → us ≡ us' → x ≡ x' → vs ≡ vs' → Y ≡ Y' → placed X c us x vs Y ≡ placed X' c' us' x' vs' Y'
same-placed b c l s u a = cc

-- the group that a place is in
abbrev pub group_of : Place → Span
group_of p = group p.cls (p.lower ++ (p.state ∷ p.upper))

-- a place of the pool P
abbrev pub Of : Pool → Place → Type 0
Of P p = (pool_of p ≡ P) × T (granted p.state)

slot_places_of : (X : Pool) (c : ℕ) (us xs : List Slot) (Y : Pool) → All (Of (X ++ (group c (us ++ xs) ∷ Y))) (slot_places X c us xs Y)
slot_places_of X c us [] Y = tt
slot_places_of X c us (x ∷ xs) Y =
    let r : All (Of (X ++ (group c (us ++ (x ∷ xs)) ∷ Y))) (slot_places X c (us ++ (x ∷ [])) xs Y) =
    subst (λ l. All (Of (X ++ (group c l ∷ Y))) (slot_places X c (us ++ (x ∷ [])) xs Y)) (append_assoc us (x ∷ []) xs)
    (slot_places_of X c (us ++ (x ∷ [])) xs Y) in
    choose_case (All (Of (X ++ (group c (us ++ (x ∷ xs)) ∷ Y)))) (granted x) (placed X c us x xs Y ∷ slot_places X c (us ++ (x ∷ [])) xs Y) _
    (λ e. ((refl, true-T (granted x) e), r)) (λ e. r)

places_from_of : (X P : Pool) → All (Of (X ++ P)) (places_from X P)
places_from_of X [] = tt
places_from_of X (free ∷ P) = subst (λ Q. All (Of Q) (places_from (X ++ (free ∷ [])) P)) (append_assoc X (free ∷ []) P) (places_from_of (X ++ (free ∷ [])) P)
places_from_of X (group c ss ∷ P) =
    all_append (Of (X ++ (group c ss ∷ P))) (slot_places X c [] ss P) _ (slot_places_of X c [] ss P)
    (subst (λ Q. All (Of Q) (places_from (X ++ (group c ss ∷ [])) P)) (append_assoc X (group c ss ∷ []) P) (places_from_of (X ++ (group c ss ∷ [])) P))

pub places_of : (P : Pool) → All (Of P) (places P)
unfolding places
places_of P = places_from_of [] P

-- what holds of all places of a pool holds of each granted slot's
module _ (Q : Place → Type 0) where
  slot_places_in : (X : Pool) (c : ℕ) (ws us : List Slot) (x : Slot) (vs : List Slot) (Y : Pool) → T (granted x)
      → All Q (slot_places X c ws (us ++ (x ∷ vs)) Y) → Q (placed X c (ws ++ us) x vs Y)
  slot_places_in X c ws [] x vs Y g t =
      rw (append-nil ws) (subst (All Q) (choose-true (granted x) (placed X c ws x vs Y ∷ slot_places X c (ws ++ (x ∷ [])) vs Y) _ (T_true (granted x) g)) t).0
  slot_places_in X c ws (u ∷ us) x vs Y g t =
      subst (λ l. Q (placed X c l x vs Y)) (append_assoc ws (u ∷ []) us)
      (slot_places_in X c (ws ++ (u ∷ [])) us x vs Y g
      (choose_case (λ l. All Q l → All Q (slot_places X c (ws ++ (u ∷ [])) (us ++ (x ∷ vs)) Y)) (granted u)
      (placed X c ws u (us ++ (x ∷ vs)) Y ∷ slot_places X c (ws ++ (u ∷ [])) (us ++ (x ∷ vs)) Y) _ (λ e t. t.1) (λ e t. t) t))

  places_from_in : (W X : Pool) (c : ℕ) (us : List Slot) (x : Slot) (vs : List Slot) (Y : Pool) → T (granted x)
      → All Q (places_from W (X ++ (group c (us ++ (x ∷ vs)) ∷ Y))) → Q (placed (W ++ X) c us x vs Y)
  places_from_in W [] c us x vs Y g t =
      rw (append-nil W) (slot_places_in W c [] us x vs Y g (all_left Q (slot_places W c [] (us ++ (x ∷ vs)) Y) _ t))
  places_from_in W (free ∷ X) c us x vs Y g t =
      subst (λ Z. Q (placed Z c us x vs Y)) (append_assoc W (free ∷ []) X) (places_from_in (W ++ (free ∷ [])) X c us x vs Y g t)
  places_from_in W (group k ss ∷ X) c us x vs Y g t =
      subst (λ Z. Q (placed Z c us x vs Y)) (append_assoc W (group k ss ∷ []) X)
      (places_from_in (W ++ (group k ss ∷ [])) X c us x vs Y g (all_right Q (slot_places W k [] ss _) _ t))

  pub places_in : (p : Place) → T (granted p.state) → All Q (places (pool_of p)) → Q p
  unfolding places
  places_in p g t = places_from_in [] p.before p.cls p.lower p.state p.upper p.after g t

-- ---- where the starts of a pool lie

-- the rules of a place's group and slot
pub record Fits (p : Place) : Type 0 where
  pub class : p.cls < 48
  pub slots : length (p.lower ++ (p.state ∷ p.upper)) ≡ slots_of p.cls
  pub number : slot_number p < slots_of p.cls
  pub state : T (slot_sound p.cls p.state)
  pub others : T (every (slot_sound p.cls) p.lower) × T (every (slot_sound p.cls) p.upper)
  pub before : T (well_formed p.before)
  pub after : T (well_formed p.after)

pub fits : (p : Place) → T (well_formed (pool_of p)) → Fits p
unfolding span_sound
fits p w =
    let ss : List Slot = p.lower ++ (p.state ∷ p.upper) in
    let r : T (well_formed (group p.cls ss ∷ p.after)) = every-right span_sound p.before (group p.cls ss ∷ p.after) w in
    let g : T (span_sound (group p.cls ss)) = and_left (span_sound (group p.cls ss)) (well_formed p.after) r in
    let e : T (every (slot_sound p.cls) ss) = search (and_left, and_right) in
    let t : T (every (slot_sound p.cls) (p.state ∷ p.upper)) = every-right (slot_sound p.cls) p.lower (p.state ∷ p.upper) e in
    let n : length ss ≡ slots_of p.cls = group-slots p.cls ss g in
    record {
      class = ltb→lt p.cls 48 (search (and_left, and_right));
      slots = n;
      number = omega (arith, n, length-append p.lower (p.state ∷ p.upper));
      state = and_left (slot_sound p.cls p.state) (every (slot_sound p.cls) p.upper) t;
      others = (
        every-left (slot_sound p.cls) p.lower (p.state ∷ p.upper) e,
        and_right (slot_sound p.cls p.state)
            (every (slot_sound p.cls) p.upper) t,
      );
      before = every-left span_sound p.before (group p.cls ss ∷ p.after) w;
      after = and_right (span_sound (group p.cls ss)) (well_formed p.after) r;
    }

-- a last start lies in its slot, and a live block too
pub disp_inside : (c : ℕ) (x : Slot) → c < 48 → T (slot_sound c x) → 16 * disp x + size x + 4 ≤ slot_bytes c
unfolding slot_sound
disp_inside c Fresh h t = omega (arith, bytes_least c h)
disp_inside c (Idle r k d) h t =
    let l : T (leb (16 * d) (slot_bytes c - 4)) = search (and_left, and_right) in omega (arith, bytes_least c h, leb→le)
disp_inside c (Live a) h t =
    let l : T (leb (16 * a.disp + a.size) (slot_bytes c - 4)) = search (and_left, and_right) in omega (arith, bytes_least c h, leb→le)

module _ (row : ℕ) (pos : 0 < row) where
  -- the bytes of a slot lie in its group's rows
  pub slot_inside : (p : Place) → T (well_formed (pool_of p)) → 16 + suc (slot_number p) * slot_bytes p.cls ≤ row * rows_of row p.cls
  slot_inside p w =
      let f : Fits p = fits p w in
      omega (arith, rows_hold row p.cls pos, mul-le-mul_right (slot_bytes p.cls) f.number, mul_comm (slot_bytes p.cls) (slots_of p.cls))

  -- row r is one of a span's
  pub record InRows (r : ℕ) (X : Pool) (s : Span) : Type 0 where
    pub from : rows row X ≤ r
    pub to : r < rows row X + rows_in row s

  -- the row of a byte of a group is one of the group's
  pub byte_row : (p : Place) (i : ℕ) → base row p ≤ i → i < base row p + row * rows_of row p.cls → InRows (i / row) p.before (group_of p)
  byte_row p i h l = record {
    from = (le-div_iff_mul-le pos).1 (omega (arith, h, mul_comm row (rows row p.before)));
    to = (div-lt_iff_lt-mul pos).1
        (omega (arith, l, mul_comm (rows row p.before + rows_of row p.cls) row, mul-add row (rows row p.before) (rows_of row p.cls)));
  }

  pub start_row : (p : Place) → T (well_formed (pool_of p)) → InRows (start row p / row) p.before (group_of p)
  start_row p w =
      let f : Fits p = fits p w in
      let d : 16 * disp p.state + size p.state + 4 ≤ slot_bytes p.cls = disp_inside p.cls p.state f.class f.state in
      byte_row p (start row p) (omega arith) (omega (arith, d, slot_inside p w, suc-mul (slot_number p) (slot_bytes p.cls)))

  -- one pool, split in two ways round one row
  pub span_unique : (r : ℕ) (X : Pool) (s : Span) (Y X' : Pool) (s' : Span) (Y' : Pool) → X ++ (s ∷ Y) ≡ X' ++ (s' ∷ Y')
      → InRows r X s → InRows r X' s' → (X ≡ X') × (s ≡ s') × (Y ≡ Y')
  span_unique r [] s Y [] s' Y' e i j = (refl, cc, cc)
  span_unique r [] s Y (x ∷ X') s' Y' e i j =
      let h : s ≡ x = cc in absurd (omega (arith, i.to, j.from, ap (rows_in row) h))
  span_unique r (x ∷ X) s Y [] s' Y' e i j =
      let h : x ≡ s' = cc in absurd (omega (arith, i.from, j.to, ap (rows_in row) h))
  span_unique r (x ∷ X) s Y (x' ∷ X') s' Y' e i j =
      let h : x ≡ x' = cc in
      let t : X ++ (s ∷ Y) ≡ X' ++ (s' ∷ Y') = cc in
      let n : rows_in row x ≡ rows_in row x' = ap (rows_in row) h in
      let u : (X ≡ X') × (s ≡ s') × (Y ≡ Y') =
      span_unique (r - rows_in row x) X s Y X' s' Y' t
      (record { from = omega (arith, i.from, i.to); to = omega (arith, i.from, i.to) })
      (record { from = omega (arith, j.from, j.to, n); to = omega (arith, j.from, j.to, n) }) in
      (ap₂ (λ a b. a ∷ b) h u.0, u.1, u.2)

  -- two slots of one group whose starts are one are one slot
  same_slot : (c i j d e : ℕ) → 16 * d + 4 ≤ slot_bytes c → 16 * e + 4 ≤ slot_bytes c → i * slot_bytes c + 16 * d ≡ j * slot_bytes c + 16 * e → i ≡ j
  same_slot c i j d e h k q =
      let a : i < j → ⊥ = λ l. omega (arith, mul-le-mul_right (slot_bytes c) l, suc-mul i (slot_bytes c)) in
      let b : j < i → ⊥ = λ l. omega (arith, mul-le-mul_right (slot_bytes c) l, suc-mul j (slot_bytes c)) in
      omega arith

  -- two places of one pool, whose groups have a row in common, are one if their slots' numbers are
  pub group_unique : (r : ℕ) (p q : Place) → pool_of q ≡ pool_of p → InRows r q.before (group_of q) → InRows r p.before (group_of p)
      → (q.before ≡ p.before → q.cls ≡ p.cls → q.lower ++ (q.state ∷ q.upper) ≡ p.lower ++ (p.state ∷ p.upper) → slot_number q ≡ slot_number p)
      → q ≡ p
  group_unique r p q e i j n =
      let u : (q.before ≡ p.before) × (group_of q ≡ group_of p) × (q.after ≡ p.after) =
      span_unique r q.before (group_of q) q.after p.before (group_of p) p.after e i j in
      let k : group_of q ≡ group_of p = u.1 in
      let c : q.cls ≡ p.cls = cc in
      let l : q.lower ++ (q.state ∷ q.upper) ≡ p.lower ++ (p.state ∷ p.upper) = cc in
      let v : (q.lower ≡ p.lower) × (q.state ≡ p.state) × (q.upper ≡ p.upper) =
      split_unique q.lower q.upper p.lower p.upper q.state p.state l (n u.0 c l) in
      same-placed u.0 c v.0 v.1 v.2 u.2

  -- two places of one pool with one start are one
  pub place_unique : (p q : Place) → T (well_formed (pool_of p)) → pool_of q ≡ pool_of p → start row q ≡ start row p → q ≡ p
  place_unique p q w e s =
      let w' : T (well_formed (pool_of q)) = subst (λ P. T (well_formed P)) (sym e) w in
      let f : Fits p = fits p w in
      let g : Fits q = fits q w' in
      group_unique (start row p / row) p q e (subst (λ n. InRows (n / row) q.before (group_of q)) s (start_row q w')) (start_row p w)
      (λ b c l.
      let m : slot_bytes q.cls ≡ slot_bytes p.cls = ap slot_bytes c in
      same_slot p.cls (slot_number q) (slot_number p) (disp q.state) (disp p.state)
      (omega (arith, disp_inside q.cls q.state g.class g.state, m))
      (omega (arith, disp_inside p.cls p.state f.class f.state))
      (omega (arith, s, ap (λ X. row * rows row X) b, ap (λ z. slot_number q * z) m)))

  -- a granted slot is found by its start
  pub lookup-start : (p : Place) → T (well_formed (pool_of p)) → T (granted p.state) → lookup row (pool_of p) (start row p) ≡ Some p
  unfolding lookup
  lookup-start p w g = go (lookup row (pool_of p) (start row p)) refl
    where
      hit : Place → Bool
      hit q = eqb (start row q) (start row p)

      go : (r : Option Place) → lookup row (pool_of p) (start row p) ≡ r → r ≡ Some p
      go None e =
          absurd (places_in (λ q. T (hit q) → ⊥) p g (find_none hit (places (pool_of p)) e) (true-T (hit p) (eq-eqb (start row p) (start row p) refl)))
      go (Some q) e =
          let f : Of (pool_of p) q × T (hit q) = find-some (Of (pool_of p)) hit (places (pool_of p)) q e (places_of (pool_of p)) in
          ap Some (place_unique p q w f.0.0 (eqb→eq (start row q) (start row p) f.1))

  -- what is found is a granted slot of the pool with that start
  pub lookup_found : (P : Pool) (o : ℕ) (p : Place) → lookup row P o ≡ Some p → (pool_of p ≡ P) × T (granted p.state) × (start row p ≡ o)
  unfolding lookup
  lookup_found P o p e =
      let f : Of P p × T (eqb (start row p) o) = find-some (Of P) (λ q. eqb (start row q) o) (places P) p e (places_of P) in
      (f.0.0, f.0.1, eqb→eq (start row p) o f.1)

  -- its bytes lie in the pool's rows
  pub owned_inside : (p : Place) → T (well_formed (pool_of p)) → owned row p + slot_bytes p.cls ≤ row * rows row (pool_of p)
  owned_inside p w =
      rw (rows_append row p.before (group p.cls (p.lower ++ (p.state ∷ p.upper)) ∷ p.after), mul-add, mul-add)
      (omega (arith, slot_inside p w, suc-mul (slot_number p) (slot_bytes p.cls)))

-- ---- slots never share a byte

-- byte i is one that a slot owns
pub record Owns (row : ℕ) (p : Place) (i : ℕ) : Type 0 where
  pub from : owned row p ≤ i
  pub to : i < owned row p + slot_bytes p.cls

-- one list of slots in which only x may be live: a live one is x
lone_live : (us : List Slot) (x : Slot) (vs us' : List Slot) (y : Slot) (vs' : List Slot) → us ++ (x ∷ vs) ≡ us' ++ (y ∷ vs')
    → T (every (λ z. not (is_live z)) (us ++ vs)) → T (is_live y) → length us ≡ length us'
lone_live [] x vs [] y vs' e n l = refl
lone_live [] x vs (z ∷ us') y vs' e n l =
    let h : vs ≡ us' ++ (y ∷ vs') = cc in
    let m : T (every (λ z. not (is_live z)) (us' ++ (y ∷ vs'))) = subst (λ l. T (every (λ z. not (is_live z)) l)) h n in
    absurd (T_not (is_live y) (and_left (not (is_live y)) _ (every-right (λ z. not (is_live z)) us' (y ∷ vs') m)) l)
lone_live (z ∷ us) x vs [] y vs' e n l =
    let h : z ≡ y = cc in
    absurd (T_not (is_live y) (subst (λ z. T (not (is_live z))) h (and_left (not (is_live z)) _ n)) l)
lone_live (z ∷ us) x vs (z' ∷ us') y vs' e n l =
    let h : us ++ (x ∷ vs) ≡ us' ++ (y ∷ vs') = cc in
    ap suc (lone_live us x vs us' y vs' h (and_right (not (is_live z)) _ n) l)

one_slot : (s i j x : ℕ) → i * s ≤ x → x < suc i * s → j * s ≤ x → x < suc j * s → i ≡ j
one_slot s i j x a b c d =
    let l : i < j → ⊥ = λ h. omega (arith, mul-le-mul_right s h) in
    let g : j < i → ⊥ = λ h. omega (arith, mul-le-mul_right s h) in
    omega arith

module _ (row : ℕ) (pos : 0 < row) where
  -- the row of an owned byte is one of its group's
  owned_row : (p : Place) (i : ℕ) → T (well_formed (pool_of p)) → Owns row p i → InRows row pos (i / row) p.before (group_of p)
  owned_row p i w o =
      byte_row row pos p i (omega (arith, o.from)) (omega (arith, o.to, slot_inside row pos p w, suc-mul (slot_number p) (slot_bytes p.cls)))

  pub owned_unique : (p q : Place) (i : ℕ) → T (well_formed (pool_of p)) → pool_of q ≡ pool_of p → Owns row p i → Owns row q i → q ≡ p
  owned_unique p q i w e o o' =
      group_unique row pos (i / row) p q e (owned_row q i (subst (λ P. T (well_formed P)) (sym e) w) o') (owned_row p i w o)
      (λ f c l.
      let b : row * rows row q.before ≡ row * rows row p.before = ap (λ X. row * rows row X) f in
      let s : ℕ = slot_bytes p.cls in
      let m : slot_number q * slot_bytes q.cls ≡ slot_number q * s = ap (λ z. slot_number q * slot_bytes z) c in
      one_slot s (slot_number q) (slot_number p) (i - (row * rows row p.before + 12))
      (omega (arith, o'.from, b, m)) (omega (arith, o'.to, b, m, ap slot_bytes c, suc-mul (slot_number q) s))
      (omega (arith, o.from)) (omega (arith, o.to, suc-mul (slot_number p) s)))

  -- two places of a pool are one or not
  pub one_or_other : (p q : Place) → T (well_formed (pool_of p)) → pool_of q ≡ pool_of p → (q ≡ p) ⊎ (q ≡ p → ⊥)
  one_or_other p q w e = go (eqb (owned row q) (owned row p)) refl
    where
      go : (b : Bool) → eqb (owned row q) (owned row p) ≡ b → (q ≡ p) ⊎ (q ≡ p → ⊥)
      go true h =
          let i : owned row q ≡ owned row p = eqb-true (owned row q) (owned row p) h in
          let v : T (well_formed (pool_of q)) = subst (λ P. T (well_formed P)) (sym e) w in
          inl (owned_unique p q (owned row p) w e (record { from = omega arith; to = omega (arith, bytes_least p.cls (fits p w).class) })
          (record { from = omega (arith, i); to = omega (arith, i, bytes_least q.cls (fits q v).class) }))
      go false h = inr (λ z. eqb-false (owned row q) (owned row p) h (ap (owned row) z))

  -- a live slot's bytes lie outside the rows of a group that has no live slot but perhaps another
  pub outside_group : (p q : Place) (i : ℕ) → T (well_formed (pool_of p)) → pool_of q ≡ pool_of p → (q ≡ p → ⊥) → T (is_live q.state) → Owns row q i
      → T (every (λ x. not (is_live x)) (p.lower ++ p.upper)) → (i < base row p) ⊎ (base row p + row * rows_of row p.cls ≤ i)
  outside_group p q i w e d l o n = go (leb (base row p) i) refl (leb (base row p + row * rows_of row p.cls) i) refl
    where
      inside : base row p ≤ i → i < base row p + row * rows_of row p.cls → ⊥
      inside f h =
          d (group_unique row pos (i / row) p q e (owned_row q i (subst (λ P. T (well_formed P)) (sym e) w) o) (byte_row row pos p i f h)
          (λ b c s. sym (lone_live p.lower p.state p.upper q.lower q.state q.upper (sym s) n l)))

      go : (b : Bool) → leb (base row p) i ≡ b → (b' : Bool) → leb (base row p + row * rows_of row p.cls) i ≡ b'
          → (i < base row p) ⊎ (base row p + row * rows_of row p.cls ≤ i)
      go false f b' h = inl (leb-false (base row p) i f)
      go true f true h = inr (leb-true (base row p + row * rows_of row p.cls) i h)
      go true f false h = absurd (inside (leb-true (base row p) i f) (leb-false (base row p + row * rows_of row p.cls) i h))

  -- the bytes of two slots of one pool are apart
  pub owned_apart : (p q : Place) → T (well_formed (pool_of p)) → pool_of q ≡ pool_of p → (q ≡ p → ⊥)
      → (owned row p + slot_bytes p.cls ≤ owned row q) ⊎ (owned row q + slot_bytes q.cls ≤ owned row p)
  owned_apart p q w e d = go (leb (owned row p + slot_bytes p.cls) (owned row q)) refl
    where
      f : Fits p
      f = fits p w

      g : Fits q
      g = fits q (subst (λ P. T (well_formed P)) (sym e) w)

      go : (b : Bool) → leb (owned row p + slot_bytes p.cls) (owned row q) ≡ b
          → (owned row p + slot_bytes p.cls ≤ owned row q) ⊎ (owned row q + slot_bytes q.cls ≤ owned row p)
      go true h = inl (leb-true (owned row p + slot_bytes p.cls) (owned row q) h)
      go false h =
          let l : owned row q < owned row p + slot_bytes p.cls = leb-false (owned row p + slot_bytes p.cls) (owned row q) h in
          let below : owned row p < owned row q + slot_bytes q.cls → ⊥ =
          λ m. d (owned_unique p q (max (owned row p) (owned row q)) w e
          (record { from = omega arith; to = omega (arith, bytes_least p.cls f.class) })
          (record { from = omega arith; to = omega (arith, bytes_least q.cls g.class) })) in
          inr (omega arith)
