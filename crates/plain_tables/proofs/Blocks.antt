-- The block at an offset, as it is looked up in the pool: span by span and slot by slot, each start computed on its way.
use Rattle.mem.proofs.Prelude.{◌∙◌, ◌≡◌, sym, ap, refl, ap₂, true, Bool, false, true≢false, Some, List, [], ◌∷◌, ◌++◌, ◌+◌, ℕ, ◌*◌, suc, arith, eqb}
use Rattle.mem.proofs.Prelude.{subst, length, length-append, ◌<◌, ◌≤◌, drop}
use Rattle.mem.specs.Lists.{choose, find}
use Rattle.classes.specs.Classes.{slot_bytes}
use Rattle.model.specs.declared.Slot.{Slot}
use Rattle.model.specs.declared.Slot.TheVariants.{Fresh, Idle, Live}
use Rattle.model.specs.State.{Span, Pool, Place, free, group, granted, slot_places, places_from, places, rows, start}
use Rattle.model.specs.Plans.{lookup}
use Rattle.model.specs.Tables.{row_at, view_by, view_holder}
use Rattle.model.specs.Plain.{slots_layout}
use Rattle.rows.specs.declared.Looked.{Looked}
use Rattle.rows.specs.declared.Looked.TheVariants.{Present, Freed, Absent}
use Rattle.rows.specs.Rows.{Lent, Passed, class_held, rows_held, looked, block_of}
use Rattle.rows.proofs.Rooms.{span_holder}
use Rattle.rows.proofs.Walks.{Ahead, ahead, ahead_class, further, all_passed}
use Rattle.plain_tables.specs.Found.{or_else, is_absent, slot_looked, slots_looked, row_looked}
use Rattle.plain_tables.proofs.Rooms.{group-read}

or_assoc : (a b c : Looked) → or_else a (or_else b c) ≡ or_else (or_else a b) c
or_assoc Absent b c = refl
or_assoc Freed b c = refl
or_assoc (Present x) b c = refl

pub or-absent : (a b : Looked) → is_absent a ≡ true → or_else a b ≡ b
or-absent Absent b e = refl
or-absent Freed b e = absurd (true≢false (sym e))
or-absent (Present x) b e = absurd (true≢false (sym e))

pub or_found : (a b : Looked) → is_absent a ≡ false → or_else a b ≡ a
or_found Absent b e = absurd (true≢false e)
or_found Freed b e = refl
or_found (Present x) b e = refl

module _ (row o : ℕ) where
  -- what is found among places
  pub found_in : List Place → Looked
  found_in ps = looked row (find (λ p. eqb (start row p) o) ps)

  module _ (X : Pool) (c : ℕ) (Y : Pool) where
    -- where a slot begins that stands behind us
    abbrev begins : List Slot → ℕ
    begins us = row * rows row X + 16 + length us * slot_bytes c

    -- a slot, and the places behind it
    slot_found : (us : List Slot) (x : Slot) (xs : List Slot) (R : List Place)
        → (let p : Place = record { before = X; cls = c; lower = us; state = x; upper = xs; after = Y } in found_in (choose (granted x) (p ∷ R) R))
        ≡ or_else (slot_looked (rows row X) c (length us) (begins us) o x) (found_in R)
    unfolding found_in choose
    slot_found us Fresh xs R = refl
    slot_found us (Idle r k d) xs R = go (eqb (begins us + 16 * d) o)
      where
        p : Place
        p = record { before = X; cls = c; lower = us; state = Idle r k d; upper = xs; after = Y }

        go : (b : Bool) → looked row (choose b (Some p) (find (λ p. eqb (start row p) o) R)) ≡ or_else (choose b Freed Absent) (found_in R)
        go true = refl
        go false = refl
    slot_found us (Live a) xs R = go (eqb (begins us + 16 * a.disp) o)
      where
        p : Place
        p = record { before = X; cls = c; lower = us; state = Live a; upper = xs; after = Y }

        go : (b : Bool) → looked row (choose b (Some p) (find (λ p. eqb (start row p) o) R)) ≡ or_else (choose b (Present (block_of row p)) Absent) (found_in R)
        go true = refl
        go false = refl

    slots_found : (us xs : List Slot) (R : List Place)
        → found_in (slot_places X c us xs Y ++ R) ≡ or_else (slots_looked (rows row X) c (length us) (begins us) o xs) (found_in R)
    unfolding slots_looked choose
    slots_found us [] R = refl
    slots_found us (x ∷ xs) R =
        let n : length (us ++ (x ∷ [])) ≡ suc (length us) = omega (arith, length-append us (x ∷ [])) in
        let b : begins (us ++ (x ∷ [])) ≡ begins us + slot_bytes c = ap (λ k. row * rows row X + 16 + k * slot_bytes c) n ∙ omega arith in
        ap found_in (spread (record { before = X; cls = c; lower = us; state = x; upper = xs; after = Y }) (granted x))
        ∙ slot_found us x xs (rest ++ R)
        ∙ ap (or_else (slot_looked (rows row X) c (length us) (begins us) o x))
        (slots_found (us ++ (x ∷ [])) xs R ∙ ap₂ (λ j k. or_else (slots_looked (rows row X) c j k o xs) (found_in R)) n b)
        ∙ or_assoc (slot_looked (rows row X) c (length us) (begins us) o x)
        (slots_looked (rows row X) c (suc (length us)) (begins us + slot_bytes c) o xs) (found_in R)
      where
        rest : List Place
        rest = slot_places X c (us ++ (x ∷ [])) xs Y

        spread : (p : Place) (v : Bool) → choose v (p ∷ rest) rest ++ R ≡ choose v (p ∷ (rest ++ R)) (rest ++ R)
        spread p true = refl
        spread p false = refl

    -- a group, and what lies behind it
    pub group_found : (ss : List Slot) → found_in (places_from X (group c ss ∷ Y))
        ≡ or_else (slots_looked (rows row X) c 0 (row * rows row X + 16) o ss) (found_in (places_from (X ++ (group c ss ∷ [])) Y))
    group_found ss =
        let e : begins [] ≡ row * rows row X + 16 = omega arith in
        slots_found [] ss (places_from (X ++ (group c ss ∷ [])) Y)
        ∙ ap (λ b. or_else (slots_looked (rows row X) c 0 b o ss) (found_in (places_from (X ++ (group c ss ∷ [])) Y))) e

-- ---- the walk over the rows of sound tables

-- what is looked for in what is left
abbrev pub Left : (row o : ℕ) → Pool → Pool → Looked
Left row o X Y = found_in row o (places_from X Y)

pub left_whole : (row o : ℕ) (P : Pool) → Left row o [] P ≡ looked row (lookup row P o)
unfolding found_in lookup places
left_whole row o P = refl

pub left-none : (row o : ℕ) (X : Pool) → Left row o X [] ≡ Absent
unfolding found_in
left-none row o X = refl

-- what the span that begins at row i says
pub record BlockStep (row : ℕ) (t : List ℕ) (o i : ℕ) : Type 0 where
  pub class : class_held (view_holder (drop (row_at i) t)) < 48
  pub hit : is_absent (row_looked row i o (drop (row_at i) t)) ≡ false
      → looked row (lookup row (view_by slots_layout row t) o) ≡ row_looked row i o (drop (row_at i) t)
  pub miss : is_absent (row_looked row i o (drop (row_at i) t)) ≡ true
      → Passed slots_layout row t (Left row o) (i + rows_held row (view_holder (drop (row_at i) t)))

module _ {row n : ℕ} {t : List ℕ} (r : Lent slots_layout row n t) (o : ℕ) where
  -- a span, and what lies behind it
  span_found : (X : Pool) (s : Span) (Y : Pool) → view_by slots_layout row t ≡ X ++ (s ∷ Y)
      → Left row o X (s ∷ Y) ≡ or_else (row_looked row (rows row X) o (drop (row_at (rows row X)) t)) (Left row o (X ++ (s ∷ [])) Y)
  unfolding row_looked
  span_found X free Y p = rw (span_holder r X free Y p)
  span_found X (group c ss) Y p = group_found row o X c Y ss ∙ sym (rw (span_holder r X (group c ss) Y p, group-read r X c ss Y p))

  pub block_step : (i : ℕ) → Passed slots_layout row t (Left row o) i → i < rows row (view_by slots_layout row t) → BlockStep row t o i
  block_step i p h =
      let a : Ahead slots_layout row t (Left row o) i = ahead r (Left row o) i p h in
      let e = subst (λ k. Left row o a.before (a.span ∷ a.after) ≡ or_else (row_looked row k o (drop (row_at k) t)) (Left row o (a.before ++
      (a.span ∷ [])) a.after))
      a.count (span_found a.before a.span a.after a.split) in
      record {
        class = ahead_class r (Left row o) i a;
        hit = λ b. sym (left_whole row o (view_by slots_layout row t)) ∙ a.same ∙ e ∙ or_found (row_looked row i o (drop (row_at i) t)) _ b;
        miss = λ b. further r (Left row o) i a (e ∙ or-absent (row_looked row i o (drop (row_at i) t)) _ b);
      }

  pub block_end : (i : ℕ) → Passed slots_layout row t (Left row o) i → rows row (view_by slots_layout row t) ≤ i
      → looked row (lookup row (view_by slots_layout row t) o) ≡ Absent
  block_end i p h = let q = all_passed r (Left row o) i p h in sym (left_whole row o (view_by slots_layout row t)) ∙ q.1 ∙ left-none row o q.0
