-- A walk over the spans of sound tables, in any layout, from row 0 on: what is looked for in the whole is what is looked for in what is left.
-- The search for a group that can serve is one.
use Rattle.mem.proofs.Prelude.{◌∙◌, ◌≡◌, sym, ap, refl, subst, true, Bool, false, List, [], ◌∷◌, ◌++◌, append_assoc, ◌+◌, ℕ, ◌<◌, ◌≤◌, arith, drop, Some, None}
use Rattle.mem.proofs.Tests.{choose-true, choose-false}
use Rattle.model.specs.State.{Span, Pool, rows}
use Rattle.model.specs.Plans.{opens, open_from}
use Rattle.model.specs.Tables.{Layout, row_at, view_by, view_holder}
use Rattle.model.proofs.Rooms.{rows_append}
use Rattle.rows.specs.Rows.{Lent, Passed, NoneOpen, site_found, rows_held, class_held}
use Rattle.rows.proofs.Rooms.{holder_of, held_class, held_rows, some-rows, span_sound_lem, span_holder}

-- the span that begins at row i, of which the walk has passed what lies before
pub record Ahead {A : Type 0} (L : Layout) (row : ℕ) (t : List ℕ) (f : Pool → Pool → A) (i : ℕ) : Type 0 where
  pub before : Pool
  pub span : Span
  pub after : Pool
  pub split : view_by L row t ≡ before ++ (span ∷ after)
  pub count : rows row before ≡ i
  pub same : f [] (view_by L row t) ≡ f before (span ∷ after)

module _ {A : Type 0} (L : Layout) (row : ℕ) (t : List ℕ) (f : Pool → Pool → A) where
  pub none_passed : Passed L row t f 0
  none_passed = record { before = []; after = view_by L row t; split = refl; count = refl; same = refl }

module _ {A : Type 0} {L : Layout} {row n : ℕ} {t : List ℕ} (r : Lent L row n t) (f : Pool → Pool → A) (i : ℕ) where
  pub ahead : Passed L row t f i → i < rows row (view_by L row t) → Ahead L row t f i
  ahead p h = go p.before p.after p.split p.count p.same
    where
      go : (X Y : Pool) → view_by L row t ≡ X ++ Y → rows row X ≡ i → f [] (view_by L row t) ≡ f X Y → Ahead L row t f i
      go X [] q k e = absurd (omega (arith, ap (rows row) q, rows_append row X []))
      go X (s ∷ Y) q k e = record { before = X; span = s; after = Y; split = q; count = k; same = e }

  -- at the end nothing is left
  pub all_passed : Passed L row t f i → rows row (view_by L row t) ≤ i → (X : Pool) × (f [] (view_by L row t) ≡ f X [])
  all_passed p h = go p.before p.after p.split p.count p.same
    where
      go : (X Y : Pool) → view_by L row t ≡ X ++ Y → rows row X ≡ i → f [] (view_by L row t) ≡ f X Y → (X : Pool) × (f [] (view_by L row t) ≡ f X [])
      go X [] q k e = (X, e)
      go X (s ∷ Y) q k e = absurd (omega (arith, ap (rows row) q, rows_append row X (s ∷ Y), some-rows row r.pos s))

  module _ (a : Ahead L row t f i) where
    ahead_held : view_holder (drop (row_at i) t) ≡ holder_of a.span
    ahead_held = subst (λ k. view_holder (drop (row_at k) t) ≡ holder_of a.span) a.count (span_holder r a.before a.span a.after a.split)

    pub ahead_class : class_held (view_holder (drop (row_at i) t)) < 48
    ahead_class = rw ahead_held (held_class a.span (span_sound_lem r a.before a.span a.after a.split))

    -- past a span that does not matter
    pub further : f a.before (a.span ∷ a.after) ≡ f (a.before ++ (a.span ∷ [])) a.after
        → Passed L row t f (i + rows_held row (view_holder (drop (row_at i) t)))
    further e = record {
      before = a.before ++ (a.span ∷ []);
      after = a.after;
      split = a.split ∙ sym (append_assoc a.before (a.span ∷ []) a.after);
      count = omega (arith, rows_append row a.before (a.span ∷ []), a.count, ap (rows_held row) ahead_held, held_rows row a.span);
      same = a.same ∙ e;
    }

-- ---- the search for a group that can serve

-- what the span that begins at row i says, b being whether it can serve
pub record OpenStep (L : Layout) (row : ℕ) (t : List ℕ) (c : ℕ) (b : Bool) (i : ℕ) : Type 0 where
  pub class : class_held (view_holder (drop (row_at i) t)) < 48
  pub hit : b ≡ true → site_found row (open_from [] c (view_by L row t)) ≡ Some i
  pub miss : b ≡ false → NoneOpen L row t c (i + rows_held row (view_holder (drop (row_at i) t)))

pub open_start : (L : Layout) (row : ℕ) (t : List ℕ) (c : ℕ) → NoneOpen L row t c 0
open_start L row t c = none_passed L row t (λ X Y. open_from X c Y)

module _ {L : Layout} {row n : ℕ} {t : List ℕ} (r : Lent L row n t) (c i : ℕ) (p : NoneOpen L row t c i) where
  pub open_step : (b : Bool) → ((X : Pool) (s : Span) (Y : Pool) → view_by L row t ≡ X ++ (s ∷ Y) → i ≡ rows row X → b ≡ opens c s)
      → i < rows row (view_by L row t) → OpenStep L row t c b i
  open_step b told h =
      let a : Ahead L row t (λ X Y. open_from X c Y) i = ahead r (λ X Y. open_from X c Y) i p h in
      let o : b ≡ opens c a.span = told a.before a.span a.after a.split (sym a.count) in
      record {
        class = ahead_class r (λ X Y. open_from X c Y) i a;
        hit = λ e. ap (site_found row) (a.same ∙ choose-true (opens c a.span) _ _ (sym o ∙ e)) ∙ ap Some a.count;
        miss = λ e. further r (λ X Y. open_from X c Y) i a (choose-false (opens c a.span) _ _ (sym o ∙ e));
      }

  pub open_end : rows row (view_by L row t) ≤ i → site_found row (open_from [] c (view_by L row t)) ≡ None
  open_end h = ap (site_found row) (all_passed r (λ X Y. open_from X c Y) i p h).1
