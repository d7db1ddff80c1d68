-- The search for a run of free rows, span by span.
use Rattle.mem.proofs.Prelude.{◌∙◌, ◌≡◌, sym, ap, refl, subst, None, List, [], ◌∷◌, ◌++◌, append_assoc, append-nil, ◌+◌, ℕ, ◌<◌, ◌≤◌, ◌-◌, arith, Some}
use Rattle.mem.proofs.Prelude.{drop}
use Rattle.classes.specs.Classes.{rows_of}
use Rattle.classes.proofs.Laws.{rows_pos}
use Rattle.model.specs.declared.Slot.{Slot}
use Rattle.model.specs.State.{Span, Pool, free, group, rows}
use Rattle.model.specs.Plans.{run_from, fresh_pool}
use Rattle.model.specs.Tables.{Layout, row_at, view_by, view_holder}
use Rattle.model.proofs.Rooms.{rows_append}
use Rattle.model.proofs.Fresh.{fresh-rows}
use Rattle.rows.specs.declared.Run.{Run}
use Rattle.rows.specs.Rows.{Lent, site_found, class_held, next_run}
use Rattle.rows.proofs.Rooms.{holder_of, held_class, some-rows, span_sound_lem, span_holder}
use Rattle.rows.proofs.Runs.{run_here, run_broken, run_out, fresh-more}

module _ (L : Layout) (row : ℕ) (t : List ℕ) (c : ℕ) where
  -- the spans of the first i rows, of which those from a row on are free rows, too few, and before them there is no run
  pub record Ran (from i : ℕ) : Type 0 where
    pub before : Pool
    pub length : ℕ
    pub after : Pool
    pub split : view_by L row t ≡ before ++ (fresh_pool length ++ after)
    pub first : rows row before ≡ from
    pub count : from + length ≡ i
    pub short : length < rows_of row c
    pub same : run_from row [] c (view_by L row t) ≡ run_from row before c (fresh_pool length ++ after)

  pub run-start : 0 < row → Ran 0 0
  run-start pos =
      record { before = []; length = 0; after = view_by L row t; split = refl; first = refl; count = refl; short = rows_pos row c pos; same = refl }

  -- the run after the span that begins at row i
  pub record RunStep (i : ℕ) (r : Run) : Type 0 where
    pub class : class_held (view_holder (drop (row_at i) t)) < 48
    pub order : r.from ≤ r.next
    pub further : i < r.next
    pub hit : r.next - r.from ≡ rows_of row c → site_found row (run_from row [] c (view_by L row t)) ≡ Some r.from
    pub miss : (r.next - r.from ≡ rows_of row c → ⊥) → Ran r.from r.next

module _ {L : Layout} {row n : ℕ} {t : List ℕ} (r : Lent L row n t) (c : ℕ) where
  module _ (X : Pool) (k : ℕ) (Y : Pool) (short : k < rows_of row c) where
    step-free : view_by L row t ≡ X ++ (fresh_pool k ++ (free ∷ Y)) → run_from row [] c (view_by L row t) ≡ run_from row X c (fresh_pool k ++ (free ∷ Y))
        → class_held (view_holder (drop (row_at (rows row X + k)) t)) < 48
        → RunStep L row t c (rows row X + k) (record { from = rows row X; next = rows row X + k + 1 })
    step-free p q h =
        let more : fresh_pool k ++ (free ∷ Y) ≡ fresh_pool (k + 1) ++ Y = fresh-more k Y in
        record {
          class = h;
          order = omega arith;
          further = omega arith;
          hit = λ b. ap (site_found row) (q ∙ ap (run_from row X c) more ∙ run_here row r.pos c X Y (k + 1) (omega arith));
          miss =
              λ b. record {
                before = X;
                length = k + 1;
                after = Y;
                split = p ∙ ap (λ Z. X ++ Z) more;
                first = refl;
                count = omega arith;
                short = omega arith;
                same = q ∙ ap (run_from row X c) more;
              };
        }

    step-group : (g : ℕ) (ss : List Slot) → view_by L row t ≡ X ++ (fresh_pool k ++ (group g ss ∷ Y))
        → run_from row [] c (view_by L row t) ≡ run_from row X c (fresh_pool k ++ (group g ss ∷ Y))
        → class_held (view_holder (drop (row_at (rows row X + k)) t)) < 48
        → RunStep L row t c (rows row X + k) (record { from = rows row X + k + rows_of row g; next = rows row X + k + rows_of row g })
    step-group g ss p q h =
        let Z : Pool = X ++ (fresh_pool k ++ (group g ss ∷ [])) in
        record {
          class = h;
          order = omega arith;
          further = omega (arith, rows_pos row g r.pos);
          hit = λ b. absurd (omega (arith, rows_pos row c r.pos));
          miss =
              λ b. record {
                before = Z;
                length = 0;
                after = Y;
                split = p ∙ simp append_assoc;
                first = omega (arith, rows_append row X (fresh_pool k ++ (group g ss ∷ [])), rows_append row (fresh_pool k) (group g ss ∷ []), fresh-rows row k);
                count = omega arith;
                short = rows_pos row c r.pos;
                same = q ∙ run_broken row r.pos c X Y g ss k short;
              };
        }

  module _ (X : Pool) (k : ℕ) (s : Span) (Y : Pool) (p : view_by L row t ≡ X ++ (fresh_pool k ++ (s ∷ Y))) where
    run_split : view_by L row t ≡ X ++ fresh_pool k ++ (s ∷ Y)
    run_split = p ∙ sym (append_assoc X (fresh_pool k) (s ∷ Y))

    run_holder : view_holder (drop (row_at (rows row X + k)) t) ≡ holder_of s
    run_holder =
        let m : rows row X + k ≡ rows row (X ++ fresh_pool k) = omega (arith, rows_append row X (fresh_pool k), fresh-rows row k) in
        ap (λ m. view_holder (drop (row_at m) t)) m ∙ span_holder r (X ++ fresh_pool k) s Y run_split

    run-class : class_held (view_holder (drop (row_at (rows row X + k)) t)) < 48
    run-class = rw run_holder (held_class s (span_sound_lem r (X ++ fresh_pool k) s Y run_split))

  abbrev Next : ℕ → ℕ → Type 0
  Next from i = RunStep L row t c i (next_run row (record { from = from; next = i }) (view_holder (drop (row_at i) t)))

  step_run : (X : Pool) (k : ℕ) (s : Span) (Y : Pool) → k < rows_of row c → view_by L row t ≡ X ++ (fresh_pool k ++ (s ∷ Y))
      → run_from row [] c (view_by L row t) ≡ run_from row X c (fresh_pool k ++ (s ∷ Y)) → Next (rows row X) (rows row X + k)
  step_run X k free Y l p q = rw (run_holder X k free Y p) (step-free X k Y l p q (run-class X k free Y p))
  step_run X k (group g ss) Y l p q = rw (run_holder X k (group g ss) Y p) (step-group X k Y l g ss p q (run-class X k (group g ss) Y p))

  pub run_step : (from i : ℕ) → Ran L row t c from i → i < rows row (view_by L row t)
      → RunStep L row t c i (next_run row (record { from = from; next = i }) (view_holder (drop (row_at i) t)))
  run_step from i p h = go p.before p.length p.after p.split p.first p.count p.short p.same
    where
      go : (X : Pool) (k : ℕ) (Y : Pool) → view_by L row t ≡ X ++ (fresh_pool k ++ Y) → rows row X ≡ from → from + k ≡ i → k < rows_of row c
          → run_from row [] c (view_by L row t) ≡ run_from row X c (fresh_pool k ++ Y) → Next from i
      go X k [] q f m l g = absurd (omega (arith, ap (rows row) q, rows_append row X (fresh_pool k ++ []), rows_append row (fresh_pool k) [], fresh-rows row k))
      go X k (s ∷ Y) q f m l g = subst (Next from) m (subst (λ a. Next a (a + k)) f (step_run X k s Y l q g))

  pub run_end : (from i : ℕ) → Ran L row t c from i → rows row (view_by L row t) ≤ i → site_found row (run_from row [] c (view_by L row t)) ≡ None
  run_end from i p h = ap (site_found row) (p.same ∙ go p.after p.split)
    where
      go : (Y : Pool) → view_by L row t ≡ p.before ++ (fresh_pool p.length ++ Y) → run_from row p.before c (fresh_pool p.length ++ Y) ≡ None
      go [] q = ap (run_from row p.before c) (append-nil (fresh_pool p.length)) ∙ run_out row r.pos c p.before p.length p.short
      go (s ∷ Y) q =
          absurd (omega (
            arith,
            p.first,
            p.count,
            ap (rows row) q,
            rows_append row p.before (fresh_pool p.length ++ (s ∷ Y)),
            rows_append row (fresh_pool p.length) (s ∷ Y),
            fresh-rows row p.length,
            some-rows row r.pos s,
          ))
