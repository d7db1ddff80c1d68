-- The lowest run of free rows, from the front: k free rows have been passed since X, fewer than are looked for.
use Rattle.mem.proofs.Prelude.{◌∙◌, ◌≡◌, sym, ap, refl, true, false, Some, None, List, [], ◌∷◌, ◌++◌, append_assoc, ◌+◌, ℕ, ◌<◌, suc, zero, arith}
use Rattle.mem.proofs.Prelude.{drop, replicate}
use Rattle.mem.proofs.Tests.{choose-true, choose-false}
use Rattle.classes.specs.Classes.{slots_of, rows_of}
use Rattle.classes.proofs.Laws.{rows_pos}
use Rattle.model.specs.declared.Slot.{Slot}
use Rattle.model.specs.declared.Slot.TheVariants.{Fresh}
use Rattle.model.specs.State.{Pool, free, group}
use Rattle.model.specs.Plans.{Site, run, run_from, fresh_pool}

run_whole : (n : ℕ) (Y : Pool) → run n (fresh_pool n ++ Y) ≡ true
run_whole zero Y = refl
run_whole (suc n) Y = run_whole n Y

run_short : (n k c : ℕ) (ss : List Slot) (Y : Pool) → k < n → run n (fresh_pool k ++ (group c ss ∷ Y)) ≡ false
run_short zero k c ss Y h = absurd (omega arith)
run_short (suc n) zero c ss Y h = refl
run_short (suc n) (suc k) c ss Y h = run_short n k c ss Y (omega arith)

run_ends : (n k : ℕ) → k < n → run n (fresh_pool k) ≡ false
run_ends zero k h = absurd (omega arith)
run_ends (suc n) zero h = refl
run_ends (suc n) (suc k) h = run_ends n k (omega arith)

drop-fresh : (n : ℕ) (Y : Pool) → drop n (fresh_pool n ++ Y) ≡ Y
drop-fresh zero Y = refl
drop-fresh (suc n) Y = drop-fresh n Y

module _ (row : ℕ) (pos : 0 < row) (c : ℕ) where
  -- the run is long enough
  pub run_here : (X Y : Pool) (n : ℕ) → n ≡ rows_of row c
      → run_from row X c (fresh_pool n ++ Y) ≡ Some (record { before = X; slots = replicate (slots_of c) Fresh; after = Y })
  run_here X Y zero e = absurd (omega (arith, rows_pos row c pos))
  run_here X Y (suc n) e =
      let P : Pool = fresh_pool (suc n) ++ Y in
      let s : Pool → Site = λ Z. record { before = X; slots = replicate (slots_of c) Fresh; after = Z } in
      choose-true (run (rows_of row c) P) _ _ (ap (λ k. run k P) (sym e) ∙ run_whole (suc n) Y)
      ∙ ap (λ k. Some (s (drop k P))) (sym e) ∙ ap (λ Z. Some (s Z)) (drop-fresh (suc n) Y)

  -- a group ends it
  pub run_broken : (X Y : Pool) (g : ℕ) (ss : List Slot) (k : ℕ) → k < rows_of row c
      → run_from row X c (fresh_pool k ++ (group g ss ∷ Y)) ≡ run_from row (X ++ (fresh_pool k ++ (group g ss ∷ []))) c Y
  run_broken X Y g ss zero h = choose-false (run (rows_of row c) (group g ss ∷ Y)) _ _ (run_short (rows_of row c) 0 g ss Y h)
  run_broken X Y g ss (suc k) h =
      choose-false (run (rows_of row c) (fresh_pool (suc k) ++ (group g ss ∷ Y))) _ _ (run_short (rows_of row c) (suc k) g ss Y h)
      ∙ run_broken (X ++ (free ∷ [])) Y g ss k (omega arith)
      ∙ ap (λ Z. run_from row Z c Y) (append_assoc X (free ∷ []) (fresh_pool k ++ (group g ss ∷ [])))

  -- and so does the arena's end
  pub run_out : (X : Pool) (k : ℕ) → k < rows_of row c → run_from row X c (fresh_pool k) ≡ None
  run_out X zero h = refl
  run_out X (suc k) h =
      choose-false (run (rows_of row c) (fresh_pool (suc k))) _ _ (run_ends (rows_of row c) (suc k) h) ∙ run_out (X ++ (free ∷ [])) k (omega arith)

-- one free row more
pub fresh-more : (k : ℕ) (Y : Pool) → fresh_pool k ++ (free ∷ Y) ≡ fresh_pool (k + 1) ++ Y
fresh-more zero Y = refl
fresh-more (suc k) Y = ap (λ Z. free ∷ Z) (fresh-more k Y) ∙ ap (λ m. fresh_pool m ++ Y) e
  where
    e : suc (k + 1) ≡ suc k + 1
    e = omega arith
