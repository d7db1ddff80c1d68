-- The lowest run in a map, from the front: j free rows have been passed since p, fewer than are looked for.
use Rattle.mem.proofs.Prelude.{◌∙◌, ◌≡◌, ap, refl, subst, true, false, Bool, Some, None, List, [], ◌∷◌, ◌++◌, append-nil, ◌+◌, ℕ, ◌<◌, ◌≤◌, ◌-◌}
use Rattle.mem.proofs.Prelude.{suc, zero, add-one, arith, T, eqb, ne_eqb, length, drop, get_or, replicate, drop-cons}
use lib.ListN.{drop_of_length-le}
use Rattle.mem.specs.Lists.{choose, starts}
use Rattle.mem.proofs.Tests.{and_right, T_true, true-T, choose-true, choose-false}
use Rattle.mem.proofs.Starts.{starts_own}
use Rattle.serving.specs.Survey.{lowest_run}

-- k free rows in a map
abbrev pub free_map : ℕ → List ℕ
free_map k = replicate k 1

starts-short : (k j b : ℕ) (Y : List ℕ) → j < k → (b ≡ 1 → ⊥) → starts (free_map j ++ (b ∷ Y)) (free_map k) ≡ false
starts-short zero j b Y h n = absurd (omega arith)
starts-short (suc k) zero b Y h n = rw (ne_eqb b 1 n)
starts-short (suc k) (suc j) b Y h n = starts-short k j b Y (omega arith) n

starts_ends : (k j : ℕ) → j < k → starts (free_map j) (free_map k) ≡ false
starts_ends zero j h = absurd (omega arith)
starts_ends (suc k) zero h = refl
starts_ends (suc k) (suc j) h = starts_ends k j (omega arith)

starts_long : (k : ℕ) (m : List ℕ) → T (starts m (free_map k)) → k ≤ length m
starts_long zero m t = omega arith
starts_long (suc k) [] t = absurd t
starts_long (suc k) (b ∷ m) t = omega (arith, starts_long k m (and_right (eqb b 1) (starts m (free_map k)) t))

module _ (k : ℕ) where
  -- the run is long enough
  lowest_here : (p : ℕ) (Y : List ℕ) (j : ℕ) → j ≡ k → 1 ≤ j → lowest_run k p (free_map j ++ Y) ≡ Some p
  lowest_here p Y zero e h = absurd (omega arith)
  lowest_here p Y (suc j) e h =
      choose-true (starts (free_map (suc j) ++ Y) (free_map k)) (Some p) (lowest_run k (suc p) (free_map j ++ Y))
      (T_true (starts (free_map (suc j) ++ Y) (free_map k)) (subst (λ i. T (starts (free_map (suc j) ++ Y) (free_map i))) e (starts_own (free_map (suc j)) Y)))

  -- a row that is not free ends it
  lowest_broken : (p j b : ℕ) (Y : List ℕ) → j < k → (b ≡ 1 → ⊥) → lowest_run k p (free_map j ++ (b ∷ Y)) ≡ lowest_run k (p + j + 1) Y
  lowest_broken p zero b Y h n =
      let e : suc p ≡ p + 0 + 1 = omega arith in
      choose-false (starts (b ∷ Y) (free_map k)) (Some p) (lowest_run k (suc p) Y) (starts-short k 0 b Y h n) ∙ ap (λ i. lowest_run k i Y) e
  lowest_broken p (suc j) b Y h n =
      let e : suc p + j + 1 ≡ p + suc j + 1 = omega arith in
      choose-false (starts (free_map (suc j) ++ (b ∷ Y)) (free_map k)) (Some p) (lowest_run k (suc p) (free_map j ++ (b ∷ Y))) (starts-short k (suc j) b Y h n)
      ∙ lowest_broken (suc p) j b Y (omega arith) n ∙ ap (λ i. lowest_run k i Y) e

  -- and so does the end of the map
  lowest_out : (p j : ℕ) → j < k → lowest_run k p (free_map j) ≡ None
  lowest_out p zero h = refl
  lowest_out p (suc j) h =
      choose-false (starts (free_map (suc j)) (free_map k)) (Some p) (lowest_run k (suc p) (free_map j)) (starts_ends k (suc j) h)
      ∙ lowest_out (suc p) j (omega arith)

  -- a run that is found lies in the map
  lowest_from : (p : ℕ) (m : List ℕ) (r : ℕ) → lowest_run k p m ≡ Some r → (p ≤ r) × (r + k ≤ p + length m)
  unfolding choose
  lowest_from p [] r e = let z : ◌≡◌ {A = ℕ} 0 1 = cc in absurd (omega arith)
  lowest_from p (b ∷ m) r e = go (starts (b ∷ m) (free_map k)) refl e (λ e. lowest_from (suc p) m r e)
    where
      go : (t : Bool) → starts (b ∷ m) (free_map k) ≡ t → choose t (Some p) (lowest_run k (suc p) m) ≡ Some r
          → (lowest_run k (suc p) m ≡ Some r → (suc p ≤ r) × (r + k ≤ suc p + length m)) → (p ≤ r) × (r + k ≤ p + suc (length m))
      go true h e f =
          let q : p ≡ r = cc in
          (omega arith, omega (arith, starts_long k (b ∷ m) (true-T (starts (b ∷ m) (free_map k)) h)))
      go false h e f = (omega (arith, (f e).0), omega (arith, (f e).1))

pub lowest_inside : (k : ℕ) (m : List ℕ) (r : ℕ) → lowest_run k 0 m ≡ Some r → r + k ≤ length m
lowest_inside k m r e = omega (arith, (lowest_from k 0 m r e).1)

one_more : (j : ℕ) (Y : List ℕ) → free_map j ++ (1 ∷ Y) ≡ free_map (j + 1) ++ Y
one_more zero Y = refl
one_more (suc j) Y = ap (λ Z. 1 ∷ Z) (one_more j Y) ∙ ap (λ i. free_map i ++ Y) e
  where
    e : suc (j + 1) ≡ suc j + 1
    e = omega arith

-- ---- the walk over a map

module _ (k : ℕ) (m : List ℕ) where
  -- the rows from a place up to row i are free, too few, and before them there is no run
  pub record Scanned (from i : ℕ) : Type 0 where
    pub length : ℕ
    pub count : from + length ≡ i
    pub short : length < k
    pub same : lowest_run k 0 m ≡ lowest_run k from (free_map length ++ drop i m)

  pub scan_start : 1 ≤ k → Scanned 0 0
  scan_start h = record { length = 0; count = refl; short = h; same = refl }

  -- the run one row further
  pub record Scan (from i : ℕ) : Type 0 where
    pub order : from ≤ i
    pub hit : i - from ≡ k → lowest_run k 0 m ≡ Some from
    pub miss : (i - from ≡ k → ⊥) → Scanned from i

  module _ (from i : ℕ) (s : Scanned from i) where
    -- the map from row i on
    left : i < length m → lowest_run k 0 m ≡ lowest_run k from (free_map s.length ++ (get_or m i 0 ∷ drop (i + 1) m))
    left h = s.same ∙ rw (add-one, drop-cons m i 0 h)

    pub scan_free : i < length m → get_or m i 0 ≡ 1 → Scan from (i + 1)
    scan_free h e =
        let f : lowest_run k 0 m ≡ lowest_run k from (free_map (s.length + 1) ++ drop (i + 1) m) =
        left h ∙ ap (λ b. lowest_run k from (free_map s.length ++ (b ∷ drop (i + 1) m))) e ∙ ap (lowest_run k from) (one_more s.length (drop (i + 1) m)) in
        record {
          order = omega (arith, s.count);
          hit = λ g. f ∙ lowest_here k from (drop (i + 1) m) (s.length + 1) (omega (arith, s.count)) (omega arith);
          miss = λ g. record { length = s.length + 1; count = omega (arith, s.count); short = omega (arith, s.count, s.short); same = f };
        }

    pub scan_held : i < length m → (get_or m i 0 ≡ 1 → ⊥) → Scan (i + 1) (i + 1)
    scan_held h n = record {
      order = omega arith;
      hit = λ g. absurd (omega (arith, s.short));
      miss =
          λ g. record {
            length = 0;
            count = omega arith;
            short = omega (arith, s.short);
            same =
                left h ∙ lowest_broken k from s.length (get_or m i 0) (drop (i + 1) m) s.short n
                ∙ ap (λ j. lowest_run k (j + 1) (drop (i + 1) m)) s.count;
          };
    }

    pub scan_end : length m ≤ i → lowest_run k 0 m ≡ None
    scan_end h =
        s.same ∙ ap (λ Z. lowest_run k from (free_map s.length ++ Z)) (drop_of_length-le m h) ∙ ap (lowest_run k from) (append-nil (free_map s.length))
        ∙ lowest_out k from s.length s.short
