-- The lengths of headers, guards and frames, and the first spare byte.
use Rattle.mem.proofs.Prelude.{◌≡◌, ap, refl, List, [], ◌∷◌, ◌++◌, append_assoc, append-nil, ◌+◌, ℕ, ◌<◌, ◌≤◌, ◌*◌, ◌-◌, suc, zero, sub-zero, arith}
use Rattle.mem.proofs.Prelude.{le-leb, leb-true, lt-leb, leb, length, drop, length-append}
use Rattle.mem.specs.Bytes.{zeros, low}
use Rattle.mem.proofs.Laws.{zeros-length, zeros-cons, zeros-none, zeros-add}
use Rattle.mem.proofs.Tests.{choose_case, choose-true, choose-false}
use Rattle.classes.specs.Classes.{slot_bytes}
use Rattle.model.specs.Blocks.{header, guard, first_spare, spare, frame}

pub header-length : (c i d n : ℕ) → length (header c i d n) ≡ 4
unfolding header
header-length c i d n = refl

-- the guard, if there is one
pub guard-bytes : (r : ℕ) → 5 ≤ r → guard r ≡ 0 ∷ low 4 r
unfolding guard
guard-bytes r h = choose-true (leb 5 r) (0 ∷ low 4 r) [] (le-leb 5 r h)

pub guard_none : (r : ℕ) → r < 5 → guard r ≡ []
unfolding guard
guard_none r h = choose-false (leb 5 r) (0 ∷ low 4 r) [] (lt-leb 5 r h)

pub guard-length : (r : ℕ) → 5 ≤ r → length (guard r) ≡ 5
guard-length r h = ap length (guard-bytes r h)

pub guard-fits : (r : ℕ) → length (guard r) ≤ r
unfolding guard
guard-fits r = choose_case (λ g. length g ≤ r) (leb 5 r) (0 ∷ low 4 r) [] (leb-true 5 r) (λ e. omega arith)

pub spare-length : (r : ℕ) → length (spare r) ≡ r
unfolding spare
spare-length r = simp (length-append, zeros-length) (omega (arith, guard-fits r))

-- the reserved bytes, where there is a guard, and where there is none: all zero but the last four
pub spare_last : (r : ℕ) → 5 ≤ r → spare r ≡ zeros (r - 5) ++ (0 ∷ low 4 r)
unfolding spare
spare_last r h = rw (guard-bytes r h)

pub spare_guarded : (r : ℕ) → 5 ≤ r → spare r ≡ zeros (r - 4) ++ low 4 r
spare_guarded r h =
    let e : r - 4 ≡ r - 5 + 1 = omega arith in
    rw (spare_last r h, e, zeros-add (r - 5) 1, append_assoc (zeros (r - 5)) (zeros 1) (low 4 r), zeros-cons 0, zeros-none)

pub spare_bare : (r : ℕ) → r < 5 → spare r ≡ zeros r
unfolding spare
spare_bare r h = rw (guard_none r h, sub-zero, append-nil (zeros r))

-- the first spare byte, if there is one
pub first_spare_lem : (r : ℕ) → 1 ≤ r → first_spare r ≡ 0 ∷ []
unfolding first_spare
first_spare_lem r h = choose-true (leb 1 r) (0 ∷ []) [] (le-leb 1 r h)

pub first-none : (r : ℕ) → r ≡ 0 → first_spare r ≡ []
unfolding first_spare
first-none r e = choose-false (leb 1 r) (0 ∷ []) [] (lt-leb 1 r (omega arith))

-- the reserved bytes begin with it
zeros-first : (m : ℕ) (bs : List ℕ) → zeros m ++ (0 ∷ bs) ≡ 0 ∷ drop 1 (zeros m ++ (0 ∷ bs))
unfolding zeros
zeros-first zero bs = refl
zeros-first (suc m) bs = refl

spare-zero : (r : ℕ) → spare (suc r) ≡ 0 ∷ drop 1 (spare (suc r))
unfolding spare guard
spare-zero r =
    choose_case (λ g. zeros (suc r - length g) ++ g ≡ 0 ∷ drop 1 (zeros (suc r - length g) ++ g)) (leb 5 (suc r)) (0 ∷ low 4 (suc r)) []
    (λ e. zeros-first (suc r - 5) (low 4 (suc r))) (λ e. rw (sub-zero, zeros-cons r))

pub spare-first : (r : ℕ) → spare r ≡ first_spare r ++ drop (length (first_spare r)) (spare r)
spare-first zero = rw (first-none 0 refl)
spare-first (suc r) = rw (first_spare_lem (suc r) (omega arith)) (spare-zero r)

pub frame-length : (c i d n : ℕ) → 16 * d + n + 4 ≤ slot_bytes c → length (frame c i d n) ≡ slot_bytes c
unfolding frame
frame-length c i d n h = simp (length-append, zeros-length, header-length, spare-length) (omega arith)
