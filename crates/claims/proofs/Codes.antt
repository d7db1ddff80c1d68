-- Codes of alignments: those that can be asked for are the powers of two up to 4,096, and an enlarged size is n + align − 16.
use Rattle.mem.proofs.Prelude.{◌∙◌, ◌≡◌, sym, refl, subst, true, false, Bool, ◌&&◌, List, [], ◌∷◌, ◌+◌, ℕ, ◌<◌, ◌≤◌, ◌-◌, suc, zero, ◌^◌, min, arith}
use Rattle.mem.proofs.Prelude.{T, eqb, ltb, eqb→eq, eqb-true, eqb-false, length, get_or}
use Prim.Native.Nat.{max}
use borrow.Author.Tests.{ltb-true}
use Rattle.mem.specs.Lists.{choose, first}
use Rattle.mem.proofs.Tests.{and_left, and_right, choose_case}
use Rattle.classes.specs.Alignments.{ordinary, align_of, powers, code_of, enlarged}
use Rattle.claims.specs.Demand1.{NoAlignment}

-- ---- tests of the first numbers

-- a test of every number below n
abbrev below : ℕ → (ℕ → Bool) → Bool
below zero f = true
below (suc n) f = f n && below n f

-- what passes it holds of each
below_at : (n : ℕ) (f : ℕ → Bool) (i : ℕ) → i < n → T (below n f) → T (f i)
below_at zero f i h t = absurd (omega arith)
below_at (suc n) f i h t = go (eqb i n) refl (below_at n f i)
  where
    go : (b : Bool) → eqb i n ≡ b → (i < n → T (below n f) → T (f i)) → T (f i)
    go true e k = subst (λ j. T (f j)) (sym (eqb-true i n e)) (and_left (f n) (below n f) t)
    go false e k = let d : i ≡ n → ⊥ = eqb-false i n e in k (omega arith) (and_right (f n) (below n f) t)

-- two functions with the same value for every number below n
agree : (n : ℕ) (f g : ℕ → ℕ) → T (below n (λ i. eqb (f i) (g i))) → (i : ℕ) → i < n → f i ≡ g i
agree n f g t i h = eqb→eq (f i) (g i) (below_at n (λ i. eqb (f i) (g i)) i h t)

-- ---- powers of two, and their codes

-- the powers are those of two
power_at : (j : ℕ) → j < 13 → get_or powers j 0 ≡ 2 ^ j
unfolding powers
power_at = agree 13 (λ i. get_or powers i 0) (λ i. 2 ^ i) tt

-- the code of a power of two
pub power_code : (j : ℕ) → j < 13 → code_of (2 ^ j) ≡ max ordinary (j - 3)
unfolding code_of powers choose
power_code = agree 13 (λ i. code_of (2 ^ i)) (λ i. max ordinary (i - 3)) tt

-- the bytes of its code
power_bytes : (j : ℕ) → j < 13 → align_of (code_of (2 ^ j)) ≡ max 16 (2 ^ j)
unfolding code_of powers choose align_of
power_bytes = agree 13 (λ i. align_of (code_of (2 ^ i))) (λ i. max 16 (2 ^ i)) tt

-- it has one
power_some : (j : ℕ) → j < 13 → min 1 (code_of (2 ^ j)) ≡ 1
unfolding code_of powers choose
power_some = agree 13 (λ i. min 1 (code_of (2 ^ i))) (λ i. 1) tt

-- the code of a code's bytes is that code
pub code_align : (k : ℕ) → 1 ≤ k → k ≤ 9 → code_of (align_of k) ≡ k
unfolding code_of powers choose align_of
code_align k h l =
    let e : suc (k - 1) ≡ k = omega arith in
    subst (λ j. code_of (align_of j) ≡ j) e (agree 9 (λ i. code_of (align_of (suc i))) (λ i. suc i) tt (k - 1) (omega arith))

-- ---- an alignment that can be asked for

-- the first entry that passes a test passes it
first-true : (f : ℕ → Bool) (l : List ℕ) → first f l < length l → f (get_or l (first f l) 0) ≡ true
first-true f [] = λ h. absurd (omega arith)
first-true f (x ∷ l) =
    choose_case (λ k. k < suc (length l) → f (get_or (x ∷ l) k 0) ≡ true) (f x) 0 (suc (first f l)) (λ e h. e) (λ e h. first-true f l (omega arith))

-- an alignment with a code is a power of two up to 4,096
pub coded_power : (b : ℕ) → 0 < code_of b → (j : ℕ) × (j ≤ 12) × (b ≡ 2 ^ j)
unfolding code_of powers
coded_power b =
    choose_case (λ k. 0 < k → (j : ℕ) × (j ≤ 12) × (b ≡ 2 ^ j)) (ltb i 13) (max ordinary (i - 3)) 0
    (λ e _.
    let l : i < 13 = ltb-true i 13 e in
    (i, omega arith, sym (eqb-true (get_or powers i 0) b (first-true (λ p. eqb p b) powers l)) ∙ power_at i l)) (λ _ h. absurd (omega arith))
  where
    i : ℕ
    i = first (λ p. eqb p b) powers

-- and such a power has a code
pub power_coded : (b j : ℕ) → j ≤ 12 → b ≡ 2 ^ j → 0 < code_of b
power_coded b j h e = subst (λ x. 0 < code_of x) (sym e) (omega (arith, power_some j (omega arith)))

-- where there is no code, there is no such alignment
pub no_code : (b : ℕ) → code_of b ≡ 0 → NoAlignment b
no_code b z j h e = omega (arith, power_coded b j h e)

-- where there is a code, there is
pub some_code : (b : ℕ) → 0 < code_of b → NoAlignment b → ⊥
some_code b h n = let (j, l, e) = coded_power b h in n j l e

-- the bytes of an alignment that can be asked for: 16 at least
pub align_code : (b : ℕ) → 0 < code_of b → align_of (code_of b) ≡ max 16 b
align_code b h = let (j, l, e) = coded_power b h in subst (λ x. align_of (code_of x) ≡ max 16 x) (sym e) (power_bytes j (omega arith))

-- ---- enlarged sizes

-- by a code that the tables keep
pub enlarged-align : (k n : ℕ) → 1 ≤ k → enlarged k n ≡ n + (align_of k - 16)
unfolding align_of
enlarged-align zero n h = absurd (omega arith)
enlarged-align (suc zero) n h = omega arith
enlarged-align (suc (suc k)) n h = omega arith

-- by the alignment that is asked for
pub enlarged_code : (b n : ℕ) → 0 < code_of b → enlarged (code_of b) n ≡ n + (b - 16)
enlarged_code b n h = omega (arith, enlarged-align (code_of b) n h, align_code b h)
