-- A mask is the list of its bits, lowest first: what is done to the number is done to the list.
use Rattle.mem.proofs.Prelude.{◌∙◌, ◌≡◌, sym, ap, refl, true, Bool, false, not, ◌||◌, true≢false, List, [], ◌∷◌, ◌+◌, ℕ, ◌<◌, ◌≤◌, ◌*◌}
use Rattle.mem.proofs.Prelude.{suc, ◌/◌, zero, ◌^◌, ◌%◌, pow-suc, arith, ne_eqb, T, eqb, length, get_or, set, ones}
use mathlib.Core.Bool.{false≢true}
use Prim.Native.Nat.{suc-le-suc}
use native.Mathlib.Nat.{not-suc-le-zero, le_of_suc-le-suc, le_of_eq}
use lib.Dec.{eqb-suc-zero}
use lib.Count.{count_trailing_zeros, ones_step}
use Rattle.mem.specs.Bytes.{mask, bit}
use Rattle.mem.specs.Lists.{choose, any, first, sum}

-- ---- the number and the list

pub mask_below : (bs : List Bool) → mask bs < 2 ^ length bs
mask_below [] = omega arith
mask_below (true ∷ bs) = rw pow-suc (omega (arith, mask_below bs))
mask_below (false ∷ bs) = rw pow-suc (omega (arith, mask_below bs))

-- the lowest bit as a number and as a test, and the rest
pub low_bit : (b : Bool) (bs : List Bool) → mask (b ∷ bs) % 2 ≡ bit b
low_bit true bs = omega arith
low_bit false bs = omega arith

pub low_test : (b : Bool) (bs : List Bool) → eqb (mask (b ∷ bs) % 2) 1 ≡ b
low_test true bs = rw (low_bit true bs)
low_test false bs = rw (low_bit false bs)

pub rest_bits : (b : Bool) (bs : List Bool) → mask (b ∷ bs) / 2 ≡ mask bs
rest_bits true bs = omega arith
rest_bits false bs = omega arith

-- the n lowest bits of a number
abbrev pub bits_of : ℕ → ℕ → List Bool
bits_of zero m = []
bits_of (suc n) m = eqb (m % 2) 1 ∷ bits_of n (m / 2)

pub length_bits : (n m : ℕ) → length (bits_of n m) ≡ n
length_bits zero m = refl
length_bits (suc n) m = ap suc (length_bits n (m / 2))

pub bits_mask : (bs : List Bool) → bits_of (length bs) (mask bs) ≡ bs
bits_mask [] = refl
bits_mask (b ∷ bs) = rw (low_test b bs, rest_bits b bs, bits_mask bs)

pub mask_bits : (n m : ℕ) → m < 2 ^ n → mask (bits_of n m) ≡ m
mask_bits zero m h = omega arith
mask_bits (suc n) m h =
    let q : m < 2 ^ n * 2 = rw pow-suc at h in rw (mask_bits n (m / 2) (omega arith)) (go (m % 2) refl)
  where
    go : (r : ℕ) → m % 2 ≡ r → bit (eqb r 1) + 2 * (m / 2) ≡ m
    go zero e = omega arith
    go (suc zero) e = omega arith
    go (suc (suc r)) e = absurd (omega arith)

-- ---- which bits are set

-- a mask is 0 exactly where no bit is set
pub mask-zero : (bs : List Bool) → eqb (mask bs) 0 ≡ not (any (λ b. b) bs)
mask-zero [] = refl
mask-zero (true ∷ bs) = ne_eqb (mask (true ∷ bs)) 0 (λ e. omega arith)
mask-zero (false ∷ bs) = twice (mask bs) ∙ mask-zero bs
  where
    twice : (m : ℕ) → eqb (0 + 2 * m) 0 ≡ eqb m 0
    twice zero = refl
    twice (suc m) = ne_eqb (0 + 2 * suc m) 0 (λ e. omega arith) ∙ sym (eqb-suc-zero m)

pub mask_pos : (bs : List Bool) → T (any (λ b. b) bs) → 0 < mask bs
mask_pos [] t = absurd t
mask_pos (true ∷ bs) t = omega arith
mask_pos (false ∷ bs) t = omega (arith, mask_pos bs t)

pub pos_any : (bs : List Bool) → 0 < mask bs → T (any (λ b. b) bs)
pos_any [] h = absurd (omega arith)
pos_any (true ∷ bs) h = tt
pos_any (false ∷ bs) h = pos_any bs (omega arith)

-- To set bit i where it is clear adds 2 ^ i, and to clear it where it is set takes 2 ^ i off.
-- The default of get_or is the other value, so each premise also says that i is below the length.
pub set-bit : (bs : List Bool) (i : ℕ) → get_or bs i true ≡ false → mask bs + 2 ^ i ≡ mask (set bs i true)
set-bit [] i h = absurd (true≢false h)
set-bit (true ∷ bs) zero h = absurd (true≢false h)
set-bit (false ∷ bs) zero h = omega arith
set-bit (b ∷ bs) (suc i) h = rw pow-suc (omega (arith, set-bit bs i h))

clear_adds : (bs : List Bool) (i : ℕ) → get_or bs i false ≡ true → mask (set bs i false) + 2 ^ i ≡ mask bs
clear_adds [] i h = absurd (false≢true h)
clear_adds (true ∷ bs) zero h = omega arith
clear_adds (false ∷ bs) zero h = absurd (false≢true h)
clear_adds (b ∷ bs) (suc i) h = rw pow-suc (omega (arith, clear_adds bs i h))

pub bit_le : (bs : List Bool) (i : ℕ) → get_or bs i false ≡ true → 2 ^ i ≤ mask bs
bit_le bs i h = omega (arith, clear_adds bs i h)

-- ---- the first bit that is set

pub first_below : (bs : List Bool) → T (any (λ b. b) bs) → first (λ b. b) bs < length bs
unfolding choose
first_below [] t = absurd t
first_below (true ∷ bs) t = omega arith
first_below (false ∷ bs) t = suc-le-suc (first_below bs t)

pub first-set : (bs : List Bool) → T (any (λ b. b) bs) → get_or bs (first (λ b. b) bs) false ≡ true
unfolding choose
first-set [] t = absurd t
first-set (true ∷ bs) t = refl
first-set (false ∷ bs) t = first-set bs t

pub lowest-first : (k : ℕ) (bs : List Bool) → T (any (λ b. b) bs) → length bs ≤ k → count_trailing_zeros k (mask bs) ≡ first (λ b. b) bs
unfolding count_trailing_zeros choose
lowest-first k [] t h = absurd t
lowest-first zero (b ∷ bs) t h = absurd (not-suc-le-zero h)
lowest-first (suc k) (true ∷ bs) t h = rw (low_bit true bs)
lowest-first (suc k) (false ∷ bs) t h = rw (low_bit false bs, rest_bits false bs, lowest-first k bs t (le_of_suc-le-suc h))

-- the lowest set bit of a number that is not 0 can be taken off
pub lowest-fits : (m : ℕ) → 0 < m → m < 2 ^ 32 → (count_trailing_zeros 32 m < 32) × (2 ^ count_trailing_zeros 32 m ≤ m)
lowest-fits m p h =
    let bs = bits_of 32 m in
    let e : mask bs ≡ m = mask_bits 32 m h in
    let t = pos_any bs (rw e p) in
    let z : count_trailing_zeros 32 m ≡ first (λ b. b) bs = ap (count_trailing_zeros 32) (sym e) ∙ lowest-first 32 bs t (le_of_eq (length_bits 32 m)) in
    rw z (omega (arith, first_below bs t, length_bits 32 m), omega (arith, bit_le bs (first (λ b. b) bs) (first-set bs t)))

-- ---- how many bits are set

pub ones-sum : (bs : List Bool) → ones (mask bs) ≡ sum bit bs
unfolding ones
ones-sum [] = refl
ones-sum (b ∷ bs) = ones_step (mask (b ∷ bs)) ∙ rw (low_bit b bs, rest_bits b bs, ones-sum bs)

-- no place is set in both lists
abbrev pub Apart : List Bool → List Bool → Type 0
Apart xs ys = (i : ℕ) → T (get_or xs i false) → T (get_or ys i false) → ⊥

-- the places that are set in neither list
abbrev pub neither : List Bool → List Bool → List Bool
neither [] ys = []
neither (x ∷ xs) [] = []
neither (x ∷ xs) (y ∷ ys) = not (x || y) ∷ neither xs ys

-- a place is set in the first list, in the second or in neither
parts : (xs ys : List Bool) → length xs ≡ length ys → Apart xs ys → sum bit (neither xs ys) + (sum bit xs + sum bit ys) ≡ length xs
parts [] [] e d = refl
parts [] (y ∷ ys) e d = absurd (omega arith)
parts (x ∷ xs) [] e d = absurd (omega arith)
parts (true ∷ xs) (true ∷ ys) e d = absurd (d zero tt tt)
parts (true ∷ xs) (false ∷ ys) e d = omega (arith, parts xs ys (omega arith) (λ i. d (suc i)))
parts (false ∷ xs) (true ∷ ys) e d = omega (arith, parts xs ys (omega arith) (λ i. d (suc i)))
parts (false ∷ xs) (false ∷ ys) e d = omega (arith, parts xs ys (omega arith) (λ i. d (suc i)))
