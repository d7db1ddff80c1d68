-- Laws of numbers high byte first.
use Rattle.mem.proofs.Prelude.{◌∙◌, ◌≡◌, refl, List, [], ◌∷◌, ◌++◌, ℕ, zero, suc, ◌+◌, ◌*◌, ◌/◌, ◌%◌, ◌^◌, ◌<◌, pow-suc, arith}
use Rattle.mem.proofs.Prelude.{append_assoc, append-nil, T, ltb, ltb→lt, length, length-append}
use Rattle.mem.specs.Lists.{every}
use Rattle.mem.specs.Bytes.{high, big_from, big}
use Rattle.mem.proofs.Tests.{and_left, and_right}

-- ---- written and read

pub high-length : (k x : ℕ) → length (high k x) ≡ k
high-length zero x = refl
high-length (suc k) x = length-append (high k (x / 256)) (x % 256 ∷ []) ∙ omega (arith, high-length k (x / 256))

big_last : (a b : ℕ) (xs : List ℕ) → big_from a (xs ++ (b ∷ [])) ≡ 256 * big_from a xs + b
big_last a b [] = refl
big_last a b (x ∷ xs) = big_last (256 * a + x) b xs

pub big-high : (k x : ℕ) → x < 256 ^ k → big (high k x) ≡ x
big-high zero x h = omega arith
big-high (suc k) x h = big_last 0 (x % 256) (high k (x / 256)) ∙ omega (arith, big-high k (x / 256) (omega (arith, pow-suc 256 k)))

-- ---- read and written

-- the bytes of the number that bytes hold behind those that were read as a
high_from : (k n a : ℕ) (bs : List ℕ) → n ≡ k + length bs → T (every (λ b. ltb b 256) bs) → high n (big_from a bs) ≡ high k a ++ bs
high_from k n a [] e t = let f : n ≡ k = omega arith in rw (f, append-nil (high k a))
high_from k n a (b ∷ bs) e t =
    let h = ltb→lt b 256 (and_left (ltb b 256) (every (λ b. ltb b 256) bs) t) in
    let q : (256 * a + b) / 256 ≡ a = omega arith in
    let r : (256 * a + b) % 256 ≡ b = omega arith in
    high_from (suc k) n (256 * a + b) bs (omega arith) (and_right (ltb b 256) (every (λ b. ltb b 256) bs) t)
    ∙ rw (q, r) (append_assoc (high k a) (b ∷ []) bs)

pub high-big : (k : ℕ) (bs : List ℕ) → length bs ≡ k → T (every (λ b. ltb b 256) bs) → high k (big bs) ≡ bs
high-big k bs e t = high_from 0 k 0 bs (omega arith) t
