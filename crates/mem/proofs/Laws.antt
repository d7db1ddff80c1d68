-- Laws of bytes: writes, parts, zeros, tests of equality, numbers low byte first, and walks over lists.
use Rattle.mem.proofs.Prelude.{◌∙◌, ◌≡◌, sym, ap, refl, ap₂, subst, Bool, false, ◌&&◌, and_assoc, and-false, inl, inr, ◌⊎◌, List, [], ◌∷◌, ◌++◌}
use Rattle.mem.proofs.Prelude.{append_assoc, ◌+◌, ℕ, ◌<◌, ◌≤◌, ◌*◌, ◌-◌, suc, ◌/◌, zero, ◌^◌, ◌%◌, add-zero, zero-add, pow-suc, arith, T, eqb, ltb}
use Rattle.mem.proofs.Prelude.{eqb→eq, ltb→lt, eqb_refl, lt→ltb, length, drop, get_or, length-append, take, set, length-drop, length-replicate}
use Rattle.mem.proofs.Prelude.{take-append-drop, drop-drop, drop-cons, get_or-drop, length-take-le}
use native.Mathlib.Nat.{add-suc, suc-add, add_comm, mul-zero, mul-suc}
use lib.ListN.{replicate, replicate-append-replicate}
use lib.Seq.{sets, sets-eq, length-sets, take-take, take-set-le, drop-append-add, drop-set-lt, drop-set-add, get_or-take, take_at}
use Rattle.mem.specs.Bytes.{zeros, low, number, same, part, put}
use Rattle.mem.specs.Lists.{every, join, sum}
use Rattle.mem.proofs.Tests.{and_left, and_right, and_both, same_test, eq→eqb, every_by, every-left, every-right}

module _ {ℓ} {A : Type ℓ} where
  -- ---- writes

  pub put-nil : (p : ℕ) (xs : List A) → put p [] xs ≡ xs
  put-nil p [] = refl
  put-nil zero (x ∷ xs) = refl
  put-nil (suc p) (x ∷ xs) = ap (λ (r : List A). x ∷ r) (put-nil p xs)

  -- a write is the store of its first element and the write of the rest behind it
  pub put-cons : (p : ℕ) (v : A) (vs xs : List A) → put p (v ∷ vs) xs ≡ put (suc p) vs (set xs p v)
  put-cons p v vs [] = refl
  put-cons zero v vs (x ∷ xs) = refl
  put-cons (suc p) v vs (x ∷ xs) = ap (λ (r : List A). x ∷ r) (put-cons p v vs xs)

  -- a write is a run of stores
  pub put-sets : (p : ℕ) (vs xs : List A) → put p vs xs ≡ sets xs p vs
  put-sets p [] xs = put-nil p xs
  put-sets p (v ∷ vs) xs = put-cons p v vs xs ∙ put-sets (suc p) vs (set xs p v)

  pub put-length : (p : ℕ) (vs xs : List A) → length (put p vs xs) ≡ length xs
  put-length p vs xs = ap length (put-sets p vs xs) ∙ length-sets xs p vs

  pub put_split : (p : ℕ) (vs xs : List A) → p + length vs ≤ length xs → put p vs xs ≡ take p xs ++ (vs ++ drop (p + length vs) xs)
  put_split p vs xs h = put-sets p vs xs ∙ sets-eq vs xs p h ∙ append_assoc (take p xs) vs (drop (p + length vs) xs)

  -- a write over the whole list
  pub put_all : (vs xs : List A) → length vs ≡ length xs → put 0 vs xs ≡ vs
  put_all [] [] e = refl
  put_all [] (x ∷ xs) e = absurd (omega arith)
  put_all (v ∷ vs) [] e = absurd (omega arith)
  put_all (v ∷ vs) (x ∷ xs) e = ap (λ (r : List A). v ∷ r) (put_all vs xs (omega arith))

  -- one write is the write of its first elements and that of the rest behind them
  pub put-append : (p : ℕ) (vs ws xs : List A) → put p (vs ++ ws) xs ≡ put (p + length vs) ws (put p vs xs)
  put-append p [] ws xs = rw (add-zero, put-nil p xs)
  put-append p (v ∷ vs) ws xs =
      rw (put-cons p v (vs ++ ws) xs, put-cons p v vs xs, add-suc, ← suc-add) (put-append (suc p) vs ws (set xs p v))

  -- writes that are apart may change places
  pub put_comm : (p q : ℕ) (vs ws xs : List A) → p + length vs ≤ q → put p vs (put q ws xs) ≡ put q ws (put p vs xs)
  put_comm p q vs ws [] h = refl
  put_comm zero q [] ws (x ∷ xs) h = put-nil zero (put q ws (x ∷ xs))
  put_comm zero zero (v ∷ vs) ws (x ∷ xs) h = absurd (omega arith)
  put_comm zero (suc q) (v ∷ vs) ws (x ∷ xs) h = ap (λ (r : List A). v ∷ r) (put_comm zero q vs ws xs (omega arith))
  put_comm (suc p) zero vs ws (x ∷ xs) h = absurd (omega arith)
  put_comm (suc p) (suc q) vs ws (x ∷ xs) h = ap (λ (r : List A). x ∷ r) (put_comm p q vs ws xs (omega arith))

  -- a write into the front, or the back, of two lists
  pub put_front : (p : ℕ) (vs xs ys : List A) → p + length vs ≤ length xs → put p vs (xs ++ ys) ≡ put p vs xs ++ ys
  put_front zero [] [] ys h = put-nil zero ys
  put_front zero (v ∷ vs) [] ys h = absurd (omega arith)
  put_front (suc p) vs [] ys h = absurd (omega arith)
  put_front zero [] (x ∷ xs) ys h = refl
  put_front zero (v ∷ vs) (x ∷ xs) ys h = ap (λ (r : List A). v ∷ r) (put_front zero vs xs ys (omega arith))
  put_front (suc p) vs (x ∷ xs) ys h = ap (λ (r : List A). x ∷ r) (put_front p vs xs ys (omega arith))

  pub put_back : (p : ℕ) (vs xs ys : List A) → put (length xs + p) vs (xs ++ ys) ≡ xs ++ put p vs ys
  put_back p vs [] ys = rw zero-add
  put_back p vs (x ∷ xs) ys = rw suc-add (ap (λ (r : List A). x ∷ r) (put_back p vs xs ys))

  -- a write over the middle one of three lists
  pub put_at : (p : ℕ) (front old new back : List A) → length front ≡ p → length new ≡ length old
      → put p new (front ++ (old ++ back)) ≡ front ++ (new ++ back)
  put_at p front old new back e f =
      let q : p ≡ length front + 0 = omega arith in
      rw (q, put_back 0 new front (old ++ back), put_front 0 new old back (omega arith), put_all new old)

  -- ---- parts

  pub part_length : (p k : ℕ) (xs : List A) → p + k ≤ length xs → length (part p k xs) ≡ k
  part_length p k xs h = length-take-le k (drop p xs) (omega (arith, length-drop p xs))

  pub part-cons : (p k : ℕ) (xs : List A) (d : A) → p < length xs → part p (suc k) xs ≡ get_or xs p d ∷ part (suc p) k xs
  part-cons p k xs d h = ap (take (suc k)) (drop-cons xs p d h)

  pub get_d_part : (p k : ℕ) (xs : List A) (i : ℕ) (d : A) → i < k → get_or (part p k xs) i d ≡ get_or xs (p + i) d
  get_d_part p k xs i d h = get_or-take k (drop p xs) i d h ∙ get_or-drop p xs i d

  pub part-back : (p k : ℕ) (xs ys : List A) → part (length xs + p) k (xs ++ ys) ≡ part p k ys
  part-back p k xs ys = ap (take k) (drop-append-add xs ys p)

  pub part-part : (p m i k : ℕ) (xs : List A) → i + k ≤ m → part i k (part p m xs) ≡ part (p + i) k xs
  part-part p m i k xs h = inner m i k (drop p xs) h ∙ ap (take k) (drop-drop i p xs)
    where
      inner : (m i k : ℕ) (l : List A) → i + k ≤ m → part i k (take m l) ≡ part i k l
      inner m zero k l h = take-take k m l (omega arith)
      inner zero (suc i) k l h = absurd (omega arith)
      inner (suc m) (suc i) k [] h = refl
      inner (suc m) (suc i) k (x ∷ l) h = inner m i k l (omega arith)

  -- a store outside a part leaves it alone
  pub part-set : (p k : ℕ) (xs : List A) (i : ℕ) (v : A) → (i < p) ⊎ (p + k ≤ i) → part p k (set xs i v) ≡ part p k xs
  part-set p k xs i v (inl h) = ap (take k) (drop-set-lt p xs i v h)
  part-set p k xs i v (inr h) =
      let e : i ≡ p + (i - p) = omega arith in
      ap (λ (j : ℕ). part p k (set xs j v)) e
      ∙ ap (take k) (drop-set-add p xs (i - p) v)
      ∙ take-set-le k (drop p xs) (i - p) v (omega arith)

  -- a write outside a part leaves it alone, and a part where one was written is that
  pub part-put : (p k q : ℕ) (vs xs : List A) → (p + k ≤ q) ⊎ (q + length vs ≤ p) → part p k (put q vs xs) ≡ part p k xs
  part-put p k q [] xs h = ap (part p k) (put-nil q xs)
  part-put p k q (v ∷ vs) xs (inl h) =
      ap (part p k) (put-cons q v vs xs) ∙ part-put p k (suc q) vs (set xs q v) (inl (omega arith)) ∙ part-set p k xs q v (inr h)
  part-put p k q (v ∷ vs) xs (inr h) =
      ap (part p k) (put-cons q v vs xs) ∙ part-put p k (suc q) vs (set xs q v) (inr (omega arith)) ∙ part-set p k xs q v (inl (omega arith))

  pub part-written : (p k : ℕ) (vs xs : List A) → length vs ≡ k → p + k ≤ length xs → part p k (put p vs xs) ≡ vs
  part-written p k vs xs e h =
      let l : length (take p xs) ≡ p = length-take-le p xs (omega arith) in
      let q : p ≡ length (take p xs) + 0 = omega arith in
      ap (part p k) (put_split p vs xs (omega arith)) ∙ ap (λ (j : ℕ). part j k (take p xs ++ (vs ++ drop (p + length vs) xs))) q
      ∙ part-back 0 k (take p xs) (vs ++ drop (p + length vs) xs) ∙ take_at vs (drop (p + length vs) xs) k e

  -- what is written among others
  pub part_among : (p : ℕ) (us vs ws xs : List A) → p + (length us + length vs) ≤ length xs
      → part (p + length us) (length vs) (put p (us ++ (vs ++ ws)) xs) ≡ vs
  part_among p us vs ws xs h =
      let q : ℕ = p + length us in
      ap (part q (length vs)) (put-append p us (vs ++ ws) xs ∙ put-append q vs ws (put p us xs))
      ∙ part-put q (length vs) (q + length vs) ws (put q vs (put p us xs)) (inl (omega arith))
      ∙ part-written q (length vs) vs (put p us xs) refl (omega (arith, h, put-length p us xs))

  -- ---- what is read after a write: before it, and past it

  pub put-before : (p : ℕ) (vs xs : List A) (i : ℕ) (d : A) → i < p → get_or (put p vs xs) i d ≡ get_or xs i d
  put-before p vs [] i d h = refl
  put-before zero vs (x ∷ xs) i d h = absurd (omega arith)
  put-before (suc p) vs (x ∷ xs) zero d h = refl
  put-before (suc p) vs (x ∷ xs) (suc i) d h = put-before p vs xs i d (omega arith)

  pub put-past : (p : ℕ) (vs xs : List A) (i : ℕ) (d : A) → p + length vs ≤ i → get_or (put p vs xs) i d ≡ get_or xs i d
  put-past p vs [] i d h = refl
  put-past zero [] (x ∷ xs) i d h = refl
  put-past zero (v ∷ vs) (x ∷ xs) zero d h = absurd (omega arith)
  put-past zero (v ∷ vs) (x ∷ xs) (suc i) d h = put-past zero vs xs i d (omega arith)
  put-past (suc p) vs (x ∷ xs) zero d h = absurd (omega arith)
  put-past (suc p) vs (x ∷ xs) (suc i) d h = put-past p vs xs i d (omega arith)

-- ---- zeros

pub zeros-length : (n : ℕ) → length (zeros n) ≡ n
unfolding zeros
zeros-length n = length-replicate {A = ℕ} n 0

pub zeros-cons : (n : ℕ) → zeros (suc n) ≡ 0 ∷ zeros n
unfolding zeros
zeros-cons n = refl

pub zeros-none : zeros 0 ≡ []
unfolding zeros
zeros-none = refl

-- the zeros that are left of n after i of them
pub zeros-left : (n i : ℕ) → i < n → zeros (n - i) ≡ 0 ∷ zeros (n - (i + 1))
zeros-left n i h = let e : n - i ≡ suc (n - (i + 1)) = omega arith in ap zeros e ∙ zeros-cons (n - (i + 1))

pub zeros-add : (m n : ℕ) → zeros (m + n) ≡ zeros m ++ zeros n
unfolding zeros
zeros-add m n = sym (replicate-append-replicate m n 0)

pub zeros_at : (n i : ℕ) → get_or (zeros n) i 0 ≡ 0
unfolding zeros
zeros_at zero i = refl
zeros_at (suc n) zero = refl
zeros_at (suc n) (suc i) = zeros_at n i

-- zeros over a zero
pub zero-put : (p k : ℕ) (a : List ℕ) (i : ℕ) → get_or a i 0 ≡ 0 → get_or (put p (zeros k) a) i 0 ≡ 0
unfolding zeros
zero-put p k [] i e = refl
zero-put zero zero (x ∷ a) i e = e
zero-put zero (suc k) (x ∷ a) zero e = refl
zero-put zero (suc k) (x ∷ a) (suc i) e = zero-put zero k a i e
zero-put (suc p) k (x ∷ a) zero e = e
zero-put (suc p) k (x ∷ a) (suc i) e = zero-put p k a i e

-- zeros that are written among others
pub zeros-put : (p : ℕ) (xs : List ℕ) (k : ℕ) (ys a : List ℕ) (i : ℕ) → p + length xs ≤ i → i < p + length xs + k
    → get_or (put p (xs ++ (zeros k ++ ys)) a) i 0 ≡ 0
unfolding zeros
zeros-put p xs k ys [] i h₁ h₂ = refl
zeros-put zero [] zero ys (y ∷ a) i h₁ h₂ = absurd (omega arith)
zeros-put zero [] (suc k) ys (y ∷ a) zero h₁ h₂ = refl
zeros-put zero [] (suc k) ys (y ∷ a) (suc i) h₁ h₂ = zeros-put zero [] k ys a i (omega arith) (omega arith)
zeros-put zero (x ∷ xs) k ys (y ∷ a) zero h₁ h₂ = absurd (omega arith)
zeros-put zero (x ∷ xs) k ys (y ∷ a) (suc i) h₁ h₂ = zeros-put zero xs k ys a i (omega arith) (omega arith)
zeros-put (suc p) xs k ys (y ∷ a) zero h₁ h₂ = absurd (omega arith)
zeros-put (suc p) xs k ys (y ∷ a) (suc i) h₁ h₂ = zeros-put p xs k ys a i (omega arith) (omega arith)

-- ---- tests of equality

pub same_refl : (a : List ℕ) → T (same a a)
same_refl [] = tt
same_refl (x ∷ a) = and_both (eqb x x) (same a a) (eqb_refl x) (same_refl a)

pub same→eq : (a b : List ℕ) → T (same a b) → a ≡ b
same→eq [] [] t = refl
same→eq [] (y ∷ b) t = absurd t
same→eq (x ∷ a) [] t = absurd t
same→eq (x ∷ a) (y ∷ b) t =
    ap₂ (λ (h : ℕ) (r : List ℕ). h ∷ r) (eqb→eq x y (and_left (eqb x y) (same a b) t)) (same→eq a b (and_right (eqb x y) (same a b) t))

pub eq→same : (a b : List ℕ) → a ≡ b → T (same a b)
eq→same a b e = subst (λ (l : List ℕ). T (same a l)) e (same_refl a)

pub same_lengths : (a b : List ℕ) → (length a ≡ length b → ⊥) → same a b ≡ false
same_lengths [] [] h = absurd (h refl)
same_lengths [] (y ∷ ys) h = refl
same_lengths (x ∷ xs) [] h = refl
same_lengths (x ∷ xs) (y ∷ ys) h = rw (same_lengths xs ys (λ e. h (ap suc e))) (and-false (eqb x y))

-- a test against two lists is a test against each
pub same-append : (s x y : List ℕ) → same s (x ++ y) ≡ (same (take (length x) s) x && same (drop (length x) s) y)
same-append s [] y = refl
same-append [] (b ∷ x) y = refl
same-append (a ∷ s) (b ∷ x) y =
    rw (same-append s x y) (sym (and_assoc (eqb a b) (same (take (length x) s) x) (same (drop (length x) s) y)))

-- ---- numbers

-- the number in k bytes from place p on, byte by byte
abbrev pub digits : ℕ → ℕ → List ℕ → ℕ
digits p zero s = 0
digits p (suc k) s = get_or s p 0 + 256 * digits (suc p) k s

pub number-part : (p k : ℕ) (s : List ℕ) → p + k ≤ length s → number (part p k s) ≡ digits p k s
number-part p zero s h = refl
number-part p (suc k) s h =
    ap number (part-cons p k s 0 (omega arith)) ∙ ap (λ (n : ℕ). get_or s p 0 + 256 * n) (number-part (suc p) k s (omega arith))

-- ---- bytes: every element is below 256

pub bytes_by : (bs : List ℕ) → ((i : ℕ) → get_or bs i 0 < 256) → T (every (λ b. ltb b 256) bs)
bytes_by bs h = every_by (λ b. ltb b 256) bs 0 (λ i l. lt→ltb (get_or bs i 0) 256 (h i))

-- what every element passes, every element of a part passes
pub every-part : {A : Type 0} (f : A → Bool) (p k : ℕ) (xs : List A) → T (every f xs) → T (every f (part p k xs))
every-part f p k xs t =
    let u = every-right f (take p xs) (drop p xs) (rw take-append-drop t) in
    every-left f (part p k xs) (drop k (drop p xs)) (rw take-append-drop u)

pub low-length : (k x : ℕ) → length (low k x) ≡ k
low-length zero x = refl
low-length (suc k) x = ap suc (low-length k (x / 256))

pub low-bytes : (k x : ℕ) → T (every (λ b. ltb b 256) (low k x))
low-bytes zero x = tt
low-bytes (suc k) x =
    and_both (ltb (x % 256) 256) (every (λ b. ltb b 256) (low k (x / 256))) (lt→ltb (x % 256) 256 (omega arith)) (low-bytes k (x / 256))

pub number-low : (k x : ℕ) → x < 256 ^ k → number (low k x) ≡ x
number-low zero x h = omega arith
number-low (suc k) x h = omega (arith, number-low k (x / 256) (omega (arith, pow-suc 256 k)))

pub number_small : (bs : List ℕ) → T (every (λ b. ltb b 256) bs) → number bs < 256 ^ length bs
number_small [] t = omega arith
number_small (b ∷ bs) t =
    let h = ltb→lt b 256 (and_left (ltb b 256) (every (λ b. ltb b 256) bs) t) in
    omega (arith, pow-suc 256 (length bs), number_small bs (and_right (ltb b 256) (every (λ b. ltb b 256) bs) t))

pub low-number : (k : ℕ) (bs : List ℕ) → length bs ≡ k → T (every (λ b. ltb b 256) bs) → low k (number bs) ≡ bs
low-number zero [] e t = refl
low-number zero (b ∷ bs) e t = absurd (omega arith)
low-number (suc k) [] e t = absurd (omega arith)
low-number (suc k) (b ∷ bs) e t =
    let h = ltb→lt b 256 (and_left (ltb b 256) (every (λ b. ltb b 256) bs) t) in
    let q : (b + 256 * number bs) / 256 ≡ number bs = omega arith in
    let r : (b + 256 * number bs) % 256 ≡ b = omega arith in
    rw (q, r) (ap (λ (l : List ℕ). b ∷ l) (low-number k bs (omega arith) (and_right (ltb b 256) (every (λ b. ltb b 256) bs) t)))

-- bytes are those of a number where they make it
pub same_low : (k : ℕ) (bs : List ℕ) (x : ℕ) → length bs ≡ k → T (every (λ b. ltb b 256) bs) → x < 256 ^ k
    → same bs (low k x) ≡ eqb (number bs) x
same_low k bs x e t h =
    same_test (same bs (low k x)) (eqb (number bs) x)
    (λ u. eq→eqb (number bs) x (ap number (same→eq bs (low k x) u) ∙ number-low k x h))
    (λ u. eq→same bs (low k x) (sym (low-number k bs e t) ∙ ap (low k) (eqb→eq (number bs) x u)))

pub same-part-low : (p k : ℕ) (s : List ℕ) (x : ℕ) → p + k ≤ length s → ((i : ℕ) → get_or s i 0 < 256) → x < 256 ^ k
    → same (part p k s) (low k x) ≡ eqb (number (part p k s)) x
same-part-low p k s x l b h =
    same_low k (part p k s) x (part_length p k s l) (every-part (λ b. ltb b 256) p k s (bytes_by s b)) h

-- ---- walks

module _ {ℓ} {A : Type ℓ} where
  pub join-append : (f : A → List ℕ) (xs ys : List A) → join f (xs ++ ys) ≡ join f xs ++ join f ys
  join-append f [] ys = refl
  join-append f (x ∷ xs) ys = rw (join-append f xs ys) (sym (append_assoc (f x) (join f xs) (join f ys)))

  -- where each piece has n elements
  pub join-length : (f : A → List ℕ) (n : ℕ) → ((x : A) → length (f x) ≡ n) → (xs : List A) → length (join f xs) ≡ n * length xs
  join-length f n h [] = sym (mul-zero n)
  join-length f n h (x ∷ xs) =
      rw (length-append (f x) (join f xs), h x, join-length f n h xs, mul-suc) (add_comm n (n * length xs))

  pub join-part : (f : A → List ℕ) (n : ℕ) → ((x : A) → length (f x) ≡ n) → (xs : List A) (rest : List ℕ) (j : ℕ) (d : A) → j < length xs
      → part (n * j) n (join f xs ++ rest) ≡ f (get_or xs j d)
  join-part f n h [] rest j d l = absurd (omega arith)
  join-part f n h (x ∷ xs) rest zero d l = rw (append_assoc (f x), mul-zero n) (take_at (f x) (join f xs ++ rest) n (h x))
  join-part f n h (x ∷ xs) rest (suc j) d l =
      let e : n * suc j ≡ length (f x) + n * j = mul-suc n j ∙ omega (arith, h x) in
      rw (append_assoc (f x), e, part-back (n * j) n (f x) (join f xs ++ rest)) (join-part f n h xs rest j d (omega arith))

  -- where each piece of an element that passes a test has n elements
  pub join-length_of : (f : A → List ℕ) (n : ℕ) (ok : A → Bool) → ((x : A) → T (ok x) → length (f x) ≡ n)
      → (xs : List A) → T (every ok xs) → length (join f xs) ≡ n * length xs
  join-length_of f n ok h [] t = sym (mul-zero n)
  join-length_of f n ok h (x ∷ xs) t =
      let u = join-length_of f n ok h xs (and_right (ok x) (every ok xs) t) in
      rw (length-append (f x) (join f xs), h x (and_left (ok x) (every ok xs) t), u, mul-suc)
      (add_comm n (n * length xs))

  pub sum-append : (f : A → ℕ) (xs ys : List A) → sum f (xs ++ ys) ≡ sum f xs + sum f ys
  sum-append f [] ys = omega arith
  sum-append f (x ∷ xs) ys = omega (arith, sum-append f xs ys)

  pub sum_snoc : (f : A → ℕ) (xs : List A) (x : A) → sum f (xs ++ (x ∷ [])) ≡ sum f xs + f x
  sum_snoc f xs x = omega (arith, sum-append f xs (x ∷ []))

  pub sum-replicate : (f : A → ℕ) (n : ℕ) (x : A) → sum f (replicate n x) ≡ f x * n
  sum-replicate f zero x = sym (mul-zero (f x))
  sum-replicate f (suc n) x = rw (sum-replicate f n x, mul-suc) (add_comm (f x) (f x * n))

  -- where each element that passes a test counts n at most
  pub sum_below : (f : A → ℕ) (n : ℕ) (ok : A → Bool) → ((x : A) → T (ok x) → f x ≤ n) → (xs : List A) → T (every ok xs) → sum f xs ≤ n * length xs
  sum_below f n ok h [] t = omega arith
  sum_below f n ok h (x ∷ xs) t =
      omega (arith, mul-suc n (length xs), h x (and_left (ok x) (every ok xs) t), sum_below f n ok h xs (and_right (ok x) (every ok xs) t))

-- ---- writes over and into what is there

module _ {ℓ} {A : Type ℓ} where
  -- a write over a place that holds an earlier one
  pub put_cover : (p q : ℕ) (vs ws xs : List A) → p ≤ q → q + length ws ≤ p + length vs → put p vs (put q ws xs) ≡ put p vs xs
  put_cover p q vs ws [] l h = refl
  put_cover zero zero [] [] (x ∷ xs) l h = refl
  put_cover zero zero (v ∷ vs) [] (x ∷ xs) l h = refl
  put_cover zero zero [] (w ∷ ws) (x ∷ xs) l h = absurd (omega arith)
  put_cover zero zero (v ∷ vs) (w ∷ ws) (x ∷ xs) l h = ap (λ (r : List A). v ∷ r) (put_cover zero zero vs ws xs l (omega arith))
  put_cover zero (suc q) [] ws (x ∷ xs) l h = absurd (omega arith)
  put_cover zero (suc q) (v ∷ vs) ws (x ∷ xs) l h = ap (λ (r : List A). v ∷ r) (put_cover zero q vs ws xs (omega arith) (omega arith))
  put_cover (suc p) zero vs ws (x ∷ xs) l h = absurd (omega arith)
  put_cover (suc p) (suc q) vs ws (x ∷ xs) l h = ap (λ (r : List A). x ∷ r) (put_cover p q vs ws xs (omega arith) (omega arith))

  -- a part written where it stands
  pub put_same : (p k : ℕ) (xs : List A) → put p (part p k xs) xs ≡ xs
  put_same p k [] = refl
  put_same zero zero (x ∷ xs) = refl
  put_same zero (suc k) (x ∷ xs) = ap (λ (r : List A). x ∷ r) (put_same zero k xs)
  put_same (suc p) k (x ∷ xs) = ap (λ (r : List A). x ∷ r) (put_same p k xs)

  -- a write into the middle one of three lists
  pub put_middle : (p q : ℕ) (vs front mid back : List A) → length front ≡ p → q + length vs ≤ length mid
      → put (p + q) vs (front ++ (mid ++ back)) ≡ front ++ (put q vs mid ++ back)
  put_middle p q vs front mid back e h = rw (← e, put_back q vs front (mid ++ back), put_front q vs mid back h)

  -- a part of k elements with others in its place
  pub put-part : (p k : ℕ) (vs xs : List A) → length vs ≡ k → p + k ≤ length xs → take p xs ++ (vs ++ drop k (drop p xs)) ≡ put p vs xs
  put-part p k vs xs e h = rw (drop-drop, ← e) (sym (put_split p vs xs (omega arith)))

-- ---- writes inside a write

module _ {ℓ} {A : Type ℓ} where
  inside : (q : ℕ) (ws vs xs : List A) → q + length ws ≤ length vs → put q ws (put 0 vs xs) ≡ put 0 (put q ws vs) xs
  inside q ws vs [] h = refl
  inside zero [] [] (x ∷ xs) h = refl
  inside zero (w ∷ ws) [] (x ∷ xs) h = absurd (omega arith)
  inside (suc q) ws [] (x ∷ xs) h = absurd (omega arith)
  inside zero [] (v ∷ vs) (x ∷ xs) h = refl
  inside zero (w ∷ ws) (v ∷ vs) (x ∷ xs) h = ap (λ (r : List A). w ∷ r) (inside zero ws vs xs (omega arith))
  inside (suc q) ws (v ∷ vs) (x ∷ xs) h = ap (λ (r : List A). v ∷ r) (inside q ws vs xs (omega arith))

  -- a write into what was just written is a write into the bytes before they are written
  pub put-put : (p q : ℕ) (ws vs xs : List A) → q + length ws ≤ length vs → put (p + q) ws (put p vs xs) ≡ put p (put q ws vs) xs
  put-put p q ws vs [] h = refl
  put-put zero q ws vs (x ∷ xs) h = rw zero-add (inside q ws vs (x ∷ xs) h)
  put-put (suc p) q ws vs (x ∷ xs) h = rw suc-add (ap (λ (r : List A). x ∷ r) (put-put p q ws vs xs h))
