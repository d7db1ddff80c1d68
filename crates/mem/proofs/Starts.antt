-- Lists that begin with others: a test against a record is a test against each of its pieces.
use Rattle.mem.proofs.Prelude.{◌∙◌, ◌≡◌, sym, ap, refl, ap₂, subst, Bool, ◌&&◌, and_assoc, List, [], ◌∷◌, ◌++◌, ◌+◌, ℕ, ◌<◌, ◌≤◌, suc, ◌^◌}
use Rattle.mem.proofs.Prelude.{add-one, add-two, arith, T, eqb, ltb, eqb→eq, eqb_refl, length, drop, get_or, take, take-append-drop, drop-drop}
use Rattle.mem.proofs.Prelude.{drop-cons}
use Rattle.mem.specs.Lists.{starts}
use Rattle.mem.specs.Bytes.{zeros, low, number, same, part}
use Rattle.mem.proofs.Tests.{and_left, and_right, and_both, T_true, same_test, eq→eqb}
use Rattle.mem.proofs.Laws.{part_length, zeros-length, low-length, low-number, bytes_by, every-part, same-part-low}

pub eqb_sym : (a b : ℕ) → eqb a b ≡ eqb b a
eqb_sym a b = same_test (eqb a b) (eqb b a) (λ t. eq→eqb b a (sym (eqb→eq a b t))) (λ t. eq→eqb a b (sym (eqb→eq b a t)))

-- a test against two lists is a test against each
pub starts_then : (k : ℕ) (t x y : List ℕ) → length x ≡ k → starts t (x ++ y) ≡ (starts t x && starts (drop k t) y)
starts_then k t x y e = rw (← e) (go t x)
  where
    go : (t x : List ℕ) → starts t (x ++ y) ≡ (starts t x && starts (drop (length x) t) y)
    go t [] = refl
    go [] (b ∷ x) = refl
    go (a ∷ t) (b ∷ x) = rw (go t x) (sym (and_assoc (eqb a b) (starts t x) (starts (drop (length x) t) y)))

pub starts_from : (s : List ℕ) (p k q : ℕ) (x y : List ℕ) → length x ≡ k → p + k ≡ q
    → starts (drop p s) (x ++ y) ≡ (starts (drop p s) x && starts (drop q s) y)
starts_from s p k q x y e f =
    starts_then k (drop p s) x y e ∙ ap (λ (l : List ℕ). starts (drop p s) x && starts l y) (drop-drop k p s ∙ ap (λ (i : ℕ). drop i s) f)

starts-same : (t x : List ℕ) → same (take (length x) t) x ≡ starts t x
starts-same t [] = refl
starts-same [] (b ∷ x) = refl
starts-same (a ∷ t) (b ∷ x) = ap (λ (q : Bool). eqb a b && q) (starts-same t x)

-- a list that begins with another is that and the rest
pub starts→eq : (t x : List ℕ) → T (starts t x) → t ≡ x ++ drop (length x) t
starts→eq t [] u = refl
starts→eq [] (b ∷ x) u = absurd u
starts→eq (a ∷ t) (b ∷ x) u =
    ap₂ (λ (h : ℕ) (r : List ℕ). h ∷ r) (eqb→eq a b (and_left (eqb a b) (starts t x) u)) (starts→eq t x (and_right (eqb a b) (starts t x) u))

pub starts_split : (t x : List ℕ) (n : ℕ) → length x ≡ n → T (starts t x) → t ≡ x ++ drop n t
starts_split t x n e u = starts→eq t x u ∙ ap (λ (k : ℕ). x ++ drop k t) e

pub starts_own : (x y : List ℕ) → T (starts (x ++ y) x)
starts_own [] y = tt
starts_own (a ∷ x) y = and_both (eqb a a) (starts (x ++ y) x) (eqb_refl a) (starts_own x y)

-- the test of a record, and of zeros, from a place on
pub starts-part : (at n : ℕ) (s x : List ℕ) → length x ≡ n → same (part at n s) x ≡ starts (drop at s) x
starts-part at n s x e = ap (λ (k : ℕ). same (take k (drop at s)) x) (sym e) ∙ starts-same (drop at s) x

pub starts-zeros : (at n : ℕ) (s : List ℕ) → same (part at n s) (zeros n) ≡ starts (drop at s) (zeros n)
starts-zeros at n s = starts-part at n s (zeros n) (zeros-length n)

-- the first two elements
pub starts_two : (s : List ℕ) (at a b : ℕ) (x : List ℕ) → at + 2 ≤ length s
    → starts (drop at s) (a ∷ b ∷ x) ≡ (eqb (get_or s at 0) a && (eqb (get_or s (at + 1) 0) b && starts (drop (at + 2) s) x))
starts_two s at a b x h = rw (add-one, add-two, drop-cons s at 0 (omega arith), drop-cons s (suc at) 0 (omega arith))

module _ (s : List ℕ) (B : (i : ℕ) → get_or s i 0 < 256) where
  -- the bytes of a number, against those that stand there
  pub starts-low : (p k m : ℕ) → p + k ≤ length s → m < 256 ^ k → starts (drop p s) (low k m) ≡ eqb m (number (part p k s))
  starts-low p k m h f =
      sym (starts-same (drop p s) (low k m))
      ∙ ap (λ (j : ℕ). same (part p j s) (low k m)) (low-length k m)
      ∙ same-part-low p k s m h B f
      ∙ eqb_sym (number (part p k s)) m

  -- a number that was read from there is there
  pub starts-read : (p k : ℕ) (x : List ℕ) → p + k ≤ length s → starts (drop p s) (low k (number (part p k s)) ++ x) ≡ starts (drop (p + k) s) x
  starts-read p k x h =
      let t = drop p s in
      let e = low-number k (part p k s) (part_length p k s h) (every-part (λ b. ltb b 256) p k s (bytes_by s B)) in
      let u : T (starts t (take k t)) = subst (λ (l : List ℕ). T (starts l (take k t))) (take-append-drop k t) (starts_own (take k t) (drop k t)) in
      ap (λ (l : List ℕ). starts t (l ++ x)) e
      ∙ starts_then k t (take k t) x (part_length p k s h)
      ∙ rw (T_true (starts t (take k t)) u, drop-drop k p s)
