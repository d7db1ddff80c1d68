-- Laws of trace numbers and operations.
use Rattle.mem.proofs.Prelude.{◌≡◌, refl, sym, ap, ◌∙◌, subst, ◌⊎◌, inl, inr, Bool, true, false, List, ℕ, zero, suc, ◌+◌, ◌≤◌, ◌<◌, arith, ne_eqb, eqb-true}
use Rattle.mem.proofs.Prelude.{leb-true, le-leb, lt-leb, lt-ltb, le-ltb, leb→le, eqb, leb, ltb, length, get_or}
use mathlib.Core.Bool.{false≢true}
use borrow.Author.Tests.{ltb-false}
use Rattle.mem.specs.Lists.{choose}
use Rattle.mem.specs.Bytes.{big, part}
use Rattle.mem.proofs.Tests.{true-T, and_left, and_right, choose-true, choose-false, choose_case}
use Rattle.trace.specs.Trace.{fits, op_at, record_at, step_at, trace_right, Within}
use Rattle.trace.specs.declared.Op.{Op}
use Rattle.trace.specs.declared.Step.{Step}
use Rattle.trace.specs.declared.Step.TheVariants.{Record, Bad, End}

-- an operation that there is not
pub fits-none : (k n : ℕ) → (k ≡ 1 → ⊥) → (k ≡ 2 → ⊥) → (k ≡ 3 → ⊥) → (k ≡ 4 → ⊥) → (k ≡ 5 → ⊥) → (k ≡ 6 → ⊥) → (k ≡ 7 → ⊥)
    → false ≡ fits k n
unfolding fits choose
fits-none k n a b c d e f g =
    sym (simp (ne_eqb k 1 a, ne_eqb k 2 b, ne_eqb k 3 c, ne_eqb k 4 d, ne_eqb k 5 e, ne_eqb k 6 f, ne_eqb k 7 g))

-- how many bytes an operation has, at each one that has any numbers
pub fits_at : (k j n : ℕ) → k ≡ j → fits k n ≡ true → fits j n ≡ true
fits_at k j n e h = ap (λ (i : ℕ). fits i n) (sym e) ∙ h

pub five : (k j n : ℕ) → k ≡ j → 1 ≤ j → j ≤ 5 → fits k n ≡ true → 5 ≤ n
unfolding fits choose
five k zero n e a b h = absurd (omega arith)
five k (suc zero) n e a b h = omega (arith, eqb-true n 5 (fits_at k 1 n e h))
five k (suc (suc zero)) n e a b h = omega (arith, eqb-true n 5 (fits_at k 2 n e h))
five k (suc (suc (suc zero))) n e a b h = omega (arith, eqb-true n 9 (fits_at k 3 n e h))
five k (suc (suc (suc (suc zero)))) n e a b h = omega (arith, eqb-true n 5 (fits_at k 4 n e h))
five k (suc (suc (suc (suc (suc zero))))) n e a b h = omega (arith, leb-true 5 n (fits_at k 5 n e h))
five k (suc (suc (suc (suc (suc (suc j)))))) n e a b h = absurd (omega arith)

-- of a resize in place and of a move
pub nine : (k j n : ℕ) → k ≡ j → (j ≡ 3) ⊎ (j ≡ 7) → fits k n ≡ true → n ≡ 9
unfolding fits choose
nine k j n e (inl f) h = eqb-true n 9 (fits_at k 3 n (e ∙ f) h)
nine k j n e (inr f) h = eqb-true n 9 (fits_at k 7 n (e ∙ f) h)

pub op_none : (k : ℕ) (s : List ℕ) (p n : ℕ) → (k ≡ 1 → ⊥) → (k ≡ 2 → ⊥) → (k ≡ 3 → ⊥) → (k ≡ 4 → ⊥) → (k ≡ 5 → ⊥) → (k ≡ 7 → ⊥)
    → Op.Report ≡ op_at k s p n
unfolding op_at choose
op_none k s p n a b c d e f =
    sym (simp (ne_eqb k 1 a, ne_eqb k 2 b, ne_eqb k 3 c, ne_eqb k 4 d, ne_eqb k 5 e, ne_eqb k 7 f))

-- no operation has no bytes
choose-same : {A : Type 0} (b : Bool) (x : A) → choose b x x ≡ x
unfolding choose
choose-same true x = refl
choose-same false x = refl

pub fits-zero : (k : ℕ) → fits k 0 ≡ false
unfolding fits
fits-zero k = simp choose-same

-- what stands at a place, by the tests that the code makes
pub record-bad : (s : List ℕ) (p n : ℕ) → fits (get_or s p 0) n ≡ false → Step.Bad ≡ record_at s p n
unfolding record_at
record-bad s p n e = sym (choose-false _ _ _ e)

pub record_good : (s : List ℕ) (p n : ℕ) (r : Op) → fits (get_or s p 0) n ≡ true → r ≡ op_at (get_or s p 0) s p n → Step.Record r (p + n) ≡ record_at s p n
unfolding record_at
record_good s p n r e f = ap (λ (q : Op). Step.Record q (p + n)) f ∙ sym (choose-true _ _ _ e)

module _ (s : List ℕ) (p : ℕ) where
  pub at_end : length s ≤ p → Step.End ≡ step_at s p
  unfolding step_at
  at_end h = sym (choose-true _ _ _ (le-leb (length s) p h))

  pub no_length : p < length s → length s < p + 2 → Step.Bad ≡ step_at s p
  unfolding step_at
  no_length h k = sym (choose-false _ _ _ (lt-leb (length s) p h) ∙ choose-true _ _ _ (lt-ltb (length s) (p + 2) k))

  pub cut_short : p + 2 ≤ length s → length s < p + 2 + big (part p 2 s) → Step.Bad ≡ step_at s p
  unfolding step_at
  cut_short h k =
      let a : p < length s = omega arith in
      sym (choose-false _ _ _ (lt-leb (length s) p a) ∙ choose-false _ _ _ (le-ltb (length s) (p + 2) h)
      ∙ choose-true _ _ _ (lt-ltb (length s) (p + 2 + big (part p 2 s)) k))

  pub whole : p + 2 + big (part p 2 s) ≤ length s → record_at s (p + 2) (big (part p 2 s)) ≡ step_at s p
  unfolding step_at
  whole k =
      let a : p < length s = omega arith in
      let b : p + 2 ≤ length s = omega arith in
      sym (choose-false _ _ _ (lt-leb (length s) p a) ∙ choose-false _ _ _ (le-ltb (length s) (p + 2) b)
      ∙ choose-false _ _ _ (le-ltb (length s) (p + 2 + big (part p 2 s)) k))

some_bytes : (k n : ℕ) → fits k n ≡ true → 1 ≤ n
some_bytes k zero f = absurd (false≢true (sym (fits-zero k) ∙ f))
some_bytes k (suc n) f = omega arith

-- what a record promises: it has three bytes or more, ends inside the trace, and so do the bytes of a store
abbrev Good : List ℕ → ℕ → Step → Type 0
Good s p (Record op q) = (p + 3 ≤ q) × ((q ≤ length s) × Within op (length s))
Good s p Bad = Unit {0}
Good s p End = Unit {0}

op_within : (k : ℕ) (s : List ℕ) (p n : ℕ) → fits k n ≡ true → p + n ≤ length s → Within (op_at k s p n) (length s)
unfolding op_at
op_within k s p n f h =
    choose_case W (eqb k 1) _ _ (λ _. tt)
    (λ _. choose_case W (eqb k 2) _ _ (λ _. tt)
    (λ _. choose_case W (eqb k 3) _ _ (λ _. tt)
    (λ _. choose_case W (eqb k 4) _ _ (λ _. tt)
    (λ _. choose_case W (eqb k 5) _ _ (λ e. (omega (arith, five k 5 n (eqb-true k 5 e) (omega arith) (omega arith) f), h))
    (λ _. choose_case W (eqb k 7) _ _ (λ _. tt) (λ _. tt))))))
  where
    W : Op → Type 0
    W o = Within o (length s)

step_good : (s : List ℕ) (p : ℕ) → Good s p (step_at s p)
unfolding step_at record_at
step_good s p =
    choose_case (Good s p) (leb (length s) p) _ _ (λ _. tt)
    (λ _. choose_case (Good s p) (ltb (length s) (p + 2)) _ _ (λ _. tt)
    (λ _. choose_case (Good s p) (ltb (length s) (p + 2 + big (part p 2 s))) _ _ (λ _. tt)
    (λ e. let h = ltb-false (length s) (p + 2 + big (part p 2 s)) e in
    choose_case (Good s p) (fits (get_or s (p + 2) 0) (big (part p 2 s))) _ _
    (λ f. (omega (arith, some_bytes _ _ f), (h, op_within (get_or s (p + 2) 0) s (p + 2) (big (part p 2 s)) f h))) (λ _. tt))))

pub step_within : (s : List ℕ) (p : ℕ) (op : Op) (q : ℕ) → Step.Record op q ≡ step_at s p → (p + 3 ≤ q) × ((q ≤ length s) × Within op (length s))
step_within s p op q e = subst (Good s p) (sym e) (step_good s p)

-- ---- the whole trace

pub right-length : (s : List ℕ) → trace_right s ≡ true → (1 ≤ length s) × (length s ≤ 65535)
unfolding trace_right
right-length s e =
    let t = true-T _ e in
    (leb→le 1 (length s) (search and_left), leb→le (length s) 65535 (search (and_left, and_right)))
