-- Laws of tests: conjunctions as facts, tests over a list, choices.
use Rattle.mem.proofs.Prelude.{◌≡◌, ap, refl, subst, Some, None, true, Bool, false, ◌&&◌, not, ◌||◌, true≢false, List, [], ◌∷◌, ◌++◌, map, ℕ, ◌<◌, suc, zero, arith}
use Rattle.mem.proofs.Prelude.{T, eqb, eqb→eq, eqb_refl, length, get_or}
use Prim.Native.Nat.{suc-le-suc}
use native.Mathlib.Nat.{not-suc-le-zero, le_of_suc-le-suc, zero-lt-suc}
use mathlib.Core.Bool.{false≢true}
use lib.Bits.{bit_or, or_add_and, and_le_l, and_le_r}
use Rattle.mem.specs.Lists.{every, any, choose, nonzero}

pub and_left : (a b : Bool) → T (a && b) → T a
and_left true b t = tt
and_left false b t = t

pub and_right : (a b : Bool) → T (a && b) → T b
and_right true b t = t
and_right false b t = absurd t

pub and_both : (a b : Bool) → T a → T b → T (a && b)
and_both true b s t = t
and_both false b s t = s

-- a test as an equation, and back
pub T_true : (b : Bool) → T b → b ≡ true
T_true true t = refl
T_true false t = absurd t

pub true-T : (b : Bool) → b ≡ true → T b
true-T true e = tt
true-T false e = absurd (false≢true e)

-- two tests that follow from each other are one
pub same_test : (a b : Bool) → (T a → T b) → (T b → T a) → a ≡ b
same_test true true f g = refl
same_test true false f g = absurd (f tt)
same_test false true f g = absurd (g tt)
same_test false false f g = refl

pub eq→eqb : (a b : ℕ) → a ≡ b → T (eqb a b)
eq→eqb a b e = subst (λ (n : ℕ). T (eqb a n)) e (eqb_refl a)

-- a test that every element and the default pass is passed at every place
pub every_at : {A : Type 0} (f : A → Bool) (l : List A) (d : A) → T (every f l) → T (f d) → (k : ℕ) → T (f (get_or l k d))
every_at f [] d t u k = u
every_at f (x ∷ l) d t u zero = and_left (f x) (every f l) t
every_at f (x ∷ l) d t u (suc k) = every_at f l d (and_right (f x) (every f l) t) u k

pub every_in : {A : Type 0} (f : A → Bool) (l : List A) (d : A) → T (every f l) → (k : ℕ) → k < length l → T (f (get_or l k d))
every_in f [] d t k h = absurd (not-suc-le-zero h)
every_in f (x ∷ l) d t zero h = and_left (f x) (every f l) t
every_in f (x ∷ l) d t (suc k) h = every_in f l d (and_right (f x) (every f l) t) k (le_of_suc-le-suc h)

pub every_by : {A : Type 0} (f : A → Bool) (l : List A) (d : A) → ((k : ℕ) → k < length l → T (f (get_or l k d))) → T (every f l)
every_by f [] d h = tt
every_by f (x ∷ l) d h = and_both (f x) (every f l) (h zero (zero-lt-suc (length l))) (every_by f l d (λ k b. h (suc k) (suc-le-suc b)))

pub every_append : {A : Type 0} (f : A → Bool) (xs ys : List A) → T (every f xs) → T (every f ys) → T (every f (xs ++ ys))
every_append f [] ys s t = t
every_append f (x ∷ xs) ys s t =
    and_both (f x) (every f (xs ++ ys)) (and_left (f x) (every f xs) s) (every_append f xs ys (and_right (f x) (every f xs) s) t)

pub every-left : {A : Type 0} (f : A → Bool) (xs ys : List A) → T (every f (xs ++ ys)) → T (every f xs)
every-left f [] ys t = tt
every-left f (x ∷ xs) ys t =
    and_both (f x) (every f xs) (and_left (f x) (every f (xs ++ ys)) t) (every-left f xs ys (and_right (f x) (every f (xs ++ ys)) t))

pub every-right : {A : Type 0} (f : A → Bool) (xs ys : List A) → T (every f (xs ++ ys)) → T (every f ys)
every-right f [] ys t = t
every-right f (x ∷ xs) ys t = every-right f xs ys (and_right (f x) (every f (xs ++ ys)) t)

-- where none passes a test, each fails it
pub every-not : {A : Type 0} (f : A → Bool) (l : List A) → any f l ≡ false → T (every (λ x. not (f x)) l)
every-not f [] e = tt
every-not f (x ∷ l) e = go (f x) refl e (every-not f l)
  where
    go : (b : Bool) → f x ≡ b → (b || any f l) ≡ false → (any f l ≡ false → T (every (λ x. not (f x)) l)) → T (not (f x) && every (λ x. not (f x)) l)
    go true h e r = absurd (true≢false e)
    go false h e r = rw h (r e)

-- and where each fails it, none passes
pub none_any : {A : Type 0} (f : A → Bool) (l : List A) → T (every (λ x. not (f x)) l) → any f l ≡ false
none_any f [] t = refl
none_any f (x ∷ l) t = go (f x) t (none_any f l)
  where
    go : (b : Bool) → T (not b && every (λ x. not (f x)) l) → (T (every (λ x. not (f x)) l) → any f l ≡ false) → (b || any f l) ≡ false
    go true t r = absurd t
    go false t r = r t

pub every_map : {A B : Type 0} (f : B → Bool) (g : A → B) (xs : List A) → every f (map g xs) ≡ every (λ x. f (g x)) xs
every_map f g [] = refl
every_map f g (x ∷ xs) = ap (λ (b : Bool). f (g x) && b) (every_map f g xs)

pub any-map : {A B : Type 0} (f : B → Bool) (g : A → B) (xs : List A) → any f (map g xs) ≡ any (λ x. f (g x)) xs
any-map f g [] = refl
any-map f g (x ∷ xs) = ap (λ (b : Bool). f (g x) || b) (any-map f g xs)

-- what holds of both choices holds of the choice
pub choose_case {ℓ} : {A : Type 0} (M : A → Type ℓ) (b : Bool) (x y : A) → (b ≡ true → M x) → (b ≡ false → M y) → M (choose b x y)
unfolding choose
choose_case M true x y p q = p refl
choose_case M false x y p q = q refl

pub choose-true {ℓ} : {A : Type ℓ} (b : Bool) (x y : A) → b ≡ true → choose b x y ≡ x
unfolding choose
choose-true true x y e = refl
choose-true false x y e = absurd (false≢true e)

pub choose-false {ℓ} : {A : Type ℓ} (b : Bool) (x y : A) → b ≡ false → choose b x y ≡ y
unfolding choose
choose-false true x y e = absurd (true≢false e)
choose-false false x y e = refl

-- a choice among what f gives is what f gives of the choice
pub choose_along : {A B : Type 0} (f : A → B) (b : Bool) {x y : A} {u v : B} → u ≡ f x → v ≡ f y → choose b u v ≡ f (choose b x y)
unfolding choose
choose_along f true e g = e
choose_along f false e g = g

-- what is not so is false
pub not_so : (b : Bool) → T (not b) → b ≡ false
not_so true k = absurd k
not_so false k = refl

-- an or is zero where both are
pub or-none : (a b : ℕ) → eqb (bit_or a b) 0 ≡ (eqb a 0 && eqb b 0)
or-none a b =
    let s = or_add_and a b in
    let l = and_le_l a b in
    let r = and_le_r a b in
    same_test (eqb (bit_or a b) 0) (eqb a 0 && eqb b 0)
    (λ t. let z = eqb→eq (bit_or a b) 0 t in and_both (eqb a 0) (eqb b 0) (eq→eqb a 0 (omega arith)) (eq→eqb b 0 (omega arith)))
    (λ t.
    let x = eqb→eq a 0 (and_left (eqb a 0) (eqb b 0) t) in
    let y = eqb→eq b 0 (and_right (eqb a 0) (eqb b 0) t) in
    eq→eqb (bit_or a b) 0 (omega arith))

-- numbers that are not 0
pub nonzero_some : (n k : ℕ) → nonzero n ≡ Some k → (n ≡ k) × (0 < k)
nonzero_some zero k e = cc
nonzero_some (suc n) k e = let f : suc n ≡ k = cc in (f, omega (arith, f))

pub nonzero_none : (n : ℕ) → nonzero n ≡ None → n ≡ 0
nonzero_none zero e = refl
nonzero_none (suc n) e = cc

pub nonzero_of : (n k : ℕ) → 0 < k → k ≡ n → Some k ≡ nonzero n
nonzero_of n zero h e = absurd (not-suc-le-zero h)
nonzero_of zero (suc k) h e = cc
nonzero_of (suc n) (suc k) h e = ap Some e
