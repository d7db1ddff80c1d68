-- `code_of` passes a power of two only while it is not the alignment. The loop's invariant: it has not passed the alignment's place.
use Rattle.mem.proofs.Prelude.{◌∙◌, ◌≡◌, sym, ap, ℕ, ◌<◌, ◌≤◌, ◌-◌, arith, eqb, ltb, get_or, eq-eqb, eqb-true, Bool, true, List, [], ◌∷◌, suc}
use Rattle.mem.proofs.Prelude.{length, true≢false, le-ltb, lt-ltb}
use Prim.Native.Nat.{max}
use Rattle.mem.specs.Lists.{first, nonzero}
use Rattle.mem.proofs.Tests.{choose-true, choose-false, choose_case, nonzero_of}
use Rattle.classes.specs.Alignments.{powers, code_of}
use Rattle.classes.proofs.Laws.{first-before}
use Rattle.classes.proofs.code_of.Invariants.{place}
use Rattle.classes.proofs.code_of.Goals as goal

-- it is no later than an entry that is the alignment
not-past : (a i : ℕ) → get_or powers i 0 ≡ a → place a ≤ i
not-past a i e =
    let no : i < place a → ⊥ = λ h. true≢false (sym (eq-eqb (get_or powers i 0) a e) ∙ first-before (λ p. eqb p a) 0 powers i h) in omega arith

found : (a i : ℕ) → i < 13 → place a ≡ i → max 1 (i - 3) ≡ code_of a
unfolding code_of
found a i h e = ap (λ j. max 1 (j - 3)) (sym e) ∙ sym (choose-true (ltb (place a) 13) _ _ (lt-ltb (place a) 13 (omega arith)))

absent : (a : ℕ) → 13 ≤ place a → 0 ≡ code_of a
unfolding code_of
absent a h = sym (choose-false (ltb (place a) 13) _ _ (le-ltb (place a) 13 h))

-- the first entry that passes a test passes it
first-true : (f : ℕ → Bool) (l : List ℕ) → first f l < length l → f (get_or l (first f l) 0) ≡ true
first-true f [] = λ h. absurd (omega arith)
first-true f (x ∷ l) =
    choose_case (λ k. k < suc (length l) → f (get_or (x ∷ l) k 0) ≡ true) (f x) 0 (suc (first f l)) (λ e h. e) (λ e h. first-true f l (omega arith))

-- an entry that is not the alignment is not at its place
not_yet : (a i : ℕ) → i ≤ place a → i < 13 → (get_or powers i 0 ≡ a → ⊥) → i < place a
unfolding powers
not_yet a i l h n =
    let no : i ≡ place a → ⊥ =
    λ e. n (ap (λ j. get_or powers j 0) e ∙ eqb-true (get_or powers (place a) 0) a (first-true (λ p. eqb p a) powers (omega (arith, e)))) in
    omega arith

pub loop-i-preserved : goal.loop-i-preserved
unfolding powers
loop-i-preserved c =
    let a = c.args.align in
    let i = c.loop-i.i in
    omega (arith, not_yet a i (omega arith) (omega arith) (λ e. omega (arith, e)))

pub returns-then-from-align-clause-value : goal.returns-then-from-align-clause-value
unfolding powers
returns-then-from-align-clause-value c =
    let a = c.args.align in
    let i = c.loop-i.i in
    nonzero_of (code_of a) c.code_at.result (omega arith) (omega (arith, found a i (omega arith) (omega (arith, not-past a i (omega arith)))))

pub returns-clause-value : goal.returns-clause-value
returns-clause-value c = ap nonzero (absent c.args.align (omega arith))
