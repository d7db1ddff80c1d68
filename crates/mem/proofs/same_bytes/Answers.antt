-- `same_bytes` meets its contract. The invariant: the test of the whole is the test of what is left.
use Rattle.mem.proofs.Prelude.{◌∙◌, ◌≡◌, sym, ap₂, false, List, ◌+◌, ℕ, ◌<◌, add-one, arith, eq-eqb, ne_eqb}
use Rattle.mem.proofs.Prelude.{length, drop, get_or, drop-cons}
use lib.ListN.{drop_of_length-le}
use Rattle.mem.specs.Bytes.{same}
use Rattle.mem.proofs.Laws.{same_lengths}
use Rattle.mem.proofs.same_bytes.Goals as goal

-- one turn, where the two bytes differ and where they do not
differ : (a b : List ℕ) (i : ℕ) → i < length a → i < length b → (get_or a i 0 ≡ get_or b i 0 → ⊥) → same (drop i a) (drop i b) ≡ false
differ a b i h k n = rw (drop-cons a i 0, drop-cons b i 0, ne_eqb (get_or a i 0) (get_or b i 0) n)

agree : (a b : List ℕ) (i : ℕ) → i < length a → i < length b → get_or a i 0 ≡ get_or b i 0
    → same (drop i a) (drop i b) ≡ same (drop (i + 1) a) (drop (i + 1) b)
agree a b i h k e = rw (add-one, drop-cons a i 0, drop-cons b i 0, eq-eqb (get_or a i 0) (get_or b i 0) e)

pub returns-then-a-b : goal.returns-then-a-b
returns-then-a-b c = sym (same_lengths c.args.a.now c.args.b.now c.if-a-b.true)

pub returns-then-x-b : goal.returns-then-x-b
returns-then-x-b c =
    let l = c.loop-i in
    let s = c.args in
    sym (l.invariant ∙ differ s.a.now s.b.now l.i (omega arith) (omega arith) c.if-x-b.true)

pub loop-i-preserved : goal.loop-i-preserved
loop-i-preserved c =
    let l = c.loop-i in
    let s = c.args in
    l.invariant ∙ agree s.a.now s.b.now l.i (omega arith) (omega arith) c.if-x-b.false

pub returns : goal.returns
returns c =
    let l = c.loop-i in
    let s = c.args in
    sym
    (l.invariant
    ∙ ap₂ same (drop_of_length-le s.a.now c.loop-i-test.false) (drop_of_length-le s.b.now {i = l.i} (omega arith)))
