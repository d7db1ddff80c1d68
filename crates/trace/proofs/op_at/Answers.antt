-- `op_at` meets its contract: one arm for each operation.
use Rattle.mem.proofs.Prelude.{◌≡◌, refl, sym, ap, ap₂, ◌∙◌, inl, inr, List, ℕ, ◌+◌, arith, rules}
use Rattle.mem.specs.Lists.{choose}
use Rattle.trace.specs.Trace.{op_at}
use Rattle.trace.specs.declared.Op.{Op}
use Rattle.trace.proofs.Laws.{five, nine, op_none}
use Rattle.trace.proofs.op_at.Goals as goal

is : (k j : ℕ) (s : List ℕ) (p n : ℕ) → k ≡ j → op_at j s p n ≡ op_at k s p n
is k j s p n e = ap (λ (i : ℕ). op_at i s p n) (sym e)

pub big4-requires : goal.big4-requires
big4-requires c = omega (arith, five _ 1 _ c.in-1.is (search rules) (search rules) c.requires.n_fits)

pub big4-requires-in-2 : goal.big4-requires-in-2
big4-requires-in-2 c = omega (arith, five _ 2 _ c.in-2.is (search rules) (search rules) c.requires.n_fits)

pub big4-requires-in-3 : goal.big4-requires-in-3
big4-requires-in-3 c = omega (arith, five _ 3 _ c.in-3.is (search rules) (search rules) c.requires.n_fits)

pub big4-requires-in-3-2 : goal.big4-requires-in-3-2
big4-requires-in-3-2 c = omega (arith, nine _ 3 _ c.in-3.is (inl refl) c.requires.n_fits)

pub big4-requires-in-4 : goal.big4-requires-in-4
big4-requires-in-4 c = omega (arith, five _ 4 _ c.in-4.is (search rules) (search rules) c.requires.n_fits)

pub big4-requires-in-5 : goal.big4-requires-in-5
big4-requires-in-5 c = omega (arith, five _ 5 _ c.in-5.is (search rules) (search rules) c.requires.n_fits)

pub big4-requires-in-7 : goal.big4-requires-in-7
big4-requires-in-7 c = omega (arith, nine _ 7 _ c.in-7.is (inr refl) c.requires.n_fits)

pub big4-requires-in-7-2 : goal.big4-requires-in-7-2
big4-requires-in-7-2 c = omega (arith, nine _ 7 _ c.in-7.is (inr refl) c.requires.n_fits)

pub returns-in-1 : goal.returns-in-1
unfolding op_at choose
returns-in-1 c = let a = c.args in ap Op.Grant c.big4.ensures.value ∙ is _ 1 a.s.now a.at a.n c.in-1.is

pub returns-in-2 : goal.returns-in-2
unfolding op_at choose
returns-in-2 c =
    let a = c.args in
    ap Op.Release c.big4-in-2.ensures.value ∙ is _ 2 a.s.now a.at a.n c.in-2.is

pub returns-in-3 : goal.returns-in-3
unfolding op_at choose
returns-in-3 c =
    let a = c.args in
    ap₂ Op.ResizeInPlace c.big4-in-3.ensures.value c.big4-in-3-2.ensures.value ∙ is _ 3 a.s.now a.at a.n c.in-3.is

pub returns-in-4 : goal.returns-in-4
unfolding op_at choose
returns-in-4 c =
    let a = c.args in
    ap Op.Measure c.big4-in-4.ensures.value ∙ is _ 4 a.s.now a.at a.n c.in-4.is

pub returns-in-5 : goal.returns-in-5
unfolding op_at choose
returns-in-5 c =
    let a = c.args in
    ap (λ (k : ℕ). Op.Store k (a.at + 5) (a.at + a.n)) c.big4-in-5.ensures.value ∙ is _ 5 a.s.now a.at a.n c.in-5.is

pub returns-in-7 : goal.returns-in-7
unfolding op_at choose
returns-in-7 c =
    let a = c.args in
    ap₂ Op.Move c.big4-in-7.ensures.value c.big4-in-7-2.ensures.value ∙ is _ 7 a.s.now a.at a.n c.in-7.is

pub returns-in_default : goal.returns-in_default
returns-in_default c =
    op_none _ _ _ _ (omega arith) (omega arith) (omega arith) (omega arith) (omega arith) (omega arith)
