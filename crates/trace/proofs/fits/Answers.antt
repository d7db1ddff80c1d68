-- `fits` meets its contract: one arm for each operation.
use Rattle.mem.proofs.Prelude.{◌∙◌, ◌≡◌, sym, ap, refl, ℕ, eqb, leb, arith}
use Rattle.mem.specs.Lists.{choose}
use Rattle.trace.specs.Trace.{fits}
use Rattle.trace.proofs.Laws.{fits-none}
use Rattle.trace.proofs.fits.Goals as goal

-- the definition at each operation
each : (n : ℕ) → (eqb n 5 ≡ fits 1 n) × (eqb n 5 ≡ fits 2 n) × (eqb n 9 ≡ fits 3 n) × (eqb n 5 ≡ fits 4 n) × (leb 5 n ≡ fits 5 n)
    × (eqb n 1 ≡ fits 6 n) × (eqb n 9 ≡ fits 7 n)
unfolding fits choose
each n = (refl, refl, refl, refl, refl, refl, refl)

is : (k j n : ℕ) → k ≡ j → fits j n ≡ fits k n
is k j n e = ap (λ (i : ℕ). fits i n) (sym e)

pub returns-in_default : goal.returns-in_default
returns-in_default c =
    fits-none _ _ (omega arith) (omega arith) (omega arith) (omega arith) (omega arith) (omega arith) (omega arith)

pub returns-in-1 : goal.returns-in-1
returns-in-1 c = (each c.args.n).0 ∙ is _ 1 c.args.n c.in-1.is

pub returns-in-2 : goal.returns-in-2
returns-in-2 c = (each c.args.n).1 ∙ is _ 2 c.args.n c.in-2.is

pub returns-in-3 : goal.returns-in-3
returns-in-3 c = (each c.args.n).2 ∙ is _ 3 c.args.n c.in-3.is

pub returns-in-4 : goal.returns-in-4
returns-in-4 c = (each c.args.n).3 ∙ is _ 4 c.args.n c.in-4.is

pub returns-in-5 : goal.returns-in-5
returns-in-5 c = (each c.args.n).4 ∙ is _ 5 c.args.n c.in-5.is

pub returns-in-6 : goal.returns-in-6
returns-in-6 c = (each c.args.n).5 ∙ is _ 6 c.args.n c.in-6.is

pub returns-in-7 : goal.returns-in-7
returns-in-7 c = (each c.args.n).6 ∙ is _ 7 c.args.n c.in-7.is
