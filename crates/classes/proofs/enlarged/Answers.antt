-- `enlarged` meets its contract.
use Rattle.mem.proofs.Prelude.{◌≡◌, ℕ, ◌≤◌, suc, zero, refl, arith}
use Rattle.classes.specs.Classes.{size_limit}
use Rattle.classes.specs.Alignments.{enlarged}
use Rattle.classes.proofs.Alignments.{enlarged_by, align_least}
use Rattle.classes.proofs.enlarged.Goals as goal

itself : (k n : ℕ) → k ≤ 1 → n ≡ enlarged k n
itself zero n h = refl
itself (suc zero) n h = refl
itself (suc (suc k)) n h = absurd (omega arith)

pub returns-then-code-le-ORDINARY : goal.returns-then-code-le-ORDINARY
unfolding size_limit
returns-then-code-le-ORDINARY c = let a = c.args in record { value = itself a.code a.n (omega arith); small = omega arith }

pub overflow_sub-result : goal.overflow_sub-result
overflow_sub-result c = omega (arith, align_least c.args.code (omega arith))

pub overflow_add-result : goal.overflow_add-result
unfolding size_limit
overflow_add-result c = omega arith

pub returns : goal.returns
unfolding size_limit
returns c =
    let a = c.args in
    let e = enlarged_by a.code a.n (omega arith) in
    record { value = omega (arith, e); small = omega arith }
