-- A size that is too large, by what was found, goes first; then what was found is judged.
use Rattle.mem.proofs.Prelude.{◌∙◌, ◌≡◌, sym, ap, leb}
use Rattle.mem.proofs.Tests.{choose-true, choose-false}
use Rattle.classes.specs.Classes.{size_limit}
use Rattle.classes.specs.Alignments.{enlarged}
use Rattle.frames.specs.Blocks.{code_found}
use Rattle.frames.proofs.judge_for.Goals as goal
use Rattle.frames.proofs.judge_for.Goals.{After-too_large}

-- the size by what was found
tested : (c : After-too_large) → (let a = c.args in leb size_limit (enlarged (code_found a.found) a.n) ≡ c.too_large.result)
tested c =
    let a = c.args in
    ap (λ k. leb size_limit (enlarged k a.n)) (sym c.code_found.ensures) ∙ sym c.too_large.ensures

pub returns-then-too_large : goal.returns-then-too_large
returns-then-too_large c = sym (choose-true _ _ _ (tested (goal.at.returns-then-too_large c).After-too_large ∙ c.if-too_large.true))

pub returns : goal.returns
returns c = c.judge.ensures ∙ sym (choose-false _ _ _ (tested (goal.at.returns c).After-too_large ∙ c.if-too_large.false))
