-- `code_of` passes a power of two only while it is not the alignment. The loop's invariant: it has not passed the alignment's place.
use Rattle.mem.proofs.Prelude.{ℕ, ◌≤◌, eqb}
use Rattle.mem.specs.Lists.{first}
use Rattle.classes.specs.Alignments.{powers}
use Rattle.classes.proofs.code_of.Given as goal

-- the place of an alignment
abbrev pub place : ℕ → ℕ
place a = first (λ p. eqb p a) powers

abbrev pub invariant-loop-i : goal.invariant-loop-i
invariant-loop-i l = l.i ≤ place l.align
