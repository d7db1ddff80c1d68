-- By the two tests.
use Rattle.mem.proofs.Prelude.{sym}
use Rattle.classes.specs.Classes.{size_limit}
use Rattle.proposals.proofs.Checks.{cap_zero, cap_tested}
use Rattle.proposals.proofs.cap_right.Goals as goal

pub returns-then-cap-lt1 : goal.returns-then-cap-lt1
returns-then-cap-lt1 c = sym (cap_zero c.args.cap c.if-cap-lt1.true)

pub returns : goal.returns
unfolding size_limit
returns c = sym (cap_tested c.args.cap c.if-cap-lt1.false)
