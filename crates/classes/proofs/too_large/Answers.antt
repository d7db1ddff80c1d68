-- `too_large` meets its contract: the enlarged size is no less than n.
use Rattle.mem.proofs.Prelude.{sym, ap, leb, le-leb, arith}
use Rattle.classes.specs.Classes.{size_limit}
use Rattle.classes.specs.Alignments.{enlarged}
use Rattle.classes.proofs.Alignments.{enlarged_least}
use Rattle.classes.proofs.too_large.Goals as goal

pub returns-then-n-ge-TOO_LARGE : goal.returns-then-n-ge-TOO_LARGE
unfolding size_limit
returns-then-n-ge-TOO_LARGE c =
    let a = c.args in
    sym (le-leb size_limit (enlarged a.code a.n) (omega (arith, enlarged_least a.code a.n)))

pub enlarged-requires : goal.enlarged-requires
unfolding size_limit
enlarged-requires c = (omega arith, omega arith)

pub returns : goal.returns
unfolding size_limit
returns c = ap (leb size_limit) c.enlarged.ensures.value
