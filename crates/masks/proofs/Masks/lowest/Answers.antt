use Rattle.mem.proofs.Prelude.{rules}
use Rattle.masks.specs.Sets.{lowest}
use Rattle.masks.proofs.Masks.lowest.Goals as goal

pub returns : goal.returns
unfolding lowest
returns c = search rules
