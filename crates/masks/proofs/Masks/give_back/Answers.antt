use Rattle.masks.specs.Sets.{give_back}
use Rattle.masks.proofs.Masks.give_back.Goals as goal

pub returns : goal.returns
unfolding give_back
returns c = rw c.bit_of.ensures
