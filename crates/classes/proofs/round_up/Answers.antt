-- `round_up` meets its contract: no number is large.
use Rattle.mem.proofs.Prelude.{refl}
use Rattle.classes.specs.Alignments.{round_up}
use Rattle.classes.proofs.round_up.Goals as goal

pub returns : goal.returns
unfolding round_up
returns c = refl
