-- `record_sound` meets its contract: the code is the definition.
use Rattle.mem.proofs.Prelude.{rules}
use Rattle.classes.specs.Classes.{size_limit}
use Rattle.slot_rules.specs.Rules.{record_checked}
use Rattle.slot_rules.proofs.record_sound.Goals as goal

pub returns : goal.returns
unfolding record_checked size_limit
returns c = search rules
