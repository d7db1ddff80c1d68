-- `sound` meets its contract: what the room counts, and the record.
use Rattle.mem.proofs.Prelude.{◌∙◌, sym}
use Rattle.model.specs.Calls.{KeptBytes, kept_in}
use Rattle.model.proofs.SixTotals.{same_numbers}
use Rattle.soundness.proofs.Counts.{kept_refused, kept_counted}
use Rattle.soundness.proofs.sound.Goals as goal
use Rattle.soundness.proofs.sound.Goals.{After-counted}

-- what is lent
abbrev lent : After-counted → KeptBytes
lent b = kept_in b.args.room.now b.args.t.now

pub returns-in-Some : goal.returns-in-Some
returns-in-Some c =
    c.eq.ensures ∙ same_numbers c.args.t.now c.in-Some.s
    ∙ kept_counted c.args.row.bytes c.args.len (lent (goal.at.returns-in-Some c).After-counted) c.in-Some.s (sym c.counted.ensures ∙ c.in-Some.is)

pub returns-in-None : goal.returns-in-None
returns-in-None c = kept_refused c.args.row.bytes c.args.len (lent (goal.at.returns-in-None c).After-counted) (sym c.counted.ensures ∙ c.in-None.is)
