-- What a list call is due to answer, to write to the front of a lent list, and to leave of the arena and of what is lent for the tables.
use Rattle.std.specs.Prelude.{ℕ, ◌≡◌, List}
use Rattle.mem.specs.Bytes.{put}
use Rattle.model.specs.Answers.{Answer}
use Rattle.model.specs.Calls.{Outcome}

-- 02 §3: "writes the starts to the front of a lent list, keeps its later places and gives the number of entries"
pub record Listed {R : Type 0} (o : Outcome R) (r : Answer) (before after arena : List ℕ) (kept : R) : Type 0 where
  pub number-due : r.number ≡ o.answer.number
  pub values-due : r.values ≡ o.answer.values
  pub list-due : after ≡ put 0 o.answer.lent before
  pub arena_due : arena ≡ o.arena
  pub kept_due : kept ≡ o.kept
