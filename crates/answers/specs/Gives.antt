-- What C sees of a call, by what the call is due to answer and to leave; `kept` is what is lent for the tables, in either engine.
use Rattle.std.specs.Prelude.{ℕ, ◌≡◌, List, get_or}
use Rattle.mem.specs.Bytes.{put}
use Rattle.model.specs.Answers.{Answer}
use Rattle.model.specs.Calls.{Outcome}

-- a number and a value
pub record Tells (r : Answer) (number value : ℕ) : Type 0 where
  pub number-due : number ≡ r.number
  pub value_due : value ≡ get_or r.values 0 0

-- a number and all values
pub record Reports (r : Answer) (number : ℕ) (values : List ℕ) : Type 0 where
  pub number-due : number ≡ r.number
  pub values-due : values ≡ r.values

module _ {R : Type 0} (o : Outcome R) where
  -- a number, and what is left
  pub record Leaves (number : ℕ) (arena : List ℕ) (kept : R) : Type 0 where
    pub number-due : number ≡ o.answer.number
    pub arena_due : arena ≡ o.arena
    pub kept_due : kept ≡ o.kept

  -- a number, a value, and what is left
  pub record Gives (number value : ℕ) (arena : List ℕ) (kept : R) : Type 0 where
    pub tells : Tells o.answer number value
    pub arena_due : arena ≡ o.arena
    pub kept_due : kept ≡ o.kept

  -- and what is written to the front of a lent list
  pub record Lists (number value : ℕ) (before after arena : List ℕ) (kept : R) : Type 0 where
    pub gives : Gives number value arena kept
    pub list-due : after ≡ put 0 o.answer.lent before
