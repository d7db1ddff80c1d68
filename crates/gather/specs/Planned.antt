-- What the planner is due to answer and to write to the front of a lent array, and that the check accepts what it proposes.
use Rattle.std.specs.Prelude.{ℕ, ◌≡◌, true, List, get_or}
use Rattle.mem.specs.Bytes.{put}
use Rattle.model.specs.Answers.{Answer}
use Rattle.model.specs.Proposals.{accepts, planned}

module _ (total cap : ℕ) where
  -- its number, and the array
  pub record Proposed (number : ℕ) (before after : List ℕ) : Type 0 where
    pub number-due : number ≡ (planned total cap).number
    pub list-due : after ≡ put 0 (planned total cap).lent before
    pub accepted : number ≡ 0 → accepts total cap (planned total cap).lent ≡ true

  -- with its values
  pub record Planned (r : Answer) (before after : List ℕ) : Type 0 where
    pub proposed : Proposed r.number before after
    pub values-due : r.values ≡ (planned total cap).values

  -- and for C, with its value
  pub record PlannedFor (number value : ℕ) (before after : List ℕ) : Type 0 where
    pub proposed : Proposed number before after
    pub value_due : value ≡ get_or (planned total cap).values 0 0
