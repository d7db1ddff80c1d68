-- Gather lists (02 §3): the proposals that the check accepts, and the one that the planner makes.
use Rattle.std.specs.Prelude.{ℕ, zero, suc, ◌*◌, ◌-◌, min, Bool, ◌&&◌, List, [], ◌∷◌, leb, ltb, eqb, length}
use Rattle.mem.specs.Lists.{choose, every, sum}
use Rattle.classes.specs.Classes.{size_limit}
use Rattle.model.specs.declared.Refusal.TheVariants.{TooLong}
use Rattle.model.specs.Answers.{Answer, list_done, refusal}

-- "the hardware takes 17 entries"
unfoldable pub entries : ℕ
entries = 17

-- "a cap from 1 to 131,051 per entry"
unfoldable pub cap_right : ℕ → Bool
cap_right cap = leb 1 cap && ltb cap size_limit

-- "each from 1 to the cap"
unfoldable pub size_right : ℕ → ℕ → Bool
size_right cap n = leb 1 n && leb n cap

-- THE CHECK: "accepts, for a cap in that range, any proposal of at most 17 sizes, each from 1 to the cap, whose sum is exactly L, and
-- nothing else"
unfoldable pub accepts : (total cap : ℕ) → List ℕ → Bool
accepts total cap sizes = cap_right cap && (leb (length sizes) entries && (every (size_right cap) sizes && eqb (sum (λ n. n) sizes) total))

-- "list too long, is given exactly if L exceeds 17 times the cap, or the cap is out of its range"; otherwise a list can be planned
unfoldable pub plannable : (total cap : ℕ) → Bool
plannable total cap = cap_right cap && leb total (entries * cap)

-- full caps, then the rest; at most k sizes
unfoldable pub full_caps : (k left cap : ℕ) → List ℕ
full_caps zero left cap = []
full_caps (suc k) left cap = let more = min left cap ∷ full_caps k (left - min left cap) cap in choose (eqb left 0) [] more

-- THE PLANNER: "answers 9 where L or the cap makes it due, else always finds an accepted proposal"
unfoldable pub planned : (total cap : ℕ) → Answer
planned total cap = choose (plannable total cap) (list_done (full_caps entries total cap)) (refusal TooLong)
