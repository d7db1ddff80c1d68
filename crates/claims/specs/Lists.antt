-- Gather lists (02 §3): what the check accepts, the planner's proposals, and that a list is its grants, all of them or none.
use Rattle.std.specs.Prelude.{ℕ, ◌*◌, ◌≤◌, ◌<◌, ◌≡◌, ◌↔◌, List, [], ◌∷◌, map, T, eqb, length, get_or}
use Rattle.mem.specs.Lists.{any, sum}
use Rattle.model.specs.Answers.{done}
use Rattle.model.specs.Proposals.{accepts, planned}
use Rattle.model.specs.Plans.{grants, grants_list}
use Rattle.model.specs.Calls.{Form, Outcome, call_by}
use Rattle.claims.specs.Demand3.{Ended}

-- "a cap from 1 to 131,051 per entry; the hardware takes 17 entries": the lists that can be planned
pub record Plannable (total cap : ℕ) : Type 0 where
  pub least : 1 ≤ cap
  pub most : cap ≤ 131051
  pub within : total ≤ 17 * cap

-- "for a cap in that range, any proposal of at most 17 sizes, each from 1 to the cap, whose sum is exactly L, and nothing else"
pub record Proposal (total cap : ℕ) (ns : List ℕ) : Type 0 where
  pub least : 1 ≤ cap
  pub most : cap ≤ 131051
  pub few : length ns ≤ 17
  pub sizes : (i : ℕ) → i < length ns → (1 ≤ get_or ns i 0) × (get_or ns i 0 ≤ cap)
  pub adds_up : sum (λ n. n) ns ≡ total

-- THE CHECK accepts these
abbrev pub ChecksExactly : Type 0
ChecksExactly = (total cap : ℕ) (ns : List ℕ) → T (accepts total cap ns) ↔ Proposal total cap ns

-- THE PLANNER: "answers 9 where L or the cap makes it due, else always finds an accepted proposal"; of all that are accepted it has the
-- lowest number of entries
pub record PlansAccepted (total cap : ℕ) : Type 0 where
  pub found : Plannable total cap → (planned total cap).number ≡ 0
  pub accepted : Plannable total cap → T (accepts total cap (planned total cap).lent)
  pub too_long : (Plannable total cap → ⊥) → ((planned total cap).number ≡ 9) × ((planned total cap).lent ≡ [])
  pub counted : (planned total cap).values ≡ length (planned total cap).lent ∷ []
  pub fewest : (ns : List ℕ) → T (accepts total cap ns) → length (planned total cap).lent ≤ length ns
  -- what the check accepts can be planned
  pub only-plannable : (ns : List ℕ) → T (accepts total cap ns) → Plannable total cap

abbrev pub PlansAsSaid : Type 0
PlansAsSaid = (total cap : ℕ) → PlansAccepted total cap

module _ (row : ℕ) (F : Form) where
  -- the same grants one after another: the answers, and the arena, the room and the record that they leave
  unfoldable pub granting : List ℕ → F.Kept → List ℕ → Ended F.Kept
  granting a t [] = record { answers = []; arena = a; kept = t }
  granting a t (n ∷ ns) =
      let r = call_by row F a t (grants n) in
      let g = granting r.arena r.kept ns in
      record { answers = r.answer ∷ g.answers; arena = g.arena; kept = g.kept }

  -- "grants its sizes in order, writes the starts to the front of a lent list .. and gives the number of entries": a list that is done
  -- leaves what the grants leave, and its handles are theirs
  pub record AsGrants (ns : List ℕ) (r : Outcome F.Kept) (g : Ended F.Kept) : Type 0 where
    pub entries : r.answer.values ≡ length ns ∷ []
    pub handles : g.answers ≡ map (λ h. done (h ∷ [])) r.answer.lent
    pub arena : r.arena ≡ g.arena
    pub kept : r.kept ≡ g.kept

  abbrev pub ListsAsGrants : Type 0
  ListsAsGrants = (a : List ℕ) (t : F.Kept) (total cap places : ℕ) (ns : List ℕ) → (call_by row F a t (grants_list total cap places ns)).answer.number ≡ 0
      → AsGrants ns (call_by row F a t (grants_list total cap places ns)) (granting a t ns)

  -- "answer 8 exactly if granting the accepted sizes in order would meet it"
  abbrev pub ListsExactly : Type 0
  ListsExactly = (a : List ℕ) (t : F.Kept) (total cap places : ℕ) (ns : List ℕ)
      → T (F.sound (length a) t) → 17 ≤ places → T (accepts total cap ns)
      → ((call_by row F a t (grants_list total cap places ns)).answer.number ≡ 8) ↔ T (any (λ r. eqb r.number 8) (granting a t ns).answers)
