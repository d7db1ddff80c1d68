-- Aligned blocks (02 §6): in sound tables every live block starts on a multiple of its alignment (`LiveRules` `.boundary`); a grant gives the
-- alignment asked for (`GrantedAligned`), every accepted resize in place and move keeps it, and no other call changes the block.
use Rattle.std.specs.Prelude.{ℕ, ◌≡◌, List, [], ◌∷◌}
use Rattle.model.specs.State.{Place, align, start_of, handle}
use Rattle.model.specs.Plans.{Call, sets_up, releases, resizes_in_place, moves}
use Rattle.model.specs.Calls.{Form, call_by}
use Rattle.claims.specs.Demand1.{LiveAt}

-- the calls that give the block of a handle another size
pub data Sizes : Call → ℕ → Type 0 where
  sizes_in_place : {h n : ℕ} → Sizes (resizes_in_place h n) h
  sizes-move : {h n : ℕ} → Sizes (moves h n) h

-- a call that ends the block at a start, or changes it: a set up ends every block
pub data Names : Call → ℕ → Type 0 where
  names_all : {o : ℕ} → Names sets_up o
  names_release : {h o : ℕ} → start_of h ≡ o → Names (releases h) o
  names_sized : {c : Call} {h o : ℕ} → Sizes c h → start_of h ≡ o → Names c o

module _ (row : ℕ) (F : Form) where
  -- "Resize of an aligned block keeps the boundary": the block of the handle before the call, and the one of its value after it
  pub record KeepsBoundary (a : List ℕ) (t : F.Kept) (c : Call) (h : ℕ) : Type 0 where
    pub old : Place
    pub was : LiveAt row (F.view t) (start_of h) old
    pub new : Place
    pub given : ℕ
    pub value : (call_by row F a t c).answer.values ≡ given ∷ []
    pub is : LiveAt row (F.view (call_by row F a t c).kept) (start_of given) new
    pub same : align new.state ≡ align old.state

  abbrev pub SizesKeepAlignment : Type 0
  SizesKeepAlignment = (a : List ℕ) (t : F.Kept) (c : Call) (h : ℕ) → Sizes c h → (call_by row F a t c).answer.number ≡ 0 → KeepsBoundary a t c h

  -- a block that a call does not name is where it was, with its handle, size and alignment; a refused call changes nothing (demand 1)
  abbrev pub OthersStay : Type 0
  OthersStay = (a : List ℕ) (t : F.Kept) (c : Call) (o : ℕ) (p : Place) → (call_by row F a t c).answer.number ≡ 0
      → LiveAt row (F.view t) o p → (Names c o → ⊥)
      → (q : Place) × LiveAt row (F.view (call_by row F a t c).kept) o q × (handle row q ≡ handle row p) × (q.state ≡ p.state)
