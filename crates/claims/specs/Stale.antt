-- Stale handles (02 §7): once a block is released, its old handle is refused by every later release, measure, resize in place and move as long
-- as its group stays and its slot has been granted again fewer than sixteen times, by the slot's count, which only grants step. Past that it can be
-- accepted, as the bench sheet shows: "A dropped group forgets its counts, and sixteen regrants bring the same bits back".
use Rattle.std.specs.Prelude.{ℕ, ◌+◌, ◌-◌, ◌%◌, ◌<◌, ◌≡◌, not, ◌⊎◌, List, [], ◌∷◌, T, length}
use Rattle.model.specs.declared.Slot.{Slot}
use Rattle.model.specs.State.{Place, is_live, count, disp, start_of, pool_of, start, handle, SameSlot}
use Rattle.model.specs.Plans.{Call, grants, grants_aligned, releases, moves, measures, grants_list}
use Rattle.model.specs.Calls.{Form, call_by}
use Rattle.claims.specs.Demand2.{Intact}
use Rattle.claims.specs.Alignment.{Sizes}
use Rattle.claims.specs.History.{Asked}

-- the calls that can grant a block
pub data Grants : Call → Type 0 where
  grants_one : {n : ℕ} → Grants (grants n)
  grants_by_alignment : {n b : ℕ} → Grants (grants_aligned n b)
  grants_moved : {h n : ℕ} → Grants (moves h n)
  grants_by_list : {total cap places : ℕ} {ns : List ℕ} → Grants (grants_list total cap places ns)

-- the calls on a block by its handle
pub data Uses : Call → ℕ → Type 0 where
  uses_release : {h : ℕ} → Uses (releases h) h
  uses_sized : {c : Call} {h : ℕ} → Sizes c h → Uses c h
  uses_measure : {h : ℕ} → Uses (measures h) h

-- the calls that end the block of a handle, where they are done: a move gives another handle
pub data Ends : Call → ℕ → Type 0 where
  ends_release : {h : ℕ} → Ends (releases h) h
  ends_move : {h n : ℕ} → Ends (moves h n) h

-- a slot before and after a call that does not grant it: its count and its displacement, "of its last start", are the same, and it is live only if
-- it was
abbrev pub NotGranted : Slot → Slot → Type 0
NotGranted x y = (count y ≡ count x) × (disp y ≡ disp x) × (T (is_live y) → T (is_live x))

-- over any call: so, or it was not live, and is granted
abbrev pub Steps : Call → Slot → Slot → Type 0
Steps c x y = NotGranted x y ⊎ (Grants c × T (not (is_live x)) × (count y ≡ (count x + 1) % 256))

module _ (row : ℕ) (F : Form) where
  -- "starts are handles with the low four bits cleared", in sound tables
  abbrev pub StartsCleared : Type 0
  StartsCleared = (n : ℕ) (t : F.Kept) (p : Place) → T (F.sound n t) → pool_of p ≡ F.view t → start_of (handle row p) ≡ start row p

  -- a slot whose group stays, over any call
  abbrev pub CountsStep : Type 0
  CountsStep = (a : List ℕ) (t : F.Kept) (c : Call) (p q : Place) → T (F.sound (length a) t)
      → pool_of p ≡ F.view t → pool_of q ≡ F.view (call_by row F a t c).kept → SameSlot row p q → Steps c p.state q.state

  -- a block's slot in later tables: its group is there, and by its count it has been granted again fewer than sixteen times
  pub record Remains (p : Place) (t : F.Kept) : Type 0 where
    pub now : Place
    pub there : pool_of now ≡ F.view t
    pub slot : SameSlot row p now
    pub few : (count now.state + 256 - count p.state) % 256 < 16

  -- at first and after every call of a list, each over whatever arena and the tables as the last left them
  unfoldable pub RemainsAll : Place → F.Kept → List Asked → Type 0
  RemainsAll p t [] = Remains p t
  RemainsAll p t (c ∷ cs) = Remains p t × RemainsAll p (call_by row F c.arena t c.asks).kept cs

  unfoldable pub after : F.Kept → List Asked → F.Kept
  after t [] = t
  after t (c ∷ cs) = after (call_by row F c.arena t c.asks).kept cs

  -- THE CLAIM, over every list of calls: h is the handle of a block that a call has ended; then any call that uses it is refused
  abbrev pub StaleRefused : Type 0
  StaleRefused = (a : List ℕ) (t : F.Kept) (h : ℕ) (p : Place) (ends : Call) → Intact row a (F.view t) h p
      → (call_by row F a t ends).answer.number ≡ 0 → Ends ends h
      → (cs : List Asked) → RemainsAll p (call_by row F a t ends).kept cs
      → (b : List ℕ) (c : Call) → Uses c h → (call_by row F b (after (call_by row F a t ends).kept cs) c).answer.number ≡ 0 → ⊥
