-- Demand 3: "Packet contents steer nothing. Take any list of these calls, refused ones included: set up, grant, release, resize, measure, report,
-- and each call on the pool that a later request adds. Run it twice, each time from a fresh pool, over arenas of one length. Each call is lent the
-- whole arena, and the tables as the last call left them. Between calls only the engine writes, and only into the requested bytes of live blocks; it
-- may store anything there, different in each run. Then, for every such list and whatever the engine stores, both runs give the same answers, and
-- they are those of document 01's model. After the list, tables and totals are the same in both and are the model's. All arena bytes outside live
-- requested bytes are the same. Bytes that a block gained in any of the calls, by grant or growth, were zero when that call ended (a moved block
-- gains only those past its old size)."
use Rattle.std.specs.Prelude.{ℕ, ◌+◌, ◌/◌, ◌≤◌, ◌<◌, ◌≡◌, Bool, ◌&&◌, not, ◌⊎◌, T, leb, ltb, length, get_or, set}
use mathlib.Core.List.{List, [], ◌∷◌, map}
use Rattle.mem.specs.Lists.{any}
use Rattle.model.specs.State.{Pool, Place, is_live, size, start_of, pool_of, places, start}
use Rattle.model.specs.Answers.{Answer, done, listed}
use Rattle.model.specs.Plans.{Call, sets_up, grants, grants_aligned, resizes_in_place, moves, reports, grants_list}
use Rattle.model.specs.Plans.{plan, totals, fresh_pool}
use Rattle.model.specs.Tables.{arena_right}
use Rattle.model.specs.Calls.{Form, Stands, call_by}
use Rattle.claims.specs.Demand1.{LiveAt}

-- THE MODEL: "Every call steps on that state and its arguments alone". What it answers to calls, and its state after them.
pub record Modelled : Type 0 where
  pub answers : List Answer
  pub pool : Pool

-- A turn of a run: the arena as the engine leaves it, and then a call.
pub record Turn : Type 0 where
  pub arena : List ℕ
  pub asks : Call

-- the calls of a run
abbrev pub calls : List Turn → List Call
calls us = map (λ u. u.asks) us

-- What a run leaves, R being what is lent for the tables.
pub record Ended (R : Type 0) : Type 0 where
  pub answers : List Answer
  pub arena : List ℕ
  pub kept : R

module _ (row : ℕ) where
  unfoldable pub model : Pool → List Call → Modelled
  model P [] = record { answers = []; pool = P }
  model P (c ∷ cs) =
      let p = plan row P c in
      let m = model p.pool cs in
      record { answers = p.answer ∷ m.answers; pool = m.pool }

  -- "The model is fed the lengths of arena and table room": the rows of its first state are the arena's length over the row's. The room's length
  -- is a formula of it (`SetsUpExactly`), so it tells nothing more.
  abbrev pub fed : ℕ → Pool
  fed n = fresh_pool (n / row)

  -- "the set up that made the pool and then the calls"
  abbrev pub model_fresh : ℕ → List Call → Modelled
  model_fresh n cs = model (fed n) (sets_up ∷ cs)

  -- whether byte i is a requested byte of a live block: of a place's, and of a pool's
  abbrev pub covers : ℕ → Place → Bool
  covers i p = is_live p.state && leb (start row p) i && ltb i (start row p + size p.state)

  unfoldable pub requested : Pool → ℕ → Bool
  requested P i = any (covers i) (places P)

  -- two arenas of one length, with the same bytes outside the requested bytes of live blocks
  pub record SameOutside (P : Pool) (a b : List ℕ) : Type 0 where
    pub long : length b ≡ length a
    pub bytes : (i : ℕ) → T (not (requested P i)) → get_or b i 0 ≡ get_or a i 0

  -- "Its requested bytes lie from its start on, as many as the n last accepted for it": byte i is one of the live block of a place
  pub record RequestedByte (P : Pool) (p : Place) (i : ℕ) : Type 0 where
    pub pool : pool_of p ≡ P
    pub live : T (is_live p.state)
    pub from : start row p ≤ i
    pub to : i < start row p + size p.state

  -- the premise admits every store into a requested byte of a live block
  abbrev pub StoresAdmitted : Type 0
  StoresAdmitted = (P : Pool) (a : List ℕ) (p : Place) (i v : ℕ) → RequestedByte P p i → SameOutside P a (set a i v)

  -- and no other: where two such arenas differ, there is a requested byte of a live block
  abbrev pub StoresOnly : Type 0
  StoresOnly = (P : Pool) (a b : List ℕ) (i : ℕ) → SameOutside P a b → (get_or b i 0 ≡ get_or a i 0 → ⊥) → (p : Place) × RequestedByte P p i

  -- the model keeps to the arena that it is fed: after every list of calls its state is one that the arena's tables can have
  abbrev pub ModelStands : Type 0
  ModelStands = (n : ℕ) (cs : List Call) → T (arena_right row n) → Stands row n (model (fed n) cs).pool

  -- the bytes that a block gains in an accepted call that answers r: by a grant all of them, from the start of the handle that it gives; in place those past
  -- its old size; by a move those past its old size in the new place; of a list each entry is a grant
  abbrev pub given : Answer → ℕ
  given r = start_of (get_or r.values 0 0)

  abbrev pub GainsEach : List ℕ → List ℕ → ℕ → Type 0
  GainsEach [] ns i = ⊥
  GainsEach (v ∷ vs) [] i = ⊥
  GainsEach (v ∷ vs) (n ∷ ns) i = ((start_of v ≤ i) × (i < start_of v + n)) ⊎ GainsEach vs ns i

  pub data Gains (P : Pool) : Call → Answer → ℕ → Type 0 where
    gains_grant : {n : ℕ} {r : Answer} {i : ℕ} → given r ≤ i → i < given r + n → Gains P (grants n) r i
    gains_aligned : {n b : ℕ} {r : Answer} {i : ℕ} → given r ≤ i → i < given r + n → Gains P (grants_aligned n b) r i
    gains_in_place : {h n : ℕ} {r : Answer} {i : ℕ} (p : Place) → LiveAt row P (start_of h) p → start row p + size p.state ≤ i → i < start row p + n
        → Gains P (resizes_in_place h n) r i
    gains_move : {h n : ℕ} {r : Answer} {i : ℕ} (p : Place) → LiveAt row P (start_of h) p → given r + size p.state ≤ i → i < given r + n
        → Gains P (moves h n) r i
    gains_list : {total cap places : ℕ} {ns : List ℕ} {r : Answer} {i : ℕ} → GainsEach r.lent ns i → Gains P (grants_list total cap places ns) r i

  -- they are zero when the call ends
  unfoldable pub Cleared : Pool → Call → Answer → List ℕ → Type 0
  Cleared P c r a = r.number ≡ 0 → (i : ℕ) → Gains P c r i → get_or a i 0 ≡ 0

  module _ (F : Form) where
    -- a run: each call is made over the arena as the engine left it, and what is lent for the tables as the last call left it
    unfoldable pub ran : List ℕ → F.Kept → List Turn → Ended F.Kept
    ran a t [] = record { answers = []; arena = a; kept = t }
    ran a t (u ∷ us) =
        let r = call_by row F u.arena t u.asks in
        let e = ran r.arena r.kept us in
        record { answers = r.answer ∷ e.answers; arena = e.arena; kept = e.kept }

    -- a run from a fresh pool: "A fresh pool is what an accepted set up leaves." The set up's answer is the first.
    abbrev pub ran_fresh : List ℕ → F.Kept → List Turn → Ended F.Kept
    ran_fresh a t us =
        let s = call_by row F a t sets_up in
        let e = ran s.arena s.kept us in
        record { answers = s.answer ∷ e.answers; arena = e.arena; kept = e.kept }

    -- the totals after a run: what report gives over what it leaves
    abbrev pub reported : Ended F.Kept → Answer
    reported e = (call_by row F e.arena e.kept reports).answer

    -- "Nothing but the calls and the engine's stores writes": before each call the engine stored into requested bytes of blocks
    -- then live, and nowhere else
    unfoldable pub EngineOnly : Pool → List ℕ → F.Kept → List Turn → Type 0
    EngineOnly P a t [] = Unit {0}
    EngineOnly P a t (u ∷ us) =
        SameOutside P a u.arena
        × EngineOnly (plan row P u.asks).pool (call_by row F u.arena t u.asks).arena (call_by row F u.arena t u.asks).kept us

    unfoldable pub AllCleared : Pool → List ℕ → F.Kept → List Turn → Type 0
    unfolding Cleared
    AllCleared P a t [] = Unit {0}
    AllCleared P a t (u ∷ us) =
        Cleared P u.asks (call_by row F u.arena t u.asks).answer (call_by row F u.arena t u.asks).arena
        × AllCleared (plan row P u.asks).pool (call_by row F u.arena t u.asks).arena (call_by row F u.arena t u.asks).kept us

    -- what one run from a fresh pool shows: the model's answers, the one form of its state, which of the first engine is tables and record
    -- (02 §4: "demand 3 counts it with the tables"), its totals from report, and zeros where a block gains bytes
    pub record AsModelled (a : List ℕ) (t : F.Kept) (us : List Turn) : Type 0 where
      pub answers : (ran_fresh a t us).answers ≡ (model_fresh (length a) (calls us)).answers
      pub tables : (ran_fresh a t us).kept ≡ F.encode (model_fresh (length a) (calls us)).pool
      pub counted : reported (ran_fresh a t us) ≡ done (listed (totals row (model_fresh (length a) (calls us)).pool))
      pub cleared : AllCleared (fed (length a)) (call_by row F a t sets_up).arena (call_by row F a t sets_up).kept us

    -- what two runs show beside one another: equal answers, equal tables and record, equal totals from report, and equal bytes but for the requested
    -- ones of the blocks of P
    pub record SameRuns (P : Pool) (d e : Ended F.Kept) : Type 0 where
      pub answers : d.answers ≡ e.answers
      pub tables : d.kept ≡ e.kept
      pub totals : reported d ≡ reported e
      pub outside : SameOutside P d.arena e.arena

    -- a set up that is done, and then calls between which only the engine writes
    pub record Run (a : List ℕ) (t : F.Kept) (us : List Turn) : Type 0 where
      pub was_set_up : (call_by row F a t sets_up).answer.number ≡ 0
      pub engine-only : EngineOnly (fed (length a)) (call_by row F a t sets_up).arena (call_by row F a t sets_up).kept us

    -- DEMAND 3. Over any arena and room bytes of the right lengths and any record, different in each run; the same list of calls, and any stores
    -- of the engine, different in each.
    abbrev pub SteersNothing : Type 0
    SteersNothing = (a₁ : List ℕ) (t₁ : F.Kept) (a₂ : List ℕ) (t₂ : F.Kept) (us₁ us₂ : List Turn)
        → length a₁ ≡ length a₂ → calls us₁ ≡ calls us₂ → Run a₁ t₁ us₁ → Run a₂ t₂ us₂
        → SameRuns (model_fresh (length a₁) (calls us₁)).pool (ran_fresh a₁ t₁ us₁) (ran_fresh a₂ t₂ us₂) × AsModelled a₁ t₁ us₁ × AsModelled a₂ t₂ us₂
