-- Replay (02 §2): "Stores may lie anywhere, so demand 3 covers only traces whose stores keep its premise." The lines of such a trace are the
-- model's, and do not depend on the bytes that it stores.
use Rattle.std.specs.Prelude.{ℕ, suc, ◌+◌, ◌≤◌, ◌<◌, ◌≡◌, List, [], ◌∷◌, map, T, leb, length, Option, None, Some}
use Rattle.mem.specs.Lists.{choose}
use Rattle.mem.specs.Bytes.{zeros}
use Rattle.classes.specs.Classes.{row_bytes}
use Rattle.model.specs.State.{Pool}
use Rattle.model.specs.Answers.{Answer, done}
use Rattle.model.specs.Plans.{Plan, grants, releases, resizes_in_place, moves, measures, reports, plan}
use Rattle.model.specs.Calls.{KeptBytes, set_up_right}
use Rattle.trace.specs.Trace.{Operation, grant, release, resize_in_place, measure, store, report, move, Item, does, items, trace_right}
use Rattle.trace.specs.Replay.{arena_bytes, Line, line_then, replayed_over, replayed}
use Rattle.claims.specs.Demand3.{fed, requested}

-- a record without the bytes that it stores: as many zeros stand for them
abbrev pub blank : Item → Item
blank (does (grant n)) = does (grant n)
blank (does (release h)) = does (release h)
blank (does (resize_in_place h n)) = does (resize_in_place h n)
blank (does (measure h)) = does (measure h)
blank (does (store o bs)) = does (store o (zeros (length bs)))
blank (does report) = does report
blank (does (move h n)) = does (move h n)
blank Item.bad = Item.bad

-- two traces with the same records, but for the bytes that they store
pub record AlikeButStores (r s : List ℕ) : Type 0 where
  pub read : trace_right r ≡ trace_right s
  pub records : map blank (items r) ≡ map blank (items s)

-- what the model does with a record: the answer that its line tells, none if the record is bad, and its state
pub record Stepped : Type 0 where
  pub tells : Option Answer
  pub pool : Pool

abbrev pub stepped : Plan → Stepped
stepped p = record { tells = Some p.answer; pool = p.pool }

-- a record that does not end the trace: a store that ends in an arena of n bytes, or any other
abbrev pub GoesOn : ℕ → Operation → Type 0
GoesOn n (grant k) = Unit {0}
GoesOn n (release h) = Unit {0}
GoesOn n (resize_in_place h k) = Unit {0}
GoesOn n (measure h) = Unit {0}
GoesOn n (store o bs) = o + length bs ≤ n
GoesOn n report = Unit {0}
GoesOn n (move h k) = Unit {0}

module _ (row : ℕ) where
  -- in an arena of n bytes; of the bytes that are stored it is told how many they are
  unfoldable pub model_step : ℕ → Pool → Operation → Stepped
  model_step n P (grant k) = stepped (plan row P (grants k))
  model_step n P (release h) = stepped (plan row P (releases h))
  model_step n P (resize_in_place h k) = stepped (plan row P (resizes_in_place h k))
  model_step n P (measure h) = stepped (plan row P (measures h))
  model_step n P (store o bs) =
      choose (leb (o + length bs) n) (record { tells = Some (done (0 ∷ [])); pool = P }) (record { tells = None; pool = P })
  model_step n P report = stepped (plan row P reports)
  model_step n P (move h k) = stepped (plan row P (moves h k))

  -- the model's lines, the first for record i
  unfoldable pub model_lines : ℕ → Pool → ℕ → List Item → List Line
  model_lines n P i [] = []
  model_lines n P i (Item.bad ∷ xs) = Line.bad i ∷ []
  model_lines n P i (does x ∷ xs) = let d = model_step n P x in line_then i d.tells (model_lines n d.pool (suc i) xs)

  -- the bytes of a store are requested bytes of live blocks
  abbrev pub StoresRequested : Pool → Operation → Type 0
  StoresRequested P (grant k) = Unit {0}
  StoresRequested P (release h) = Unit {0}
  StoresRequested P (resize_in_place h k) = Unit {0}
  StoresRequested P (measure h) = Unit {0}
  StoresRequested P (store o bs) = (i : ℕ) → o ≤ i → i < o + length bs → T (requested row P i)
  StoresRequested P report = Unit {0}
  StoresRequested P (move h k) = Unit {0}

  -- and so are those of every store of a trace. A store that ends past the arena stores nothing and ends the trace, so nothing is asked of it, nor
  -- of what stands behind it
  unfoldable pub StoresInside : ℕ → Pool → List Item → Type 0
  StoresInside n P [] = Unit {0}
  StoresInside n P (Item.bad ∷ xs) = Unit {0}
  StoresInside n P (does x ∷ xs) = GoesOn n x → StoresRequested P x × StoresInside n (model_step n P x).pool xs

  -- so it is, of a store that ends past the arena, whatever stands behind it
  abbrev pub PastAsksNothing : Type 0
  PastAsksNothing = (n : ℕ) (P : Pool) (o : ℕ) (bs : List ℕ) (xs : List Item) → n < o + length bs → StoresInside n P (does (store o bs) ∷ xs)

  -- over any arena and room bytes of the right lengths, and any record, the lines are the model's
  abbrev pub LinesModelled : Type 0
  LinesModelled = (a : List ℕ) (t : KeptBytes) (s : List ℕ) → T (set_up_right row a t) → StoresInside (length a) (fed row (length a)) (items s)
      → replayed_over row a t s ≡ choose (trace_right s) (model_lines (length a) (fed row (length a)) 1 (items s)) (Line.bad 0 ∷ [])

  -- THE CLAIM: two traces alike but for the bytes that they store give the same lines
  abbrev pub StoresSteerNothing : Type 0
  StoresSteerNothing = (a₁ : List ℕ) (t₁ : KeptBytes) (a₂ : List ℕ) (t₂ : KeptBytes) (s₁ s₂ : List ℕ) → T (set_up_right row a₁ t₁) → T (set_up_right row a₂ t₂)
      → length a₁ ≡ length a₂
      → AlikeButStores s₁ s₂ → StoresInside (length a₁) (fed row (length a₁)) (items s₁)
      → replayed_over row a₁ t₁ s₁ ≡ replayed_over row a₂ t₂ s₂

-- and so the replay's own lines
abbrev pub ReplaySteersNothing : Type 0
ReplaySteersNothing = (s₁ s₂ : List ℕ) → AlikeButStores s₁ s₂ → StoresInside row_bytes arena_bytes (fed row_bytes arena_bytes) (items s₁)
    → replayed s₁ ≡ replayed s₂
