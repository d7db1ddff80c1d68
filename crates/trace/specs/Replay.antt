-- What a trace does, over the definitions of the calls: a line for each record (02 §2).
use Rattle.std.specs.Prelude.{ℕ, suc, ◌+◌, ◌/◌, List, [], ◌∷◌, leb, length, Option, None, Some}
use Rattle.mem.specs.Lists.{choose}
use Rattle.mem.specs.Bytes.{zeros, put}
use Rattle.classes.specs.Classes.{row_bytes}
use Rattle.model.specs.declared.Totals.{Totals}
use Rattle.model.specs.Answers.{Answer, done}
use Rattle.model.specs.Plans.{sets_up, grants, releases, resizes_in_place, moves, measures, reports}
use Rattle.model.specs.Tables.{room_bytes}
use Rattle.model.specs.Calls.{KeptBytes, kept_in, EngineOutcome, call}
use Rattle.trace.specs.Trace.{Operation, grant, release, resize_in_place, measure, store, report, move, Item, does, items, trace_right}

-- "The replay program sets up a pool of 16,384 bytes"
abbrev pub arena_bytes : ℕ
arena_bytes = 16384

-- a line: what an answer gives, or that a record is bad, with its number
pub data Line : Type 0 where
  told : Answer → Line
  bad : (number : ℕ) → Line

-- what a record does: the answer that its line tells, none if the record is bad, and what it leaves of arena, tables and record
pub record Effect : Type 0 where
  pub tells : Option Answer
  pub arena : List ℕ
  pub kept : KeptBytes

abbrev pub effect : EngineOutcome → Effect
effect r = record { tells = Some r.answer; arena = r.arena; kept = r.kept }

-- the line of record i, by what it tells
abbrev pub line_of : ℕ → Option Answer → Line
line_of i None = bad i
line_of i (Some r) = told r

-- the lines behind it: a bad record ends the trace
abbrev pub go_on : Option Answer → List Line → List Line
go_on None ls = []
go_on (Some r) ls = ls

abbrev pub line_then : ℕ → Option Answer → List Line → List Line
line_then i x ls = line_of i x ∷ go_on x ls

module _ (row : ℕ) where
  -- "a store prints `0 0`"; "a store ending past the arena" is bad, and stores nothing
  unfoldable pub performed : List ℕ → KeptBytes → Operation → Effect
  performed a t (grant n) = effect (call row a t (grants n))
  performed a t (release o) = effect (call row a t (releases o))
  performed a t (resize_in_place o n) = effect (call row a t (resizes_in_place o n))
  performed a t (measure o) = effect (call row a t (measures o))
  performed a t (store o bs) =
      choose (leb (o + length bs) (length a)) (record { tells = Some (done (0 ∷ [])); arena = put o bs a; kept = t })
      (record { tells = None; arena = a; kept = t })
  performed a t report = effect (call row a t reports)
  performed a t (move o n) = effect (call row a t (moves o n))

  -- the lines of records, the first of which is record i: "prints `bad` and the record's number from 1 .. and ends"
  unfoldable pub lines_from : List ℕ → KeptBytes → ℕ → List Item → List Line
  lines_from a t i [] = []
  lines_from a t i (Item.bad ∷ xs) = Line.bad i ∷ []
  lines_from a t i (does x ∷ xs) = let d = performed a t x in line_then i d.tells (lines_from d.arena d.kept (suc i) xs)

  -- a trace replayed over an arena, a table room and the record, which are set up first. "0 for the version"; "An empty trace, or one over 65,535 bytes,
  -- prints `bad 0` alone."
  unfoldable pub replayed_over : List ℕ → KeptBytes → List ℕ → List Line
  replayed_over a t s =
      let r = call row a t sets_up in
      let ls = lines_from r.arena r.kept 1 (items s) in
      choose (trace_right s) ls (Line.bad 0 ∷ [])

-- the program's record before the set up
abbrev pub no_totals : Totals
no_totals = record { blocks = 0; bytes = 0; held = 0; free = 0; ready = 0; waiting = 0 }

-- THE REPLAY
unfoldable pub replayed : List ℕ → List Line
replayed s = replayed_over row_bytes (zeros arena_bytes) (kept_in (zeros (room_bytes (arena_bytes / row_bytes))) no_totals) s
