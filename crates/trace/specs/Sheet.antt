-- Traces with the lines due: one list.
use Rattle.std.specs.Prelude.{ℕ, ◌≡◌, List, [], ◌∷◌, ◌++◌, map}
use Rattle.mem.specs.Bytes.{zeros}
use Rattle.model.specs.Answers.{done}
use Rattle.trace.specs.Trace.{Operation, grant, release, resize_in_place, measure, store, report, move, encode_record, encode_trace}
use Rattle.trace.specs.Replay.{Line, told, bad, replayed}

-- a trace, and its lines
pub record TraceCase : Type 0 where
  pub trace : List ℕ
  pub due : List Line

-- bytes, or operations as the writer puts them, with the lines due
abbrev pub bytes : List ℕ → List Line → TraceCase
bytes s ls = record { trace = s; due = ls }

abbrev pub written : List Operation → List Line → TraceCase
written xs ls = bytes (encode_trace xs) ls

-- a value, or a refusal
abbrev pub gives : ℕ → Line
gives v = told (done (v ∷ []))

abbrev pub refuses : ℕ → Line
refuses k = told (record { number = k; values = 0 ∷ []; lent = [] })

unfoldable pub sheet : List TraceCase
sheet =
    -- "The trace 1 0 5 1 0 0 0 0 prints `0 16`.", which 02 §9 has as version 2; version 1 is bad
    bytes (2 ∷ 0 ∷ 5 ∷ 1 ∷ 0 ∷ 0 ∷ 0 ∷ 0 ∷ []) (gives 16 ∷ [])
    ∷ bytes (1 ∷ 0 ∷ 5 ∷ 1 ∷ 0 ∷ 0 ∷ 0 ∷ 0 ∷ []) (bad 0 ∷ [])
    -- every operation in bytes: the number of its kind, and four-byte numbers, high byte first; 131,051 is 1 255 235
    ∷ bytes (2 ∷ 0 ∷ 5 ∷ 1 ∷ 0 ∷ 0 ∷ 0 ∷ 160 ∷ 0 ∷ 1 ∷ 6 ∷ 0 ∷ 7 ∷ 5 ∷ 0 ∷ 0 ∷ 0 ∷ 16 ∷ 7 ∷ 9 ∷ 0 ∷ 9 ∷ 3 ∷ 0 ∷ 0 ∷ 0 ∷ 16 ∷ 0 ∷ 0 ∷ 0 ∷ 188
    ∷ 0 ∷ 5 ∷ 4 ∷ 0 ∷ 0 ∷ 0 ∷ 16 ∷ 0 ∷ 9 ∷ 7 ∷ 0 ∷ 0 ∷ 0 ∷ 16 ∷ 0 ∷ 0 ∷ 0 ∷ 188 ∷ 0 ∷ 5 ∷ 2 ∷ 0 ∷ 0 ∷ 0 ∷ 208 ∷ 0 ∷ 5 ∷ 1 ∷ 0 ∷ 1 ∷ 255 ∷ 235
    ∷ 0 ∷ 5 ∷ 1 ∷ 0 ∷ 1 ∷ 255 ∷ 236 ∷ [])
    (gives 16 ∷ told (done (1 ∷ 160 ∷ 8 ∷ 24 ∷ 20 ∷ 0 ∷ [])) ∷ gives 0 ∷ gives 16 ∷ gives 188 ∷ gives 208 ∷ gives 0 ∷ refuses 8 ∷ refuses 3 ∷ [])
    -- where a store's bytes go: over a header, and then back as they were
    ∷ bytes (2 ∷ 0 ∷ 5 ∷ 1 ∷ 0 ∷ 0 ∷ 0 ∷ 160 ∷ 0 ∷ 7 ∷ 5 ∷ 0 ∷ 0 ∷ 0 ∷ 12 ∷ 0 ∷ 1 ∷ 0 ∷ 5 ∷ 4 ∷ 0 ∷ 0 ∷ 0 ∷ 16 ∷ 0 ∷ 7 ∷ 5 ∷ 0 ∷ 0 ∷ 0 ∷ 12 ∷ 0 ∷ 160
    ∷ 0 ∷ 5 ∷ 4 ∷ 0 ∷ 0 ∷ 0 ∷ 16 ∷ []) (gives 16 ∷ gives 0 ∷ refuses 6 ∷ gives 0 ∷ gives 160 ∷ [])
    -- no record; "An empty trace, or one over 65,535 bytes"; another version
    ∷ bytes (2 ∷ []) []
    ∷ bytes [] (bad 0 ∷ [])
    ∷ bytes (2 ∷ zeros 65535) (bad 0 ∷ [])
    ∷ bytes (3 ∷ 0 ∷ 1 ∷ 6 ∷ []) (bad 0 ∷ [])
    ∷ bytes (0 ∷ 0 ∷ 1 ∷ 6 ∷ []) (bad 0 ∷ [])
    -- every operation: W7's block with a report, a store, a resize in place, a measure, two releases; then 11, and a move
    ∷ written (grant 160 ∷ report ∷ store 16 (7 ∷ 9 ∷ []) ∷ resize_in_place 16 188 ∷ measure 16 ∷ grant 160 ∷ release 16 ∷ release 16 ∷ report
    ∷ resize_in_place 208 189 ∷ move 208 189 ∷ measure 4112 ∷ [])
    (gives 16 ∷ told (done (1 ∷ 160 ∷ 8 ∷ 24 ∷ 20 ∷ 0 ∷ [])) ∷ gives 0 ∷ gives 16 ∷ gives 188 ∷ gives 208 ∷ gives 0 ∷ refuses 5
    ∷ told (done (1 ∷ 160 ∷ 8 ∷ 24 ∷ 19 ∷ 1 ∷ [])) ∷ refuses 11 ∷ gives 4112 ∷ gives 189 ∷ [])
    -- 02 §7: blocks by their handles, a store by its place in the arena: 17 is a block granted again at 16, and the byte behind its first
    ∷ written (grant 2028 ∷ grant 2028 ∷ release 16 ∷ grant 2028 ∷ store 17 (7 ∷ []) ∷ release 16 ∷ measure 16 ∷ resize_in_place 16 7
    ∷ move 16 7 ∷ measure 17 ∷ release 17 ∷ [])
    (gives 16 ∷ gives 2048 ∷ gives 0 ∷ gives 17 ∷ gives 0 ∷ refuses 10 ∷ refuses 10 ∷ refuses 10 ∷ refuses 10 ∷ gives 2028 ∷ gives 0 ∷ [])
    -- stores may lie anywhere: a wrong header, a wrong guard
    ∷ written (grant 160 ∷ store 13 (1 ∷ []) ∷ release 16 ∷ store 13 (160 ∷ []) ∷ store 199 (1 ∷ []) ∷ measure 16 ∷ [])
    (gives 16 ∷ gives 0 ∷ refuses 6 ∷ gives 0 ∷ gives 0 ∷ refuses 7 ∷ [])
    -- the other refusals
    ∷ written (grant 131052 ∷ grant 131051 ∷ grant 4294967295 ∷ release 4294967295 ∷ []) (refuses 3 ∷ refuses 8 ∷ refuses 3 ∷ refuses 4 ∷ [])
    -- "a store ending past the arena": up to its end, one byte past it, and where the sum is past 2^32; of no bytes at the end and past it
    ∷ written (store 16383 (7 ∷ []) ∷ store 16383 (7 ∷ 8 ∷ []) ∷ report ∷ []) (gives 0 ∷ bad 2 ∷ [])
    ∷ written (store 4294967295 (1 ∷ []) ∷ []) (bad 1 ∷ [])
    ∷ written (store 16384 [] ∷ store 16385 [] ∷ []) (gives 0 ∷ bad 2 ∷ [])
    -- 65,535 bytes are read: one record, whose store is too long for the arena
    ∷ written (store 0 (zeros 65527) ∷ []) (bad 1 ∷ [])
    -- "Any other .. length or operation": no bytes, one too few, one too many, a move of one number, operations 0 and 8; earlier lines stay
    ∷ bytes (2 ∷ 0 ∷ 0 ∷ []) (bad 1 ∷ [])
    ∷ bytes (2 ∷ 0 ∷ 4 ∷ 2 ∷ 0 ∷ 0 ∷ 0 ∷ []) (bad 1 ∷ [])
    ∷ bytes (2 ∷ 0 ∷ 6 ∷ 1 ∷ 0 ∷ 0 ∷ 0 ∷ 0 ∷ 0 ∷ []) (bad 1 ∷ [])
    ∷ bytes (2 ∷ 0 ∷ 5 ∷ 7 ∷ 0 ∷ 0 ∷ 0 ∷ 0 ∷ []) (bad 1 ∷ [])
    ∷ bytes (2 ∷ 0 ∷ 5 ∷ 0 ∷ 0 ∷ 0 ∷ 0 ∷ 0 ∷ []) (bad 1 ∷ [])
    ∷ bytes (encode_trace (grant 0 ∷ []) ++ (0 ∷ 9 ∷ 8 ∷ 0 ∷ 0 ∷ 0 ∷ 0 ∷ 0 ∷ 0 ∷ 0 ∷ 0 ∷ encode_record report)) (gives 16 ∷ bad 2 ∷ [])
    -- "a record cut short": in its length, and behind it
    ∷ bytes (2 ∷ 0 ∷ []) (bad 1 ∷ [])
    ∷ bytes (encode_trace (grant 0 ∷ report ∷ []) ++ (0 ∷ 5 ∷ 1 ∷ 0 ∷ 0 ∷ 0 ∷ []))
    (gives 16 ∷ told (done (1 ∷ 0 ∷ 1 ∷ 31 ∷ 30 ∷ 0 ∷ [])) ∷ bad 3 ∷ [])
    ∷ []

-- one trace that refuses a wrong definition soonest: a store up to the arena's end, a resize in place and a move of 131,072 bytes, a store one byte past
-- the end. It
-- is proved beside the definitions; the whole sheet is proved in `bench`
unfoldable pub sheet_short : List TraceCase
sheet_short =
    bytes (2 ∷ 0 ∷ 6 ∷ 5 ∷ 0 ∷ 0 ∷ 63 ∷ 255 ∷ 7 ∷ 0 ∷ 9 ∷ 3 ∷ 0 ∷ 0 ∷ 0 ∷ 0 ∷ 0 ∷ 2 ∷ 0 ∷ 0 ∷ 0 ∷ 9 ∷ 7 ∷ 0 ∷ 0 ∷ 0 ∷ 0 ∷ 0 ∷ 2 ∷ 0 ∷ 0
    ∷ 0 ∷ 7 ∷ 5 ∷ 0 ∷ 0 ∷ 63 ∷ 255 ∷ 7 ∷ 8 ∷ [])
    (gives 0 ∷ refuses 3 ∷ refuses 3 ∷ bad 4 ∷ [])
    ∷ []

-- the lines of every trace are those due
abbrev pub LinesDue : Type 0
LinesDue = map (λ e. replayed e.trace) sheet ≡ map (λ e. e.due) sheet

abbrev pub ShortDue : Type 0
ShortDue = map (λ e. replayed e.trace) sheet_short ≡ map (λ e. e.due) sheet_short
