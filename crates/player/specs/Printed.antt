-- The text that a replay prints (02 §2).
use Rattle.std.specs.Prelude.{ℕ, List}
use Rattle.mem.specs.Lists.{join}
use Rattle.classes.specs.Classes.{row_bytes}
use Rattle.model.specs.Calls.{KeptBytes}
use Rattle.trace.specs.Trace.{items}
use Rattle.trace.specs.Replay.{Line, lines_from, replayed_over}
use Rattle.line_text.specs.Lines.{line_text}

unfoldable pub lines_text : List Line → List ℕ
lines_text ls = join line_text ls

-- what a replay prints over an arena, a table room and the record
unfoldable pub printed : List ℕ → KeptBytes → List ℕ → List ℕ
printed a t s = lines_text (replayed_over row_bytes a t s)

-- the part of it that records make, over a pool that was set up
unfoldable pub played_text : List ℕ → KeptBytes → List ℕ → List ℕ
played_text a t s = lines_text (lines_from row_bytes a t 1 (items s))
