-- The text of a line (02 §2).
use Rattle.std.specs.Prelude.{ℕ, ◌≤◌, Bool, true, false, List, [], ◌∷◌, ◌++◌, length, Option, None, Some}
use Rattle.mem.specs.Lists.{join}
use Rattle.model.specs.Answers.{Answer, reply_answer, report_answer}
use Rattle.text.specs.Decimal.{decimal}
use Rattle.trace.specs.Replay.{Line, told, bad}
use Rattle.line_text.specs.declared.Said.{Said}
use Rattle.line_text.specs.declared.Said.TheVariants.{One, Six, Bad}

-- a space and a number
unfoldable pub field : ℕ → List ℕ
field n = 32 ∷ decimal n

-- "the answer number, a space and the value, in decimal, one line each; a report prints its six numbers after the 0"; "prints `bad` and the
-- record's number". A line ends in a newline.
unfoldable pub line_text : Line → List ℕ
line_text (told r) = decimal r.number ++ (join field r.values ++ (10 ∷ []))
line_text (bad k) = (98 ∷ 97 ∷ 100 ∷ []) ++ (field k ++ (10 ∷ []))

-- the answer that the code tells, none where the record is bad
abbrev pub answer_of : Said → Option Answer
answer_of (One r) = Some (reply_answer r)
answer_of (Six r) = Some (report_answer r)
answer_of Bad = None

-- a bad record is the last
abbrev pub is_bad : Option Answer → Bool
is_bad None = true
is_bad (Some r) = false

-- the line of what is told is no longer than the loop has room for: only a report's depends on its numbers
abbrev pub Short : Said → Type 0
Short (One r) = Unit {0}
Short (Six r) = length (line_text (told (report_answer r))) ≤ 45
Short Bad = Unit {0}
