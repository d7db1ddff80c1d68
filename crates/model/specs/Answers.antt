-- What the calls give back: the numbers of documents 01 and 02, and the number and values of each answer.
use Rattle.std.specs.Prelude.{ℕ, List, [], ◌∷◌, length, Result, Ok, Err}
use Rattle.model.specs.declared.Refusal.{Refusal}
use Rattle.model.specs.declared.Refusal.TheVariants.{BadArena, Unsound, TooLarge, NoSuchBlock, AlreadyFree, Stale, HeaderDamaged, Overrun, NoRoom}
use Rattle.model.specs.declared.Refusal.TheVariants.{NotInPlace, TooLong, BadProposal, BadAlignment}
use Rattle.model.specs.declared.Totals.{Totals}

-- a number of the table, the values that go with it, and what the call writes to the front of a list that it is lent
pub record Answer : Type 0 where
  pub number : ℕ
  pub values : List ℕ
  pub lent : List ℕ

-- "Numbers given back", but 0, done
abbrev pub number_of : Refusal → ℕ
number_of BadArena = 1
number_of Unsound = 2
number_of TooLarge = 3
number_of NoSuchBlock = 4
number_of AlreadyFree = 5
number_of HeaderDamaged = 6
number_of Overrun = 7
number_of NoRoom = 8
-- 02 §3: "list too long", "bad proposal"
number_of TooLong = 9
number_of BadProposal = 17
-- 02 §6
number_of BadAlignment = 13
-- 02 §7
number_of Stale = 10
-- 02 §9
number_of NotInPlace = 11

abbrev pub done : List ℕ → Answer
done vs = record { number = 0; values = vs; lent = [] }

-- 02 §3: "writes the starts to the front of a lent list .. and gives the number of entries"; 02 §7: "List entries .. read handles"
abbrev pub list_done : List ℕ → Answer
list_done ls = record { number = 0; values = length ls ∷ []; lent = ls }

-- "With a refusal the value is 0 (from report, six zeros)"
abbrev pub refusal : Refusal → Answer
refusal r = record { number = number_of r; values = 0 ∷ []; lent = [] }

abbrev pub report_refusal : Refusal → Answer
report_refusal r = record { number = number_of r; values = 0 ∷ 0 ∷ 0 ∷ 0 ∷ 0 ∷ 0 ∷ []; lent = [] }

-- "Report gives, in this order: live blocks, their requested bytes, rows held, rows free, ready slots, waiting slots"
abbrev pub listed : Totals → List ℕ
listed t = t.blocks ∷ t.bytes ∷ t.held ∷ t.free ∷ t.ready ∷ t.waiting ∷ []

-- the answers of the code as numbers and values
abbrev pub reply_answer : Result ℕ Refusal → Answer
reply_answer (Ok v) = done (v ∷ [])
reply_answer (Err r) = refusal r

abbrev pub report_answer : Result Totals Refusal → Answer
report_answer (Ok t) = done (listed t)
report_answer (Err r) = report_refusal r
