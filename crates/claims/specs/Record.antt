-- The record beside the tables (02 §4): "brought up to date in place by every call", and compared with the totals counted from the tables, so
-- that a flipped bit of what is counted is found.
use Rattle.std.specs.Prelude.{ℕ, ◌+◌, ◌*◌, ◌-◌, ◌/◌, ◌%◌, ◌^◌, ◌<◌, ◌≡◌, ◌↔◌, List, T, eqb, length, get_or, set}
use Rattle.mem.specs.Lists.{choose}
use Rattle.model.specs.Answers.{done, listed}
use Rattle.model.specs.Plans.{Call, sets_up, reports, totals}
use Rattle.model.specs.Tables.{row_at, ready_at, slots_at, slot_record_bytes, size_at, most_slots, view, sound}
use Rattle.model.specs.Calls.{KeptBytes, kept_in, engine, sound_kept, set_up, set_up_right, call}
use Rattle.claims.specs.History.{Asked, opening, books_after}

-- a byte with bit b the other way: 2^b more where the bit is 0, less where it is 1
unfoldable pub flip : ℕ → ℕ → ℕ
flip b x = choose (eqb (x / 2 ^ b % 2) 0) (x + 2 ^ b) (x - 2 ^ b)

-- the room with bit b of byte p the other way
abbrev pub flipped : ℕ → ℕ → List ℕ → List ℕ
flipped p b t = set t p (flip b (get_or t p 0))

-- byte p of the room is one of what totals are counted from in row i: of the ready mask and the waiting mask behind it, 8 bytes, or of the
-- requested size of slot j, 3 bytes
pub data CountedByte (i p : ℕ) : Type 0 where
  masks : (k : ℕ) → k < 8 → p ≡ row_at i + ready_at + k → CountedByte i p
  sizes : (j k : ℕ) → j < most_slots → k < 3 → p ≡ row_at i + slots_at + slot_record_bytes * j + size_at + k → CountedByte i p

module _ (row : ℕ) where
  -- "Soundness gains a rule: the stored totals equal those counted from the tables": one rule more, and no other change
  abbrev pub SoundExactly : Type 0
  SoundExactly = (n : ℕ) (t : KeptBytes)
      → T (sound_kept row n t) ↔ (T (sound row n t.tables) × (t.totals ≡ totals row (view row t.tables)))

  -- "Set up writes the record": no total but the rows, which are free
  abbrev pub RecordsFresh : Type 0
  RecordsFresh = (a : List ℕ) (t : KeptBytes) → (call row a t sets_up).answer.number ≡ 0
      → (call row a t sets_up).kept.totals ≡ record { blocks = 0; bytes = 0; held = 0; free = length a / row; ready = 0; waiting = 0 }

  -- "report reads it": what it gives is the record
  abbrev pub ReportsRecord : Type 0
  ReportsRecord = (a : List ℕ) (t : KeptBytes) → T (sound_kept row (length a) t) → (call row a t reports).answer ≡ done (listed t.totals)

  -- the history is the record's: it holds the totals that report gives after whatever calls
  abbrev pub HistoryRecorded : Type 0
  HistoryRecorded = (a : List ℕ) (t : KeptBytes) (cs : List Asked) (b : List ℕ) → T (set_up_right row a t) → length b ≡ length a
      → let r = (books_after row (engine row) opening (set_up row a t).kept cs).kept in (call row b r reports).answer ≡ done (listed r.totals)

  -- a call that is done leaves the totals of the tables that it leaves
  abbrev pub KeepsRecord : Type 0
  KeepsRecord = (a : List ℕ) (t : KeptBytes) (c : Call) → (call row a t c).answer.number ≡ 0
      → (call row a t c).kept.totals ≡ totals row (view row (call row a t c).kept.tables)

  -- "a flipped table bit that passed as sound": one bit of a mask or of a requested size flipped in a group's first row i, whose first byte is
  -- 1, with the record as it was, is answer 2 from every call but set up
  abbrev pub FlipsRefused : Type 0
  FlipsRefused = (a : List ℕ) (t : KeptBytes) (i p b : ℕ) (c : Call)
      → T (sound_kept row (length a) t) → get_or t.tables (row_at i) 0 ≡ 1 → CountedByte i p → b < 8 → (c ≡ sets_up → ⊥)
      → (call row a (kept_in (flipped p b t.tables) t.totals) c).answer.number ≡ 2
