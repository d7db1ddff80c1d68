-- The format of a trace, written and read (02 §2).
use Rattle.std.specs.Prelude.{ℕ, zero, suc, ◌+◌, ◌-◌, ◌≤◌, Bool, true, false, ◌&&◌, List, [], ◌∷◌, ◌++◌, eqb, leb, ltb, length, get_or}
use Rattle.mem.specs.Lists.{choose, join}
use Rattle.mem.specs.Bytes.{high, big, part}
use Rattle.trace.specs.declared.Op.{Op}
use Rattle.trace.specs.declared.Op.TheVariants.{Grant, Release, ResizeInPlace, Measure, Store, Report, Move}
use Rattle.trace.specs.declared.Step.{Step}
use Rattle.trace.specs.declared.Step.TheVariants.{Record, Bad, End}

-- "Operations: 1 grant n, 2 release offset, 3 resize offset n, 4 measure offset, 5 store offset and the bytes that follow, 6 report."
-- 02 §9: "Trace operation 3 becomes in place and 7, with the same numbers, is move"
-- 02 §7: "traces (but for a store's offset, still an arena place) .. read handles"
pub data Operation : Type 0 where
  grant : (n : ℕ) → Operation
  release : (handle : ℕ) → Operation
  resize_in_place : (handle n : ℕ) → Operation
  measure : (handle : ℕ) → Operation
  store : (offset : ℕ) (bytes : List ℕ) → Operation
  report : Operation
  move : (handle n : ℕ) → Operation

-- "starts with a version byte"; 02 §9: "becomes 2 and version 1 is `bad 0`"
abbrev pub version : ℕ
version = 2

-- "one over 65,535 bytes" is not read
abbrev pub most_bytes : ℕ
most_bytes = 65535

-- THE WRITER

-- "an operation byte and four-byte big-endian numbers"
unfoldable pub body : Operation → List ℕ
body (grant n) = 1 ∷ high 4 n
body (release o) = 2 ∷ high 4 o
body (resize_in_place o n) = 3 ∷ (high 4 o ++ high 4 n)
body (measure o) = 4 ∷ high 4 o
body (store o bs) = 5 ∷ (high 4 o ++ bs)
body report = 6 ∷ []
body (move o n) = 7 ∷ (high 4 o ++ high 4 n)

-- "each record then has its length first, two bytes big-endian, counting what follows"
unfoldable pub encode_record : Operation → List ℕ
encode_record x = high 2 (length (body x)) ++ body x

-- the version byte, and the records behind it
unfoldable pub encode_trace : List Operation → List ℕ
encode_trace xs = version ∷ join encode_record xs

-- what a record can hold: numbers of four bytes, and as many stored bytes as its length can count
unfoldable pub writable : Operation → Bool
writable (grant n) = ltb n 4294967296
writable (release o) = ltb o 4294967296
writable (resize_in_place o n) = ltb o 4294967296 && ltb n 4294967296
writable (measure o) = ltb o 4294967296
writable (store o bs) = ltb o 4294967296 && leb (length bs) 65530
writable report = true
writable (move o n) = ltb o 4294967296 && ltb n 4294967296

-- THE READER

-- whether a trace has a length and a version that are read
unfoldable pub trace_right : List ℕ → Bool
trace_right s = leb 1 (length s) && leb (length s) most_bytes && eqb (get_or s 0 0) version

-- the number in four bytes of s from a place on
abbrev pub four : List ℕ → ℕ → ℕ
four s p = big (part p 4 s)

-- whether n bytes are right for the operation k
unfoldable pub fits : ℕ → ℕ → Bool
fits k n =
    choose (eqb k 1) (eqb n 5)
    (choose (eqb k 2) (eqb n 5)
    (choose (eqb k 3) (eqb n 9)
    (choose (eqb k 4) (eqb n 5)
    (choose (eqb k 5) (leb 5 n)
    (choose (eqb k 6) (eqb n 1)
    (choose (eqb k 7) (eqb n 9) false))))))

-- the operation k whose n bytes stand from place p on
unfoldable pub op_at : ℕ → List ℕ → ℕ → ℕ → Op
op_at k s p n =
    choose (eqb k 1) (Grant (four s (p + 1)))
    (choose (eqb k 2) (Release (four s (p + 1)))
    (choose (eqb k 3) (ResizeInPlace (four s (p + 1)) (four s (p + 5)))
    (choose (eqb k 4) (Measure (four s (p + 1)))
    (choose (eqb k 5) (Store (four s (p + 1)) (p + 5) (p + n))
    (choose (eqb k 7) (Move (four s (p + 1)) (four s (p + 5)))
    Report)))))

-- the record whose n bytes stand from place p on, with the place after it: "Any other .. length or operation .. bad"
unfoldable pub record_at : List ℕ → ℕ → ℕ → Step
record_at s p n = choose (fits (get_or s p 0) n) (Record (op_at (get_or s p 0) s p n) (p + n)) Bad

-- what stands at a place: the end; a record of as many bytes as the two there say; or what is no record, "a record cut short" too
unfoldable pub step_at : List ℕ → ℕ → Step
step_at s p =
    choose (leb (length s) p) End
    (choose (ltb (length s) (p + 2)) Bad
    (choose (ltb (length s) (p + 2 + big (part p 2 s))) Bad
    (record_at s (p + 2) (big (part p 2 s)))))

-- the bytes of a store lie in a trace of n bytes
abbrev pub Within : Op → ℕ → Type 0
Within (Store o from to) n = (from ≤ to) × (to ≤ n)
Within (Grant n) m = Unit {0}
Within (Release o) m = Unit {0}
Within (ResizeInPlace o n) m = Unit {0}
Within (Measure o) m = Unit {0}
Within Report m = Unit {0}
Within (Move o n) m = Unit {0}

-- an operation with the bytes that it stores, which stand in the trace s
unfoldable pub operation_of : List ℕ → Op → Operation
operation_of s (Grant n) = grant n
operation_of s (Release o) = release o
operation_of s (ResizeInPlace o n) = resize_in_place o n
operation_of s (Measure o) = measure o
operation_of s (Store o from to) = store o (part from (to - from) s)
operation_of s Report = report
operation_of s (Move o n) = move o n

-- what a trace holds: an operation, or what is no record
pub data Item : Type 0 where
  does : Operation → Item
  bad : Item

abbrev pub items_by : List ℕ → (ℕ → List Item) → Step → List Item
items_by s rest (Record op q) = does (operation_of s op) ∷ rest q
items_by s rest Bad = bad ∷ []
items_by s rest End = []

-- the records from place p on, at most k of them, to the end or the first that is bad
unfoldable pub items_from : ℕ → List ℕ → ℕ → List Item
items_from zero s p = []
items_from (suc k) s p = items_by s (items_from k s) (step_at s p)

-- the records behind the version byte: a trace has fewer records than bytes
unfoldable pub items : List ℕ → List Item
items s = items_from (length s) s 1
