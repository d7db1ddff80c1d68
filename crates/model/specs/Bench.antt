-- The bench sheet of document 01, W4 and W5 apart, with the facts under it and what document 02 adds: one list, and how a line of it is read
-- over arena and table room.
use Rattle.std.specs.Prelude.{ℕ, zero, suc, ◌+◌, ◌/◌, ◌%◌, Bool, true, false, ◌&&◌, List, [], ◌∷◌, ◌++◌, eqb, length, replicate, set}
use Rattle.mem.specs.Lists.{choose}
use Rattle.mem.specs.Bytes.{zeros, bit, same, part, put}
use Rattle.classes.specs.Classes.{row_bytes, slots_of, rows_of, class_of}
use Rattle.model.specs.declared.Slot.{Slot}
use Rattle.model.specs.declared.Slot.TheVariants.{Fresh, Idle, Live}
use Rattle.model.specs.Plans.{Call, sets_up, grants, grants_aligned, releases, resizes_in_place, moves, measures, reports, grants_list}
use Rattle.model.specs.Proposals.{accepts, planned}
use Rattle.model.specs.Tables.{room_bytes, room_for, slot_record}
use Rattle.model.specs.declared.Totals.{Totals}
use Rattle.model.specs.Calls.{KeptBytes, kept_in, same_totals, call, set_up}

-- a line of the sheet: a call with the number and values due; a list call that is done, with its value and the lent list before and after
-- it; a call that is refused and leaves every byte of arena and tables and the record, and writes nothing to a lent list; bytes due from a
-- place on, or a store into the arena; the record's numbers due, or a record put in its place; bytes due in the table room from a place on, or a
-- store into it
pub data Line : Type 0 where
  asks : Call → (number : ℕ) (values : List ℕ) → Line
  lists : Call → (value : ℕ) (before after : List ℕ) → Line
  leaves : Call → (number : ℕ) → Line
  shows : (at : ℕ) → List ℕ → Line
  stores : (at byte : ℕ) → Line
  holds : Totals → Line
  writes : Totals → Line
  tables : (at : ℕ) → List ℕ → Line
  spoils : (at byte : ℕ) → Line

-- an entry of the sheet: lines over a fresh pool of some arena length, what set up answers over arena and room of some lengths, an arena's length
-- with its room's, which is 0 if there is none, a slot with the bytes of its record, a size with its class, a class with the slots and rows of its
-- groups, a proposal with 1 if the check accepts it, or what the planner answers and proposes
pub data Entry : Type 0 where
  fresh : (arena : ℕ) → List Line → Entry
  sets : (arena room number : ℕ) → Entry
  rooms : (arena room : ℕ) → Entry
  keeps : Slot → List ℕ → Entry
  class : (n c : ℕ) → Entry
  groups : (c slots rows : ℕ) → Entry
  checks : (total cap : ℕ) (sizes : List ℕ) (accepted : ℕ) → Entry
  plans : (total cap number : ℕ) (sizes : List ℕ) → Entry

-- a call that gives one value, and one that is refused
abbrev pub gives : Call → ℕ → Line
gives c v = asks c 0 (v ∷ [])

abbrev pub refuses : Call → ℕ → Line
refuses c k = asks c k (0 ∷ [])

abbrev pub bytes4 : ℕ → ℕ → ℕ → ℕ → List ℕ
bytes4 a b c d = a ∷ b ∷ c ∷ d ∷ []

abbrev pub bytes8 : ℕ → ℕ → ℕ → ℕ → ℕ → ℕ → ℕ → ℕ → List ℕ
bytes8 a b c d e f g h = a ∷ b ∷ c ∷ d ∷ e ∷ f ∷ g ∷ h ∷ []

-- n grants of 160 bytes, the first at a place, each 192 bytes after the one before
abbrev pub grants160 : ℕ → ℕ → List Line
grants160 zero at = []
grants160 (suc n) at = gives (grants 160) at ∷ grants160 n (at + 192)

-- the six totals: live blocks, their bytes, rows held, rows free, ready slots, waiting slots
abbrev pub six : ℕ → ℕ → ℕ → ℕ → ℕ → ℕ → Totals
six b n h f r w = record { blocks = b; bytes = n; held = h; free = f; ready = r; waiting = w }

-- k entries of one byte
abbrev pub ones : ℕ → List ℕ
ones k = replicate k 1

-- the sheet of document 01, and what 02 §1 to §4 add
unfoldable pub sheet01 : List Entry
sheet01 =
    -- W1, W2
    fresh 512 (gives (grants 0) 16 ∷ shows 12 (bytes4 0 160 0 0) ∷ shows 24 (bytes4 12 0 0 0)
    ∷ gives (grants 12) 32 ∷ shows 28 (bytes4 0 1 1 0) ∷ [])
    -- W3, W6
    ∷ fresh 512 (refuses (grants 13) 8 ∷ refuses (grants 131052) 3 ∷ [])
    -- W7
    ∷ fresh 4096 (gives (grants 160) 16 ∷ gives (grants 160) 208 ∷ gives (releases 16) 0 ∷ gives (grants 160) 400 ∷ [])
    -- W8, W9; 02 §7: "W8 now gives 33, W9 answers 10 for 32 and 4 for 16."
    -- The displaced block has nothing but zeros before its header. "In place if n is at most s − 4 − 16d": it has room for 172 bytes, and not for 173;
    -- a move has none, to the same n either
    ∷ fresh 4096 (grants160 21 16 ++ (gives (releases 16) 0 ∷ gives (grants 160) 33 ∷ shows 12 (zeros 16) ∷ shows 28 (bytes4 0 160 1 0)
    ∷ shows 200 (bytes4 12 0 0 0) ∷ refuses (releases 32) 10 ∷ refuses (releases 16) 4 ∷ gives (resizes_in_place 33 172) 33
    ∷ leaves (resizes_in_place 33 173) 11 ∷ leaves (moves 33 173) 8 ∷ leaves (moves 33 172) 8 ∷ []))
    -- "d is the slot's count modulo (t + 1)": the third grant of a slot is not displaced. A refill keeps last starts: the slot that starts at 224
    -- answers 5 there once it waits, and once it is ready
    ∷ fresh 4096 (grants160 21 16 ++ (gives (releases 16) 0 ∷ gives (releases 208) 0 ∷ gives (grants 160) 33 ∷ gives (grants 160) 225
    ∷ gives (releases 33) 0 ∷ gives (releases 225) 0 ∷ refuses (releases 225) 5 ∷ gives (grants 160) 18 ∷ refuses (releases 225) 5
    ∷ refuses (releases 208) 4 ∷ []))
    -- "Of the groups of n's class with a slot not live, take the one with the lowest first row": its slot waits, and another group has a ready one
    ∷ fresh 8192 (gives (grants 2028) 16 ∷ gives (grants 2028) 2048 ∷ gives (grants 2028) 4112 ∷ gives (releases 16) 0 ∷ gives (grants 2028) 17 ∷ [])
    -- W10
    ∷ fresh 4096 (gives (grants 160) 16 ∷ gives (grants 160) 208 ∷ gives (releases 16) 0 ∷ refuses (releases 16) 5 ∷ [])
    -- W11; "all its rows become zero", whatever was stored in them
    ∷ fresh 4096 (gives (grants 160) 16 ∷ stores 0 7 ∷ stores 1000 8 ∷ stores 4095 9 ∷ gives (releases 16) 0 ∷ refuses (releases 16) 4 ∷ shows 0 (0 ∷ [])
    ∷ shows 1000 (0 ∷ []) ∷ shows 4095 (0 ∷ []) ∷ [])
    -- W12, which 02 §9 has in place: the guard of 160 bytes is gone from the block that grew, and that of 141 is there
    ∷ fresh 4096 (gives (grants 160) 16 ∷ shows 200 (bytes4 28 0 0 0) ∷ gives (resizes_in_place 16 188) 16
    ∷ shows 200 (bytes4 0 0 0 0) ∷ gives (resizes_in_place 16 141) 16 ∷ shows 200 (bytes4 47 0 0 0) ∷ [])
    -- W13, which 02 §9 has by a move
    ∷ fresh 4096 (gives (grants 160) 16 ∷ refuses (moves 16 189) 8 ∷ [])
    ∷ fresh 8192 (gives (grants 160) 16 ∷ gives (moves 16 189) 4112 ∷ [])
    -- "Class 0: 31 slots, 1 row. Class 10: 21 slots, 8 rows. Class 47: 1 slot, 256 rows."
    ∷ groups 0 31 1 ∷ groups 10 21 8 ∷ groups 47 1 256
    -- "Size 156 is class 9, 157 class 10. From 160 in class 10, resize to 140 must move (class 8)."
    ∷ class 156 9 ∷ class 157 10 ∷ class 160 10 ∷ class 140 8
    ∷ fresh 8192 (gives (grants 160) 16 ∷ leaves (resizes_in_place 16 140) 11 ∷ gives (moves 16 140) 4112 ∷ gives (measures 4112) 140
    ∷ refuses (measures 16) 4 ∷ [])
    -- 02 §9: "one call that only changes in place": to the same n, which clears what was stored in spare bytes. "another that always moves": to the same n,
    -- and where in place would do
    ∷ fresh 4096 (gives (grants 160) 16 ∷ stores 16 7 ∷ stores 198 9 ∷ gives (resizes_in_place 16 160) 16 ∷ shows 16 (7 ∷ []) ∷ shows 198 (0 ∷ [])
    ∷ leaves (resizes_in_place 16 189) 11 ∷ gives (moves 16 160) 208 ∷ shows 208 (7 ∷ []) ∷ shows 16 (0 ∷ []) ∷ refuses (measures 16) 5
    ∷ gives (moves 208 188) 400 ∷ shows 400 (7 ∷ []) ∷ gives (measures 400) 188 ∷ refuses (measures 208) 5 ∷ [])
    -- "A wrong header and a wrong guard: answer 6." The first spare byte too. Neither has a size that is not in place, or has no room, another answer
    ∷ fresh 4096 (gives (grants 160) 16 ∷ stores 13 1 ∷ stores 203 1 ∷ refuses (releases 16) 6 ∷ refuses (measures 16) 6
    ∷ refuses (resizes_in_place 16 7) 6 ∷ refuses (moves 16 189) 6 ∷ stores 176 1 ∷ refuses (releases 16) 6 ∷ refuses (measures 16) 6
    ∷ refuses (resizes_in_place 16 160) 6 ∷ refuses (moves 16 160) 6 ∷ [])
    -- "In W7's first block a store of 1 at byte 199 makes release answer 7; at byte 198 release is done." What release
    -- leaves of the block is zero, the guard too. 02 §1: "a 1 at byte 176 now gives 7."
    ∷ fresh 4096 (gives (grants 160) 16 ∷ gives (grants 160) 208 ∷ stores 176 1 ∷ refuses (measures 16) 7 ∷ refuses (releases 16) 7
    ∷ refuses (resizes_in_place 16 188) 7 ∷ refuses (resizes_in_place 16 189) 7 ∷ refuses (moves 16 189) 7 ∷ stores 176 0 ∷ stores 199 1 ∷ refuses (measures 16) 7
    ∷ refuses (releases 16) 7
    ∷ stores 199 0 ∷ stores 198 1 ∷ gives (releases 16) 0 ∷ shows 196 (bytes4 0 0 0 0) ∷ shows 200 (bytes4 0 0 0 0)
    ∷ asks reports 0 (1 ∷ 160 ∷ 8 ∷ 0 ∷ 19 ∷ 1 ∷ []) ∷ [])
    -- 02 §1: "one byte too many into a block with three spare bytes"; the other two are not compared
    ∷ fresh 4096 (gives (grants 185) 16 ∷ shows 12 (bytes4 0 96 0 0) ∷ stores 201 1 ∷ refuses (measures 16) 7 ∷ refuses (releases 16) 7
    ∷ stores 201 0 ∷ stores 202 1 ∷ stores 203 1 ∷ gives (measures 16) 185 ∷ gives (releases 16) 0 ∷ [])
    -- five spare bytes, whose first is the guard's; one; and none, where the byte past the end is the next header's first
    ∷ fresh 4096 (gives (grants 183) 16 ∷ stores 199 1 ∷ refuses (releases 16) 7 ∷ [])
    ∷ fresh 4096 (gives (grants 187) 16 ∷ shows 12 (bytes4 0 32 0 0) ∷ stores 203 1 ∷ refuses (measures 16) 7 ∷ refuses (releases 16) 7 ∷ [])
    ∷ fresh 4096 (gives (grants 188) 16 ∷ gives (grants 188) 208 ∷ stores 204 1 ∷ gives (measures 16) 188 ∷ refuses (measures 208) 6
    ∷ gives (releases 16) 0 ∷ [])
    -- no requested bytes: the start is the byte right after them
    ∷ fresh 512 (gives (grants 0) 16 ∷ stores 16 1 ∷ refuses (measures 16) 7 ∷ refuses (releases 16) 7 ∷ refuses (resizes_in_place 16 1) 7
    ∷ refuses (moves 16 1) 7 ∷ [])
    -- the byte moves with the size
    ∷ fresh 4096 (gives (grants 160) 16 ∷ gives (resizes_in_place 16 141) 16 ∷ stores 157 1 ∷ refuses (measures 16) 7 ∷ stores 157 0 ∷ stores 176 1
    ∷ gives (measures 16) 141 ∷ [])
    -- "Offset 0 is never a start."
    ∷ fresh 512 (gives (grants 0) 16 ∷ refuses (releases 0) 4 ∷ refuses (measures 0) 4 ∷ refuses (resizes_in_place 0 0) 4
    ∷ refuses (moves 0 0) 4 ∷ [])
    -- "the first bytes, as many as the lesser of old and new n, stay, all from there to the end become zero": a block that grows, then
    -- shrinks, where it is
    ∷ fresh 4096 (gives (grants 160) 16 ∷ stores 16 7 ∷ stores 175 9 ∷ gives (resizes_in_place 16 188) 16 ∷ shows 16 (7 ∷ [])
    ∷ shows 175 (9 ∷ 0 ∷ []) ∷ stores 156 5 ∷ stores 157 6 ∷ gives (resizes_in_place 16 141) 16 ∷ shows 16 (7 ∷ []) ∷ shows 156 (5 ∷ 0 ∷ [])
    ∷ gives (measures 16) 141 ∷ [])
    -- "that many bytes are copied, then the old is released": a block that grows by a move, and one that shrinks by a move
    ∷ fresh 8192 (gives (grants 160) 16 ∷ stores 16 7 ∷ stores 175 9 ∷ gives (moves 16 189) 4112 ∷ shows 4112 (7 ∷ []) ∷ shows 4271 (9 ∷ zeros 29)
    ∷ shows 16 (0 ∷ []) ∷ shows 175 (0 ∷ []) ∷ [])
    ∷ fresh 8192 (gives (grants 160) 16 ∷ stores 16 7 ∷ stores 155 5 ∷ stores 156 6 ∷ gives (moves 16 140) 4112 ∷ shows 4112 (7 ∷ [])
    ∷ shows 4251 (5 ∷ 0 ∷ []) ∷ shows 155 (0 ∷ 0 ∷ []) ∷ [])
    -- 02 §3, the check: any proposal of at most 17 sizes, each from 1 to the cap, whose sum is L; "L = 0 is the empty list"
    ∷ checks 100 40 (40 ∷ 20 ∷ 40 ∷ []) 1 ∷ checks 17 1 (ones 17) 1 ∷ checks 131051 131051 (131051 ∷ []) 1 ∷ checks 0 1 [] 1
    ∷ checks 18 2 (ones 18) 0 ∷ checks 40 40 (40 ∷ 0 ∷ []) 0 ∷ checks 41 40 (41 ∷ []) 0 ∷ checks 99 40 (40 ∷ 20 ∷ 40 ∷ []) 0 ∷ checks 0 40 (0 ∷ []) 0
    ∷ checks 1 40 [] 0 ∷ checks 0 0 [] 0 ∷ checks 1 131052 (1 ∷ []) 0
    -- the planner: full caps, then the rest; 9 where L exceeds 17 times the cap, or the cap is out of its range
    ∷ plans 100 40 0 (40 ∷ 40 ∷ 20 ∷ []) ∷ plans 80 40 0 (40 ∷ 40 ∷ []) ∷ plans 0 1 0 [] ∷ plans 17 1 0 (ones 17)
    ∷ plans 2227867 131051 0 (replicate 17 131051)
    ∷ plans 18 1 9 [] ∷ plans 2227868 131051 9 [] ∷ plans 0 0 9 [] ∷ plans 1 131052 9 []
    -- the list call: an accepted list of mixed classes, and a lent list of 20 places, whose later ones stay
    ∷ fresh 4096 (lists (grants_list 44 30 20 (1 ∷ 13 ∷ 30 ∷ [])) 3 (replicate 20 7) (16 ∷ 528 ∷ 1552 ∷ replicate 17 7)
    ∷ gives (measures 16) 1 ∷ gives (measures 528) 13 ∷ gives (measures 1552) 30 ∷ asks reports 0 (3 ∷ 44 ∷ 6 ∷ 2 ∷ 90 ∷ 0 ∷ []) ∷ [])
    -- "L = 0 is the empty list"
    ∷ fresh 512 (lists (grants_list 0 131051 17 []) 0 (replicate 17 7) (replicate 17 7) ∷ asks reports 0 (0 ∷ 0 ∷ 0 ∷ 1 ∷ 0 ∷ 0 ∷ []) ∷ [])
    -- "answer 8 exactly if granting the accepted sizes in order would meet it": here the last meets it, after a refill and a new group.
    -- "A refused list leaves arena, tables and lent list unchanged, use counts included."
    ∷ fresh 8192 (grants160 21 16 ++ (gives (releases 16) 0 ∷ leaves (grants_list 373 200 17 (160 ∷ 13 ∷ 200 ∷ [])) 8
    ∷ lists (grants_list 173 200 17 (160 ∷ 13 ∷ [])) 2 (replicate 17 7) (33 ∷ 4112 ∷ replicate 15 7) ∷ []))
    -- "Answer 9, list too long, is given exactly if L exceeds 17 times the cap, or the cap is out of its range, or the lent list has fewer
    -- than 17 places", and comes before 17
    ∷ fresh 512 (leaves (grants_list 18 1 17 (ones 17)) 9 ∷ leaves (grants_list 0 0 17 []) 9 ∷ leaves (grants_list 1 131052 17 (1 ∷ [])) 9
    ∷ leaves (grants_list 1 1 16 (1 ∷ [])) 9 ∷ leaves (grants_list 0 1 16 []) 9 ∷ [])
    -- "Answer 17, bad proposal, exactly if the check refuses it", and before 8
    ∷ fresh 512 (leaves (grants_list 18 2 17 (ones 18)) 17 ∷ leaves (grants_list 1 1 17 (1 ∷ 0 ∷ [])) 17 ∷ leaves (grants_list 13 12 17 (13 ∷ [])) 17
    ∷ leaves (grants_list 14 14 17 (13 ∷ [])) 17 ∷ leaves (grants_list 13 13 17 (13 ∷ [])) 8 ∷ [])
    -- 02 §4: "kept in one small record beside the tables, brought up to date in place by every call, lists included": a full group, two releases,
    -- a refill, a resize in place, a move into a new group, which goes again, a list
    ∷ fresh 8192 (holds (six 0 0 0 16 0 0) ∷ grants160 21 16 ++ (holds (six 21 3360 8 8 0 0) ∷ gives (releases 16) 0 ∷ gives (releases 208) 0
    ∷ holds (six 19 3040 8 8 0 2) ∷ gives (grants 160) 33 ∷ holds (six 20 3200 8 8 1 0) ∷ gives (resizes_in_place 33 150) 33
    ∷ holds (six 20 3190 8 8 1 0) ∷ gives (moves 33 13) 4112 ∷ holds (six 20 3053 10 6 31 1) ∷ gives (releases 4112) 0
    ∷ holds (six 19 3040 8 8 1 1) ∷ lists (grants_list 14 13 17 (13 ∷ 1 ∷ [])) 2 (replicate 17 7) (4112 ∷ 5136 ∷ replicate 15 7)
    ∷ holds (six 21 3054 11 5 61 1) ∷ gives (measures 5136) 1 ∷ asks reports 0 (21 ∷ 3054 ∷ 11 ∷ 5 ∷ 61 ∷ 1 ∷ []) ∷ gives sets_up 0
    ∷ holds (six 0 0 0 16 0 0) ∷ shows 396 (bytes4 0 0 0 0) ∷ shows 5132 (bytes4 0 0 0 0) ∷ []))
    -- "the stored totals equal those counted from the tables": a requested size with a flipped bit, and with it a record that agrees; a use
    -- count is in no total, but in the handle's bits
    ∷ fresh 4096 (gives (grants 160) 16 ∷ spoils 36 161 ∷ leaves (grants 0) 2 ∷ leaves (releases 16) 2 ∷ leaves (resizes_in_place 16 7) 2
    ∷ leaves (moves 16 7) 2 ∷ leaves (measures 16) 2 ∷ leaves (grants_list 1 1 17 (1 ∷ [])) 2 ∷ asks reports 2 (0 ∷ 0 ∷ 0 ∷ 0 ∷ 0 ∷ 0 ∷ [])
    ∷ writes (six 1 161 8 0 20 0)
    ∷ asks reports 0 (1 ∷ 161 ∷ 8 ∷ 0 ∷ 20 ∷ 0 ∷ []) ∷ spoils 36 160 ∷ leaves (measures 16) 2 ∷ writes (six 1 160 8 0 20 0) ∷ spoils 33 3
    ∷ refuses (measures 16) 10 ∷ gives (measures 18) 160 ∷ [])
    -- a mask: a slot of class 0 that waits would be live, with no bytes. "Set up writes the record" whatever stood there
    ∷ fresh 512 (gives (grants 0) 16 ∷ gives (grants 0) 32 ∷ gives (releases 16) 0 ∷ spoils 28 0 ∷ leaves (measures 32) 2 ∷ writes (six 2 0 1 0 29 0)
    ∷ gives (measures 32) 0 ∷ writes (six 0 0 0 0 0 0) ∷ leaves (measures 32) 2 ∷ gives sets_up 0 ∷ holds (six 0 0 0 1 0 0) ∷ gives (grants 0) 16 ∷ [])
    ∷ []

-- what 02 §6 adds
unfoldable pub sheet_aligned : List Entry
sheet_aligned =
    -- 02 §6: "the start is the lowest multiple of align at or after the slot's beginning", at each alignment
    fresh 16384 (gives (grants_aligned 1 4096) 4096 ∷ gives (grants_aligned 1 2048) 6144 ∷ gives (grants_aligned 1 1024) 8192
    ∷ gives (grants_aligned 1 512) 11776 ∷ holds (six 4 4 30 2 8 0) ∷ [])
    ∷ fresh 16384 (gives (grants_aligned 1 256) 256 ∷ gives (grants_aligned 1 128) 4224 ∷ gives (grants_aligned 1 64) 8256
    ∷ gives (grants_aligned 1 32) 10272 ∷ gives (measures 10272) 1 ∷ gives (releases 4224) 0 ∷ holds (six 3 3 14 18 73 0) ∷ [])
    -- "Alignments 1, 2, 4, 8 and 16 are an ordinary grant. Any other that is not a power of two up to 4,096 is answer 13, tested between 2 and
    -- 3; an enlarged size of 131,052 or more is 3."
    ∷ fresh 512 (gives (grants_aligned 0 1) 16 ∷ shows 12 (bytes4 0 160 0 0) ∷ gives (grants_aligned 12 16) 32 ∷ shows 28 (bytes4 0 1 1 0)
    ∷ gives (grants_aligned 1 2) 48 ∷ gives (grants_aligned 1 4) 64 ∷ gives (grants_aligned 1 8) 80 ∷ leaves (grants_aligned 1 0) 13
    ∷ leaves (grants_aligned 1 3) 13 ∷ leaves (grants_aligned 1 48) 13 ∷ leaves (grants_aligned 1 8192) 13 ∷ leaves (grants_aligned 131052 4095) 13
    ∷ leaves (grants_aligned 131052 16) 3 ∷ leaves (grants_aligned 131051 16) 8 ∷ leaves (grants_aligned 131036 32) 3 ∷ leaves (grants_aligned 131035 32) 8
    ∷ leaves (grants_aligned 126972 4096) 3 ∷ leaves (grants_aligned 126971 4096) 8 ∷ spoils 32 0 ∷ leaves (grants_aligned 1 0) 2 ∷ [])
    -- the first slot of class 2 begins at 16, the second at 64, where the displacement is 0. Release forgets the alignment, and 5 holds at the last
    -- start
    ∷ fresh 4096 (gives (grants_aligned 20 32) 32 ∷ shows 28 (bytes4 0 160 1 0) ∷ shows 56 (bytes4 8 0 0 0) ∷ gives (grants_aligned 20 32) 64
    ∷ shows 60 (bytes4 0 161 3 0) ∷ shows 104 (bytes4 24 0 0 0) ∷ stores 84 1 ∷ refuses (releases 64) 7 ∷ stores 84 0 ∷ gives (releases 32) 0
    ∷ refuses (releases 32) 5 ∷ refuses (measures 32) 5 ∷ refuses (releases 16) 4 ∷ spoils 32 2 ∷ leaves (measures 64) 2 ∷ spoils 32 1
    ∷ gives (measures 64) 20 ∷ [])
    -- "The count still steps but sets no displacement here.": a plain grant is displaced by two aligned ones before it
    ∷ fresh 4096 (gives (grants_aligned 392 1024) 1024 ∷ gives (grants_aligned 392 1024) 2048 ∷ gives (releases 1024) 0
    ∷ gives (grants_aligned 392 1024) 1025 ∷ gives (releases 1025) 0 ∷ gives (grants 1400) 50 ∷ [])
    -- "Resize of an aligned block keeps the boundary; .. it is in place if n itself fits as in 01 and the block's class is that of the enlarged
    -- size or the next one up": at 64 a size of 29 fits, but the enlarged one is a class higher
    ∷ fresh 8192 (gives (grants_aligned 20 32) 32 ∷ gives (grants_aligned 20 32) 64 ∷ stores 64 7 ∷ stores 83 9 ∷ gives (resizes_in_place 32 0) 32
    ∷ gives (resizes_in_place 32 28) 32 ∷ gives (resizes_in_place 64 28) 64 ∷ shows 64 (7 ∷ []) ∷ shows 83 (9 ∷ 0 ∷ []) ∷ leaves (resizes_in_place 64 29) 11
    ∷ gives (moves 64 29) 1568 ∷ shows 1568 (7 ∷ []) ∷ shows 1587 (9 ∷ 0 ∷ []) ∷ shows 64 (0 ∷ []) ∷ gives (resizes_in_place 1568 28) 1568
    ∷ leaves (resizes_in_place 1568 12) 11 ∷ gives (moves 1568 12) 3616 ∷ gives (measures 3616) 12 ∷ refuses (measures 1568) 4 ∷ [])
    ∷ fresh 1536 (gives (grants_aligned 20 32) 32 ∷ leaves (resizes_in_place 32 29) 11 ∷ leaves (moves 32 29) 8 ∷ gives (measures 32) 20 ∷ [])
    -- "answer 3 reads the enlarged new size where the offset starts such a live block", before damage; any other offset goes by n alone
    ∷ fresh 4096 (gives (grants_aligned 20 32) 32 ∷ gives (grants_aligned 20 32) 64 ∷ gives (grants 20) 1552
    ∷ leaves (resizes_in_place 64 131036) 3 ∷ leaves (moves 64 131036) 3 ∷ leaves (resizes_in_place 64 131035) 11 ∷ leaves (moves 64 131035) 8 ∷ stores 61 0
    ∷ leaves (resizes_in_place 64 131036) 3 ∷ leaves (moves 64 131036) 3 ∷ leaves (resizes_in_place 64 131035) 6 ∷ leaves (moves 64 131035) 6
    ∷ gives (releases 32) 0 ∷ leaves (resizes_in_place 32 131051) 5 ∷ leaves (moves 32 131051) 5 ∷ leaves (resizes_in_place 48 131051) 4
    ∷ leaves (moves 48 131051) 4 ∷ leaves (resizes_in_place 1552 131051) 11 ∷ leaves (moves 1552 131051) 8 ∷ leaves (resizes_in_place 48 131052) 3
    ∷ leaves (moves 48 131052) 3 ∷ [])
    -- "soundness .. demands the boundary": a later multiple is sound, and no other place is; an alignment of which the start is no multiple is not, nor
    -- is a code that is none
    ∷ fresh 4096 (gives (grants_aligned 250 32) 32 ∷ gives (resizes_in_place 32 190) 32 ∷ spoils 34 3 ∷ refuses (measures 64) 6 ∷ refuses (measures 32) 4
    ∷ spoils 34 2 ∷ leaves (measures 48) 2 ∷ spoils 34 1 ∷ gives (measures 32) 190 ∷ spoils 32 3 ∷ leaves (measures 32) 2 ∷ spoils 32 10
    ∷ leaves (measures 32) 2 ∷ spoils 32 0 ∷ leaves (measures 32) 2 ∷ spoils 32 2 ∷ gives (releases 32) 0 ∷ [])
    -- "soundness reads the enlarged size where it speaks of a live block's class": 20 bytes at 64 may be ordinary, and aligned to 64 they would be two
    -- classes up
    ∷ fresh 4096 (gives (grants_aligned 20 32) 32 ∷ gives (grants_aligned 20 32) 64 ∷ spoils 40 1 ∷ gives (measures 64) 20 ∷ spoils 40 3
    ∷ leaves (measures 64) 2 ∷ [])
    ∷ []

-- a block of 2,028 bytes, which fills its slot, given back and granted again k times; h is its handle, of start 16, and the bits are the next
abbrev pub regrants : ℕ → ℕ → List Line
regrants zero h = []
regrants (suc k) h = let g = 16 + suc h % 16 in gives (releases h) 0 ∷ gives (grants 2028) g ∷ regrants k g

-- what 02 §7 adds
unfoldable pub sheet_handles : List Entry
sheet_handles =
    -- "Answer 10, stale, is given exactly if the start is live and the bits differ. A start that is not live answers 4 or 5 whatever the bits."
    fresh 4096 (gives (grants 2028) 16 ∷ gives (grants 2028) 2048 ∷ leaves (releases 17) 10 ∷ leaves (measures 31) 10
    ∷ leaves (resizes_in_place 24 7) 10 ∷ leaves (moves 24 7) 10 ∷ leaves (releases 15) 4 ∷ leaves (measures 32) 4 ∷ leaves (resizes_in_place 47 7) 4
    ∷ leaves (moves 47 7) 4 ∷ gives (releases 16) 0 ∷ leaves (releases 16) 5 ∷ leaves (measures 17) 5 ∷ leaves (resizes_in_place 31 7) 5 ∷ leaves (moves 31 7) 5
    ∷ gives (grants 2028) 17 ∷ leaves (releases 16) 10 ∷ leaves (measures 16) 10 ∷ leaves (resizes_in_place 16 2028) 10 ∷ leaves (moves 16 2028) 10
    ∷ gives (measures 17) 2028 ∷ [])
    -- "Order: 2, 3, 4, 5, 10, 6, 7, 8; §6's answer 3 goes by the start, whatever the bits."; 02 §9: 11 for 8 in place
    ∷ fresh 4096 (gives (grants_aligned 20 32) 32 ∷ leaves (resizes_in_place 33 131036) 3 ∷ leaves (moves 33 131036) 3 ∷ leaves (resizes_in_place 33 131035) 10
    ∷ leaves (moves 33 131035) 10 ∷ leaves (resizes_in_place 32 131035) 11 ∷ leaves (moves 32 131035) 8 ∷ stores 52 1 ∷ leaves (releases 33) 10
    ∷ leaves (releases 32) 7 ∷ stores 29 0 ∷ leaves (measures 47) 10 ∷ leaves (measures 32) 6
    ∷ leaves (resizes_in_place 40 131035) 10 ∷ leaves (moves 40 131035) 10 ∷ leaves (resizes_in_place 32 131035) 6 ∷ leaves (moves 32 131035) 6 ∷ spoils 33 2
    ∷ leaves (releases 32) 10 ∷ leaves (releases 33) 6
    ∷ spoils 33 0 ∷ leaves (releases 32) 10 ∷ leaves (releases 47) 6 ∷ spoils 34 9 ∷ leaves (releases 47) 2 ∷ [])
    -- "Resize in place keeps the handle."; a move gives the bits of the slot that it takes
    ∷ fresh 8192 (gives (grants 2028) 16 ∷ gives (grants 2028) 2048 ∷ gives (releases 16) 0 ∷ gives (grants 160) 4112
    ∷ gives (resizes_in_place 4112 188) 4112 ∷ gives (moves 4112 2028) 17 ∷ leaves (measures 4112) 4 ∷ leaves (measures 16) 10
    ∷ gives (resizes_in_place 17 2000) 17 ∷ gives (measures 17) 2000 ∷ [])
    -- known: "A dropped group forgets its counts": the old handle is the new block's
    ∷ fresh 4096 (gives (grants 2028) 16 ∷ gives (releases 16) 0 ∷ gives (grants 2028) 16 ∷ gives (releases 16) 0 ∷ [])
    -- known: "sixteen regrants bring the same bits back": fifteen do not
    ∷ fresh 4096 (gives (grants 2028) 16 ∷ gives (grants 2028) 2048 ∷ regrants 15 16 ++ (leaves (measures 16) 10 ∷ regrants 1 31
    ++ (gives (measures 16) 2028 ∷ gives (releases 16) 0 ∷ [])))
    ∷ []

-- the tables: their bytes (docs/TABLES.md), the rules of soundness, each broken alone, and what set up takes
unfoldable pub sheet_sound : List Entry
sheet_sound =
    -- a slot's record: 0 or the alignment's code, use count, displacement in two bytes, requested size in three, 0
    keeps Fresh (zeros 8) ∷ keeps (Idle true 5 258) (bytes8 1 5 2 1 0 0 0 0) ∷ keeps (Idle false 5 258) (bytes8 1 5 2 1 0 0 0 0)
    ∷ keeps (Live (record { count = 7; disp = 258; size = 66051; align = 1 })) (bytes8 1 7 2 1 3 2 1 0)
    ∷ keeps (Live (record { count = 0; disp = 0; size = 0; align = 9 })) (bytes8 9 0 0 0 0 0 0 0)
    -- "its use count modulo 256", "255 becoming 0"
    ∷ fresh 4096 (gives (grants 2028) 16 ∷ gives (grants 2028) 2048 ∷ gives (releases 16) 0 ∷ spoils 33 127 ∷ gives (grants 2028) 31
    ∷ tables 33 (128 ∷ []) ∷ gives (releases 31) 0 ∷ spoils 33 255 ∷ gives (grants 2028) 31 ∷ tables 33 (0 ∷ []) ∷ gives (measures 31) 2028 ∷ [])
    -- the room: a fresh one; a group of class 19 with three of its four slots live, with all, with two of them waiting, with these ready again and the
    -- lower one granted; its later rows
    ∷ fresh 4096 (tables 0 (0 ∷ 16 ∷ zeros 278) ∷ gives (grants 1000) 16 ∷ gives (grants 1000) 1024 ∷ gives (grants 1000) 2032
    ∷ tables 16 (1 ∷ 19 ∷ zeros 6) ∷ tables 24 (bytes8 8 0 0 0 0 0 0 0) ∷ tables 32 (bytes8 1 1 0 0 232 3 0 0) ∷ tables 56 (zeros 8)
    ∷ gives (grants 1000) 3040 ∷ gives (releases 16) 0 ∷ gives (releases 1024) 0 ∷ tables 24 (bytes8 0 0 0 0 3 0 0 0) ∷ tables 32 (bytes8 1 1 0 0 0 0 0 0)
    ∷ gives (grants 1000) 17 ∷ tables 24 (bytes8 2 0 0 0 0 0 0 0) ∷ tables 32 (bytes8 1 2 0 0 232 3 0 0) ∷ tables 40 (bytes8 1 1 0 0 0 0 0 0)
    ∷ tables 48 (bytes8 1 1 0 0 232 3 0 0) ∷ tables 64 (zeros 216) ∷ tables 280 (2 ∷ 1 ∷ zeros 262) ∷ tables 1864 (2 ∷ 7 ∷ zeros 262) ∷ [])
    -- a mask's bytes, low byte first: of 31 slots the first and the fifth are live, and the three between them wait
    ∷ fresh 512 (gives (grants 0) 16 ∷ gives (grants 0) 32 ∷ gives (grants 0) 48 ∷ gives (grants 0) 64 ∷ gives (grants 0) 80 ∷ gives (releases 32) 0
    ∷ gives (releases 48) 0 ∷ gives (releases 64) 0 ∷ tables 24 (bytes8 224 255 255 127 14 0 0 0) ∷ [])
    -- "its class is that of n or the next one up": in the slot of 160 bytes 141 is of the class below, and 140 is not
    ∷ fresh 4096 (gives (grants 160) 16 ∷ spoils 36 141 ∷ writes (six 1 141 8 0 20 0) ∷ leaves (measures 16) 7 ∷ spoils 36 140
    ∷ writes (six 1 140 8 0 20 0) ∷ leaves (measures 16) 2 ∷ [])
    -- "each group has a live slot": the one block's slot waits
    ∷ fresh 4096 (gives (grants 160) 16 ∷ spoils 28 1 ∷ spoils 36 0 ∷ writes (six 0 0 8 0 20 1) ∷ leaves (grants 160) 2 ∷ [])
    -- "a live slot .. has 16d + n at most s − 4", "a slot granted but not live has 16d at most s − 4", "the arena length is the recorded one"
    ∷ fresh 4096 (gives (grants 160) 16 ∷ gives (grants 160) 208 ∷ gives (releases 16) 0 ∷ spoils 42 1 ∷ leaves (measures 224) 6 ∷ spoils 42 2
    ∷ leaves (measures 240) 2 ∷ spoils 42 0 ∷ spoils 34 11 ∷ gives (measures 208) 160 ∷ spoils 34 12 ∷ leaves (measures 208) 2 ∷ spoils 34 0
    ∷ spoils 1 14 ∷ leaves (measures 208) 2 ∷ [])
    -- "then i·u + d as two bytes, low byte first": the tables may say a displacement of 256 units
    ∷ fresh 16896 (gives (grants 13100) 16 ∷ gives (resizes_in_place 16 10909) 16 ∷ spoils 35 1 ∷ stores 4109 160 ∷ leaves (measures 4112) 6 ∷ stores 4111 1
    ∷ leaves (measures 4112) 7 ∷ [])
    -- "bad arena: .. arena length outside the rule, or table room of another size": "512 to 262,144 bytes, a multiple of 512"
    ∷ sets 512 280 0 ∷ sets 0 16 1 ∷ sets 256 16 1 ∷ sets 511 280 1 ∷ sets 513 280 1 ∷ sets 768 280 1 ∷ sets 512 279 1 ∷ sets 512 281 1
    ∷ sets 1024 544 0 ∷ rooms 512 280 ∷ rooms 262144 135184 ∷ rooms 262145 0 ∷ rooms 262656 0 ∷ rooms 0 0
    ∷ []

-- lines that refuse a wrong definition soonest, over arenas as short as can be: proved beside the definitions, so that an edit of these is
-- refused in seconds. They are of the kinds that the whole sheet has, which is proved in `bench`.
unfoldable pub sheet_short : List Entry
sheet_short =
    -- slots of 16 bytes: what is refused, frames and totals, marks and handles, a record that does not agree, a release, sizes in place, a list
    fresh 512 (refuses (grants 131052) 3 ∷ leaves (grants_aligned 131052 4095) 13 ∷ leaves (grants_list 1 1 16 (1 ∷ [])) 9
    ∷ gives (grants 12) 16 ∷ gives (grants 0) 32 ∷ asks reports 0 (2 ∷ 12 ∷ 1 ∷ 0 ∷ 29 ∷ 0 ∷ []) ∷ leaves (measures 17) 10
    ∷ leaves (grants_list 14 13 17 (1 ∷ 13 ∷ [])) 8 ∷ stores 28 1 ∷ gives (measures 16) 12 ∷ stores 28 0
    ∷ writes (six 2 13 1 0 29 0) ∷ leaves (measures 16) 2 ∷ writes (six 2 12 1 0 29 0)
    ∷ gives (releases 32) 0 ∷ shows 40 (bytes4 0 0 0 0) ∷ gives (grants 0) 48 ∷ gives (resizes_in_place 48 12) 48 ∷ shows 56 (bytes4 0 0 0 0)
    ∷ stores 16 7 ∷ gives (resizes_in_place 16 1) 16 ∷ shows 16 (7 ∷ [])
    ∷ lists (grants_list 1 1 17 (1 ∷ [])) 1 (replicate 17 7) (64 ∷ replicate 16 7) ∷ stores 13 1 ∷ leaves (measures 17) 10 ∷ [])
    -- one spare byte; no live slot in a group
    ∷ fresh 512 (gives (grants 11) 16 ∷ shows 12 (bytes4 0 32 0 0) ∷ [])
    ∷ fresh 512 (gives (grants 0) 16 ∷ spoils 28 1 ∷ writes (six 0 0 1 0 30 1) ∷ leaves (grants 0) 2 ∷ [])
    -- an aligned block, and its group's later row; a size two classes down, of the tables and asked for in place, also of a damaged block; a move, to the
    -- same size and to another
    ∷ fresh 1536 (gives (grants_aligned 1 32) 32 ∷ tables 280 (2 ∷ 1 ∷ []) ∷ leaves (moves 33 131036) 3 ∷ [])
    ∷ fresh 1536 (gives (grants 30) 16 ∷ spoils 36 12 ∷ writes (six 1 12 3 0 30 0) ∷ leaves (measures 16) 2 ∷ [])
    ∷ fresh 1536 (gives (grants 30) 16 ∷ leaves (resizes_in_place 16 12) 11 ∷ gives (moves 16 30) 64 ∷ stores 61 0 ∷ leaves (resizes_in_place 64 12) 6 ∷ [])
    ∷ fresh 1536 (gives (grants 1) 16 ∷ stores 16 7 ∷ gives (moves 16 13) 528 ∷ shows 528 (7 ∷ []) ∷ [])
    -- four slots, of which two wait, are granted again and wait again: displaced, then not; a last start stays
    ∷ fresh 4096 (gives (grants 980) 16 ∷ gives (grants 980) 1024 ∷ gives (grants 980) 2032 ∷ gives (grants 980) 3040 ∷ gives (releases 16) 0
    ∷ gives (releases 1024) 0 ∷ gives (grants 980) 33 ∷ shows 12 (zeros 16) ∷ gives (grants 980) 1041 ∷ gives (releases 33) 0
    ∷ gives (releases 1041) 0 ∷ gives (grants 980) 18 ∷ refuses (releases 1041) 5 ∷ [])
    -- a displacement of 256 units
    ∷ fresh 16384 (gives (grants 13100) 16 ∷ spoils 35 1 ∷ spoils 37 44 ∷ writes (six 1 11308 32 0 0 0) ∷ stores 4109 160 ∷ stores 4111 1
    ∷ refuses (measures 4112) 7 ∷ [])
    ∷ rooms 262144 135184 ∷ checks 40 40 (40 ∷ 0 ∷ []) 0
    ∷ []

unfoldable pub sheet : List Entry
unfolding sheet01 sheet_aligned sheet_handles sheet_sound
sheet = sheet01 ++ (sheet_aligned ++ (sheet_handles ++ sheet_sound))

-- the lines that are so, over an arena, a table room and the record
unfoldable pub passes : List ℕ → KeptBytes → List Line → Bool
passes a t [] = true
passes a t (asks c k vs ∷ ls) =
    let r = call row_bytes a t c in
    let rest = passes r.arena r.kept ls in
    let right : Bool = eqb r.answer.number k && same r.answer.values vs in
    choose right rest false
passes a t (lists c k l m ∷ ls) =
    let r = call row_bytes a t c in
    let rest = passes r.arena r.kept ls in
    let right : Bool = eqb r.answer.number 0 && same r.answer.values (k ∷ []) && same (put 0 r.answer.lent l) m in
    choose right rest false
passes a t (leaves c k ∷ ls) =
    let r = call row_bytes a t c in
    let rest = passes r.arena r.kept ls in
    let kept : Bool = same r.arena a && same r.kept.tables t.tables && same_totals r.kept.totals t.totals && same r.answer.lent [] in
    let right : Bool = eqb r.answer.number k && same r.answer.values (0 ∷ []) && kept in
    choose right rest false
passes a t (shows p bs ∷ ls) = let rest = passes a t ls in choose (same (part p (length bs) a) bs) rest false
passes a t (stores p b ∷ ls) = passes (set a p b) t ls
passes a t (holds s ∷ ls) = let rest = passes a t ls in choose (same_totals t.totals s) rest false
passes a t (writes s ∷ ls) = passes a (kept_in t.tables s) ls
passes a t (tables p bs ∷ ls) = let rest = passes a t ls in choose (same (part p (length bs) t.tables) bs) rest false
passes a t (spoils p b ∷ ls) = passes a (kept_in (set t.tables p b) t.totals) ls

unfoldable pub right : Entry → Bool
right (fresh n ls) =
    let r = set_up row_bytes (zeros n) (kept_in (zeros (room_bytes (n / row_bytes))) (six 7 7 7 7 7 7)) in
    eqb r.answer.number 0 && passes r.arena r.kept ls
right (sets n m k) = eqb (set_up row_bytes (zeros n) (kept_in (zeros m) (six 7 7 7 7 7 7))).answer.number k
right (rooms n m) = eqb (room_for row_bytes n) m
right (keeps x bs) = same (slot_record x) bs
right (class n c) = eqb (class_of n) c
right (groups c s r) = eqb (slots_of c) s && eqb (rows_of row_bytes c) r
right (checks total cap ns k) = eqb (bit (accepts total cap ns)) k
right (plans total cap k ns) = eqb (planned total cap).number k && same (planned total cap).lent ns
