-- The bench sheet of the second engine's tables: slots with their eight bytes, what stands in the room after calls, and which rooms are refused.
use Rattle.std.specs.Prelude.{ℕ, ◌/◌, Bool, true, false, ◌&&◌, List, [], ◌∷◌, eqb, length, set}
use Rattle.mem.specs.Lists.{choose}
use Rattle.mem.specs.Bytes.{zeros, same, part}
use Rattle.classes.specs.Classes.{row_bytes}
use Rattle.model.specs.declared.Slot.{Slot}
use Rattle.model.specs.declared.Slot.TheVariants.{Fresh, Idle, Live}
use Rattle.model.specs.Plans.{Call, sets_up, grants, grants_aligned, releases, resizes_in_place, moves, measures, reports, grants_list}
use Rattle.model.specs.Tables.{room_bytes}
use Rattle.model.specs.Plain.{plain_record, plain_call}
use Rattle.model.specs.Bench.{bytes8}

-- a line: a call with the number and values due; a call that is refused and leaves every byte of arena and room; bytes due in the room from a
-- place on, or a store into it
pub data PlainLine : Type 0 where
  asks : Call → (number : ℕ) (values : List ℕ) → PlainLine
  leaves : Call → (number : ℕ) → PlainLine
  shows : (at : ℕ) → List ℕ → PlainLine
  spoils : (at byte : ℕ) → PlainLine

-- an entry: a slot with the bytes of its record, or lines over a fresh pool of some arena length
pub data PlainEntry : Type 0 where
  keeps : Slot → List ℕ → PlainEntry
  fresh : (arena : ℕ) → List PlainLine → PlainEntry

abbrev pub gives : Call → ℕ → PlainLine
gives c v = asks c 0 (v ∷ [])

unfoldable pub plain_sheet : List PlainEntry
plain_sheet =
    -- condition, use count, displacement in two bytes, requested size in three, 0
    keeps Fresh (zeros 8) ∷ keeps (Idle true 5 258) (bytes8 1 5 2 1 0 0 0 0) ∷ keeps (Idle false 5 258) (bytes8 2 5 2 1 0 0 0 0)
    ∷ keeps (Live (record { count = 7; disp = 258; size = 66051; align = 1 })) (bytes8 3 7 2 1 3 2 1 0)
    ∷ keeps (Live (record { count = 0; disp = 0; size = 0; align = 9 })) (bytes8 11 0 0 0 0 0 0 0)
    -- a fresh room; a group of class 19 with its four slots live, then two of them waiting, then ready again, the lower of them granted; its later rows
    ∷ fresh 4096 (shows 0 (0 ∷ 16 ∷ zeros 278) ∷ gives (grants 1000) 16 ∷ gives (grants 1000) 1024 ∷ gives (grants 1000) 2032
    ∷ shows 16 (1 ∷ 19 ∷ zeros 14) ∷ shows 32 (bytes8 3 1 0 0 232 3 0 0) ∷ shows 56 (zeros 8) ∷ gives (grants 1000) 3040
    ∷ gives (releases 16) 0 ∷ gives (releases 1024) 0 ∷ shows 32 (bytes8 2 1 0 0 0 0 0 0) ∷ shows 40 (bytes8 2 1 0 0 0 0 0 0)
    ∷ asks reports 0 (2 ∷ 2000 ∷ 8 ∷ 0 ∷ 0 ∷ 2 ∷ []) ∷ gives (grants 1000) 17 ∷ shows 32 (bytes8 3 2 0 0 232 3 0 0)
    ∷ shows 40 (bytes8 1 1 0 0 0 0 0 0) ∷ shows 48 (bytes8 3 1 0 0 232 3 0 0) ∷ shows 64 (zeros 216) ∷ shows 280 (2 ∷ 1 ∷ zeros 262)
    ∷ shows 1864 (2 ∷ 7 ∷ zeros 262) ∷ asks reports 0 (3 ∷ 3000 ∷ 8 ∷ 0 ∷ 1 ∷ 0 ∷ []) ∷ spoils 64 1 ∷ leaves (measures 17) 2 ∷ [])
    -- the displacement stays when the slot is given back, and so does the last start; the group goes with its last live slot
    ∷ fresh 4096 (gives (grants 2000) 16 ∷ gives (grants 2000) 2048 ∷ gives (releases 16) 0 ∷ gives (grants 2000) 33 ∷ shows 32 (bytes8 3 2 1 0 208 7 0 0)
    ∷ gives (releases 33) 0 ∷ shows 32 (bytes8 2 2 1 0 0 0 0 0) ∷ leaves (releases 32) 5 ∷ leaves (releases 16) 4 ∷ gives (releases 2048) 0
    ∷ shows 16 (zeros 2112) ∷ [])
    -- two aligned blocks, and what the room may say of the first: with no record of totals, that it is ordinary, or shorter, or waits; not a condition
    -- or a place that is none, a size past the slot or of a slot that is not live, nor a byte where nothing is to be said
    ∷ fresh 1536 (gives (grants_aligned 20 32) 32 ∷ gives (grants_aligned 20 32) 64 ∷ shows 32 (bytes8 4 1 1 0 20 0 0 0) ∷ shows 40 (bytes8 4 1 0 0 20 0 0 0)
    ∷ spoils 32 3 ∷ gives (measures 32) 20 ∷ spoils 36 19 ∷ leaves (measures 32) 7 ∷ spoils 36 20 ∷ spoils 32 5 ∷ leaves (measures 32) 2 ∷ spoils 32 12
    ∷ leaves (measures 32) 2 ∷ spoils 32 3 ∷ spoils 36 29 ∷ leaves (measures 32) 2 ∷ spoils 36 20 ∷ spoils 32 2 ∷ leaves (grants 0) 2 ∷ spoils 36 0
    ∷ leaves (releases 32) 5 ∷ gives (measures 64) 20 ∷ spoils 39 1 ∷ leaves (releases 64) 2 ∷ spoils 39 0 ∷ spoils 24 1 ∷ leaves (releases 64) 2
    ∷ spoils 24 0 ∷ spoils 49 1 ∷ leaves (resizes_in_place 64 20) 2 ∷ leaves (moves 64 20) 2 ∷ spoils 49 0 ∷ spoils 281 2 ∷ leaves (grants_aligned 1 64) 2
    ∷ spoils 281 1
    ∷ gives (measures 64) 20 ∷ spoils 40 2 ∷ spoils 44 0 ∷ leaves (grants_list 1 1 17 (1 ∷ [])) 2 ∷ asks reports 2 (zeros 6) ∷ gives sets_up 0
    ∷ shows 16 (zeros 792) ∷ [])
    ∷ []

-- lines that refuse another form of a record soonest, proved beside the definitions; the whole sheet is proved in `bench`
unfoldable pub plain_short : List PlainEntry
plain_short =
    keeps (Idle true 5 258) (bytes8 1 5 2 1 0 0 0 0) ∷ keeps (Idle false 5 258) (bytes8 2 5 2 1 0 0 0 0)
    ∷ keeps (Live (record { count = 7; disp = 258; size = 66051; align = 1 })) (bytes8 3 7 2 1 3 2 1 0) ∷ []

-- the lines that are so, over an arena and a table room
unfoldable pub plain_passes : List ℕ → List ℕ → List PlainLine → Bool
plain_passes a t [] = true
plain_passes a t (asks c k vs ∷ ls) =
    let r = plain_call row_bytes a t c in
    let rest = plain_passes r.arena r.kept ls in
    let right : Bool = eqb r.answer.number k && same r.answer.values vs in
    choose right rest false
plain_passes a t (leaves c k ∷ ls) =
    let r = plain_call row_bytes a t c in
    let rest = plain_passes r.arena r.kept ls in
    let right : Bool = eqb r.answer.number k && same r.answer.values (0 ∷ []) && same r.arena a && same r.kept t in
    choose right rest false
plain_passes a t (shows p bs ∷ ls) = let rest = plain_passes a t ls in choose (same (part p (length bs) t) bs) rest false
plain_passes a t (spoils p b ∷ ls) = plain_passes a (set t p b) ls

unfoldable pub plain_right : PlainEntry → Bool
plain_right (keeps x bs) = same (plain_record x) bs
plain_right (fresh n ls) = plain_passes (zeros n) (zeros (room_bytes (n / row_bytes))) (gives sets_up 0 ∷ ls)
