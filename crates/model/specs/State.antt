-- The pool's state: what the tables know, without bytes.
use Rattle.std.specs.Prelude.{ℕ, ◌+◌, ◌*◌, ◌-◌, ◌%◌, ◌≡◌, Bool, true, false, ◌&&◌, not, List, [], ◌∷◌, ◌++◌, leb, ltb, eqb, length}
use Rattle.mem.specs.Lists.{choose, every, any, sum}
use Rattle.classes.specs.Classes.{slot_bytes, slots_of, rows_of, size_limit, own_class}
use Rattle.classes.specs.Alignments.{ordinary, align_of, enlarged}
use Rattle.model.specs.declared.Slot.{Slot}
use Rattle.model.specs.declared.Slot.TheVariants.{Fresh, Idle, Live}

-- "A row is free, the first row of a group of a named class, or a later row of that group." A pool is what follows one another
-- in the arena, a free row or a whole group with its slots; so no two groups share a row.
pub data Span : Type 0 where
  free : Span
  group : (cls : ℕ) (slots : List Slot) → Span

abbrev pub Pool : Type 0
Pool = List Span

-- "of each slot whether it is ready, waiting or live"
abbrev pub is_ready : Slot → Bool
is_ready Fresh = true
is_ready (Idle r k d) = r
is_ready (Live a) = false

abbrev pub is_waiting : Slot → Bool
is_waiting Fresh = false
is_waiting (Idle r k d) = not r
is_waiting (Live a) = false

abbrev pub is_live : Slot → Bool
is_live Fresh = false
is_live (Idle r k d) = false
is_live (Live a) = true

-- "For each slot also: whether it was ever granted in this group, its use count modulo 256 (grants in this group), and, once
-- granted, the displacement d in units of its last start; for a live slot the requested n."
abbrev pub granted : Slot → Bool
granted Fresh = false
granted (Idle r k d) = true
granted (Live a) = true

abbrev pub count : Slot → ℕ
count Fresh = 0
count (Idle r k d) = k
count (Live a) = a.count

abbrev pub disp : Slot → ℕ
disp Fresh = 0
disp (Idle r k d) = d
disp (Live a) = a.disp

abbrev pub size : Slot → ℕ
size Fresh = 0
size (Idle r k d) = 0
size (Live a) = a.size

-- 02 §6: "The tables keep the alignment" of a live block, by its code; a slot that is not live keeps none
abbrev pub align : Slot → ℕ
align Fresh = ordinary
align (Idle r k d) = ordinary
align (Live a) = a.align

-- "a live slot was granted, has 16d + n at most s − 4, and its class is that of n or the next one up; a slot granted but not
-- live has 16d at most s − 4; a live n is below 131,052; a slot never granted is ready with count 0." 02 §6: "soundness reads the
-- enlarged size where it speaks of a live block's class", and as there is no class past 131,051, that size too is below 131,052
unfoldable pub slot_sound : ℕ → Slot → Bool
slot_sound c Fresh = true
slot_sound c (Idle r k d) = ltb k 256 && leb (16 * d) (slot_bytes c - 4)
slot_sound c (Live a) =
    ltb a.count 256 && leb (16 * a.disp + a.size) (slot_bytes c - 4) && (leb 1 a.align && leb a.align 9)
    && ltb (enlarged a.align a.size) size_limit && own_class c (enlarged a.align a.size)

-- "each group has a live slot"
unfoldable pub span_sound : Span → Bool
span_sound free = true
span_sound (group c ss) = ltb c 48 && eqb (length ss) (slots_of c) && any is_live ss && every (slot_sound c) ss

abbrev pub well_formed : Pool → Bool
well_formed P = every span_sound P

-- 02 §6: soundness "demands the boundary": a live block starts on a multiple of its alignment, "counted from the arena's first byte". A
-- slot that begins at b, and slots of class c of which the first does
abbrev pub aligned_slot : ℕ → Slot → Bool
aligned_slot b Fresh = true
aligned_slot b (Idle r k d) = true
aligned_slot b (Live a) = eqb ((b + 16 * a.disp) % align_of a.align) 0

abbrev pub slots_aligned : (c b : ℕ) → List Slot → Bool
slots_aligned c b [] = true
slots_aligned c b (x ∷ xs) = aligned_slot b x && slots_aligned c (b + slot_bytes c) xs

-- 02 §7: a handle "carries in its low four bits the slot's use count before that grant, modulo 16". The kept count is the one after it, so it is
-- one less that counts: 0 gives 15
abbrev pub use_bits : (count : ℕ) → ℕ
use_bits k = (k + 15) % 16

-- "starts are handles with the low four bits cleared"
abbrev pub start_of : ℕ → ℕ
start_of h = h - h % 16

-- A granted slot in its pool: what lies before its group, the group's class, the slots before it, its state, the slots after it,
-- and what lies after the group.
pub record Place : Type 0 where
  pub before : Pool
  pub cls : ℕ
  pub lower : List Slot
  pub state : Slot
  pub upper : List Slot
  pub after : Pool

-- the pool that a place is in, and the place with another state
abbrev pub pool_of : Place → Pool
pool_of p = p.before ++ (group p.cls (p.lower ++ (p.state ∷ p.upper)) ∷ p.after)

abbrev pub become : Place → Slot → Place
become p x = record { before = p.before; cls = p.cls; lower = p.lower; state = x; upper = p.upper; after = p.after }

-- i, the slot's number in its group
abbrev pub slot_number : Place → ℕ
slot_number p = length p.lower

-- the granted slots of a group, us being the slots passed by
abbrev pub slot_places : Pool → ℕ → List Slot → List Slot → Pool → List Place
slot_places X c us [] Y = []
slot_places X c us (x ∷ xs) Y =
    let p : Place = record { before = X; cls = c; lower = us; state = x; upper = xs; after = Y } in
    let r : List Place = slot_places X c (us ++ (x ∷ [])) xs Y in
    choose (granted x) (p ∷ r) r

-- the granted slots from a span on, X being what was passed by
abbrev pub places_from : Pool → Pool → List Place
places_from X [] = []
places_from X (free ∷ Y) = places_from (X ++ (free ∷ [])) Y
places_from X (group c ss ∷ Y) = slot_places X c [] ss Y ++ places_from (X ++ (group c ss ∷ [])) Y

-- every granted slot of the pool, in the order of the arena
unfoldable pub places : Pool → List Place
places P = places_from [] P

module _ (row : ℕ) where
  abbrev pub rows_in : Span → ℕ
  rows_in free = 1
  rows_in (group c ss) = rows_of row c

  abbrev pub rows : Pool → ℕ
  rows P = sum rows_in P

  -- the boundary in a pool whose first row has the arena's byte b first, and in a whole one
  abbrev pub aligned_from : ℕ → Pool → Bool
  aligned_from b [] = true
  aligned_from b (free ∷ P) = aligned_from (b + row) P
  aligned_from b (group c ss ∷ P) = slots_aligned c (b + 16) ss && aligned_from (b + row * rows_of row c) P

  unfoldable pub aligned : Pool → Bool
  aligned P = aligned_from 0 P

  -- the group's first byte
  abbrev pub base : Place → ℕ
  base p = row * rows p.before

  -- "Slot i of a group begins 16 + i·s bytes after the group's first byte."
  abbrev pub beginning : Place → ℕ
  beginning p = base p + 16 + slot_number p * slot_bytes p.cls

  -- "It owns the s bytes that start 4 bytes earlier"
  abbrev pub owned : Place → ℕ
  owned p = base p + 12 + slot_number p * slot_bytes p.cls

  -- "The start is the slot's beginning plus 16d."
  abbrev pub start : Place → ℕ
  start p = beginning p + 16 * disp p.state

  -- the handle of a live block; 02 §7: "Callers get handles"
  abbrev pub handle : Place → ℕ
  handle p = start p + use_bits (count p.state)

  -- one slot of two pools: its group has the same class and the same first row, and it has the same number in it
  pub record SameSlot (p q : Place) : Type 0 where
    pub first : rows q.before ≡ rows p.before
    pub cls : q.cls ≡ p.cls
    pub number : slot_number q ≡ slot_number p
