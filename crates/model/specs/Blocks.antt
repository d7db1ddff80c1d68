-- A block in its slot: header, requested bytes, first spare byte, guard.
use Rattle.std.specs.Prelude.{ℕ, ◌+◌, ◌*◌, ◌-◌, min, Bool, ◌&&◌, List, [], ◌∷◌, ◌++◌, leb, length, Result, Ok, Err}
use Rattle.mem.specs.Lists.{choose}
use Rattle.mem.specs.Bytes.{zeros, low, same, part}
use Rattle.classes.specs.Classes.{units_of, slot_bytes}
use Rattle.model.specs.declared.Refusal.{Refusal}
use Rattle.model.specs.declared.Refusal.TheVariants.{HeaderDamaged, Overrun}
use Rattle.model.specs.State.{Place, disp, size, slot_number, owned}

-- "Reserved is s − 4 − 16d − n."
abbrev pub reserved : ℕ → ℕ → ℕ → ℕ
reserved c d n = slot_bytes c - 4 - 16 * d - n

-- "Header, 4 bytes before the start: 0; slot number plus 32 times the lesser of 5 and the reserved count; then i·u + d as two
-- bytes, low byte first."
unfoldable pub header : ℕ → ℕ → ℕ → ℕ → List ℕ
header c i d n = 0 ∷ (i + 32 * min 5 (reserved c d n)) ∷ low 2 (i * units_of c + d)

-- "If reserved is 5 or more, the byte 5 before the end is 0 and the last four hold reserved, low byte first. With fewer there
-- is no guard." The guard of r reserved bytes:
unfoldable pub guard : ℕ → List ℕ
guard r = choose (leb 5 r) (0 ∷ low 4 r) []

-- 02 §1: "a zero in the first spare byte whenever reserved is 1 or more." The first of r reserved bytes, if there is one:
unfoldable pub first_spare : ℕ → List ℕ
first_spare r = choose (leb 1 r) (0 ∷ []) []

-- r reserved bytes, which end in the guard
unfoldable pub spare : ℕ → List ℕ
spare r = zeros (r - length (guard r)) ++ guard r

-- "The slot's s owned bytes become zero, then header and guard are written" (mallocng's enframe)
unfoldable pub frame : ℕ → ℕ → ℕ → ℕ → List ℕ
frame c i d n = zeros (16 * d) ++ (header c i d n ++ (zeros n ++ spare (reserved c d n)))

-- "live start, the 4 bytes before it are not those due": of a slot's owned bytes
unfoldable pub header_right : ℕ → ℕ → ℕ → ℕ → List ℕ → Bool
header_right c i d n bytes = same (part (16 * d) 4 bytes) (header c i d n)

-- "header right, guard not that due". "The block's end is the slot's beginning plus s − 4", where the owned bytes end. 02 §1: "the byte
-- right after the requested bytes is 0 and is compared, besides what 01 has."
unfoldable pub guard_right : ℕ → ℕ → ℕ → List ℕ → Bool
guard_right c d n bytes =
    let z = first_spare (reserved c d n) in
    let g = guard (reserved c d n) in
    same (part (16 * d + 4 + n) (length z) bytes) z && same (part (slot_bytes c - length g) (length g) bytes) g

-- header and guard of a block are those due, or why a call on it is refused
abbrev pub Damage : Type 0
Damage = Result (Unit {0}) Refusal

-- what is wrong with a block
unfoldable pub damage_in : ℕ → ℕ → ℕ → ℕ → List ℕ → Damage
damage_in c i d n bytes = choose (header_right c i d n bytes) (choose (guard_right c d n bytes) (Ok tt) (Err Overrun)) (Err HeaderDamaged)

module _ (row : ℕ) where
  -- the owned bytes of a slot
  abbrev pub owned_bytes : List ℕ → Place → List ℕ
  owned_bytes a p = part (owned row p) (slot_bytes p.cls) a

  abbrev pub damage : List ℕ → Place → Damage
  damage a p = damage_in p.cls (slot_number p) (disp p.state) (size p.state) (owned_bytes a p)
