-- Demand 2, the calls but grant: "Every call does what document 01 says". What an accepted set up, release, resize in place and move leave, byte by
-- byte and slot by slot, and that measure and report leave everything, without a word of the plans; which bytes of the arena answers 6 and 7 go by.
use Rattle.std.specs.Prelude.{ℕ, suc, ◌+◌, ◌*◌, ◌-◌, ◌/◌, ◌≤◌, ◌<◌, min, ◌≡◌, false, not, ◌⊎◌, ◌↔◌, List, [], ◌∷◌, ◌++◌, T, length, get_or}
use Rattle.mem.specs.Lists.{any, every}
use Rattle.mem.specs.Bytes.{low, part}
use Rattle.classes.specs.Classes.{units_of, slot_bytes, class_of, rows_of}
use Rattle.classes.specs.Alignments.{align_of}
use Rattle.model.specs.declared.Slot.TheVariants.{Idle, Live}
use Rattle.model.specs.State.{Pool, Place, is_live, count, disp, size, align, start_of, pool_of, become, slot_number, base, beginning, owned, start}
use Rattle.model.specs.Answers.{done, listed}
use Rattle.model.specs.Plans.{copies, Call, sets_up, grants_aligned, releases, resizes_in_place, moves, measures, reports, fresh_pool, totals, plan}
use Rattle.model.specs.Calls.{Form, Outcome, write, applied, call_by}
use Rattle.claims.specs.Demand1.{Near, StaysInPlace, StartsAt, header_due, guard_due}
use Rattle.claims.specs.Demand2.{Intact, reserved_of}

-- an arena and what is left of it: the k bytes from a place on are zero, and no other byte changed
pub record ZeroedOnly (a b : List ℕ) (from k : ℕ) : Type 0 where
  pub long : length b ≡ length a
  pub zero : (i : ℕ) → from ≤ i → i < from + k → get_or b i 0 ≡ 0
  pub others : (i : ℕ) → (i < from) ⊎ (from + k ≤ i) → get_or b i 0 ≡ get_or a i 0

-- of an ordinary block `StaysInPlace` is document 01's: "In place if n is at most s − 4 − 16d and the block's class is at most one above n's class"
abbrev pub ServesOrdinary : Type 0
ServesOrdinary = (c d n : ℕ) → c < 48 → n ≤ slot_bytes c - 4 - 16 * d → Near c n ↔ (c ≤ suc (class_of n))

-- the block with another size: "Count and start change only by such a grant." It keeps its alignment.
abbrev pub sized : Place → ℕ → Place
sized p n = become p (Live (record { count = count p.state; disp = disp p.state; size = n; align = align p.state }))

-- as many bytes as stay: "the lesser of old and new n"
abbrev pub stay : Place → ℕ → ℕ
stay p n = min (size p.state) n

module _ (row : ℕ) where
  -- "Offset 0 is never a start."
  abbrev pub NeverAtZero : Type 0
  NeverAtZero = (P : Pool) (p : Place) → StartsAt row P 0 p → ⊥

  -- THE HEADER

  -- "Header, 4 bytes before the start: 0; slot number plus 32 times the lesser of 5 and the reserved count; then i·u + d as two bytes, low byte first."
  abbrev pub HeaderBytes : List ℕ → Place → Type 0
  HeaderBytes a p =
      part (start row p - 4) 4 a ≡ 0 ∷ (slot_number p + 32 * min 5 (reserved_of p)) ∷ low 2 (slot_number p * units_of p.cls + disp p.state)

  -- THE GUARD

  -- "The block's end is the slot's beginning plus s − 4."
  abbrev pub end : Place → ℕ
  end p = beginning row p + slot_bytes p.cls - 4

  -- 02 §1: "whenever reserved is 1 or more .. the byte right after the requested bytes is 0 and is compared, besides what 01 has": "If reserved is
  -- 5 or more, the byte 5 before the end is 0 and the last four hold reserved, low byte first."
  pub record GuardBytes (a : List ℕ) (p : Place) : Type 0 where
    pub past : 1 ≤ reserved_of p → get_or a (start row p + size p.state) 0 ≡ 0
    pub last : 5 ≤ reserved_of p → part (end p - 5) 5 a ≡ 0 ∷ low 4 (reserved_of p)

  module _ (F : Form) where
    -- of any bytes: the header of a slot's block is that due exactly if these bytes of the arena are
    abbrev pub HeadersAsSaid : Type 0
    HeadersAsSaid = (a : List ℕ) (t : F.Kept) (p : Place) → T (F.sound (length a) t) → pool_of p ≡ F.view t → T (header_due row a p) ↔ HeaderBytes a p

    -- of any bytes: the guard of a slot's block is that due exactly if these bytes of the arena are
    abbrev pub GuardsAsSaid : Type 0
    GuardsAsSaid = (a : List ℕ) (t : F.Kept) (p : Place) → T (F.sound (length a) t) → pool_of p ≡ F.view t → T (guard_due row a p) ↔ GuardBytes a p

    -- SET UP

    -- "Set up writes zero over the whole arena and makes tables with no groups."
    pub record MadeFresh (a : List ℕ) (r : Outcome F.Kept) : Type 0 where
      pub value : r.answer.values ≡ 0 ∷ []
      pub pool : F.view r.kept ≡ fresh_pool (length a / row)
      pub bytes : ZeroedOnly a r.arena 0 (length a)

    abbrev pub SetsUpAsSaid : Type 0
    SetsUpAsSaid = (a : List ℕ) (t : F.Kept) → (call_by row F a t sets_up).answer.number ≡ 0 → MadeFresh a (call_by row F a t sets_up)

    -- over a pool's own arena a set up is also a call of the model: its plan, carried out
    abbrev pub SetsUpAsPlanned : Type 0
    SetsUpAsPlanned = (a : List ℕ) (t : F.Kept) → T (F.sound (length a) t) → call_by row F a t sets_up ≡ applied F a (plan row (F.view t) sets_up)

    -- MEASURE AND REPORT

    -- a call that leaves every byte of arena and tables, and the record where there is one
    pub record Unchanged (a : List ℕ) (t : F.Kept) (c : Call) : Type 0 where
      pub arena : (call_by row F a t c).arena ≡ a
      pub kept : (call_by row F a t c).kept ≡ t

    -- over any bytes, refused or not
    pub record ReadsOnly : Type 0 where
      pub measured : (a : List ℕ) (t : F.Kept) (h : ℕ) → Unchanged a t (measures h)
      pub reported : (a : List ℕ) (t : F.Kept) → Unchanged a t reports

    -- "Report gives, in this order: live blocks, their requested bytes, rows held, rows free, ready slots, waiting slots"
    abbrev pub ReportsAsSaid : Type 0
    ReportsAsSaid = (a : List ℕ) (t : F.Kept) → T (F.sound (length a) t)
        → (call_by row F a t reports).answer ≡ done (listed (totals row (F.view t)))

    -- RELEASE

    -- "The slot becomes waiting", with its count and displacement, "and its s owned bytes zero."
    pub record Waits (a : List ℕ) (p : Place) (r : Outcome F.Kept) : Type 0 where
      pub other_live : T (any is_live (p.lower ++ p.upper))
      pub pool : F.view r.kept ≡ pool_of (become p (Idle false (count p.state) (disp p.state)))
      pub bytes : ZeroedOnly a r.arena (owned row p) (slot_bytes p.cls)

    -- "If no slot of the group is live, the group goes, all its rows become zero and free."
    pub record Goes (a : List ℕ) (p : Place) (r : Outcome F.Kept) : Type 0 where
      pub none-live : T (every (λ x. not (is_live x)) (p.lower ++ p.upper))
      pub pool : F.view r.kept ≡ p.before ++ (fresh_pool (rows_of row p.cls) ++ p.after)
      pub bytes : ZeroedOnly a r.arena (base row p) (row * rows_of row p.cls)

    pub record Released (a : List ℕ) (t : F.Kept) (h : ℕ) (p : Place) : Type 0 where
      pub block : Intact row a (F.view t) h p
      pub value : (call_by row F a t (releases h)).answer.values ≡ 0 ∷ []
      pub left : Waits a p (call_by row F a t (releases h)) ⊎ Goes a p (call_by row F a t (releases h))

    abbrev pub ReleasesAsSaid : Type 0
    ReleasesAsSaid = (a : List ℕ) (t : F.Kept) (h : ℕ) → (call_by row F a t (releases h)).answer.number ≡ 0 → (p : Place) × Released a t h p

    -- RESIZE IN PLACE

    pub record InPlace (a : List ℕ) (t : F.Kept) (h n : ℕ) (p : Place) (r : Outcome F.Kept) : Type 0 where
      pub block : Intact row a (F.view t) h p
      pub serves : StaysInPlace p n
      -- 02 §7: "Resize in place keeps the handle."
      pub value : r.answer.values ≡ h ∷ []
      pub pool : F.view r.kept ≡ pool_of (sized p n)
      pub long : length r.arena ≡ length a
      -- "the first bytes, as many as the lesser of old and new n, stay"
      pub stays : (i : ℕ) → i < stay p n → get_or r.arena (start row p + i) 0 ≡ get_or a (start row p + i) 0
      -- "all from there to the end become zero", but the last four, which are the guard's, if reserved is 5 or more
      pub zero : (i : ℕ) → start row p + stay p n ≤ i → i < owned row p + slot_bytes p.cls
          → (reserved_of (sized p n) < 5) ⊎ (i + 4 < owned row p + slot_bytes p.cls) → get_or r.arena i 0 ≡ 0
      -- "header and guard are written anew"
      pub due : Intact row r.arena (F.view r.kept) h (sized p n)
      -- no byte before the header or behind the block changes
      pub others : (i : ℕ) → (i + 4 < start row p) ⊎ (owned row p + slot_bytes p.cls ≤ i) → get_or r.arena i 0 ≡ get_or a i 0

    abbrev pub InPlaceAsSaid : Type 0
    InPlaceAsSaid = (a : List ℕ) (t : F.Kept) (h n : ℕ) → (call_by row F a t (resizes_in_place h n)).answer.number ≡ 0
        → (p : Place) × InPlace a t h n p (call_by row F a t (resizes_in_place h n))

    -- MOVE

    -- "a grant of n is made while the old block is live, that many bytes are copied, then the old is released". 02 §6: "Resize of an aligned block
    -- keeps the boundary": the grant is one of the block's alignment, which for an ordinary block is a plain one. g is what it leaves, v the new
    -- handle, b the arena after the copy
    pub record Moved (a : List ℕ) (t : F.Kept) (h n : ℕ) (p : Place) (g : Outcome F.Kept) (v : ℕ) (b : List ℕ) (r : Outcome F.Kept) : Type 0 where
      pub block : Intact row a (F.view t) h p
      pub granted : g.answer.number ≡ 0
      pub answer : r.answer ≡ g.answer
      pub released : (call_by row F b g.kept (releases h)).answer.number ≡ 0
      pub arena : r.arena ≡ (call_by row F b g.kept (releases h)).arena
      pub kept : r.kept ≡ (call_by row F b g.kept (releases h)).kept
      -- 02 §9: "another that always moves": the block is at another place, and has the bytes that it had
      pub elsewhere : start_of v ≡ start row p → ⊥
      pub stays : (i : ℕ) → i < stay p n → get_or r.arena (start_of v + i) 0 ≡ get_or a (start row p + i) 0

    abbrev pub MovedBy : List ℕ → F.Kept → ℕ → ℕ → Place → Outcome F.Kept → Outcome F.Kept → Type 0
    MovedBy a t h n p g r = let v = get_or g.answer.values 0 0 in Moved a t h n p g v (write g.arena (copies (start row p) (start_of v) (stay p n))) r

    abbrev pub MovesAsSaid : Type 0
    MovesAsSaid = (a : List ℕ) (t : F.Kept) (h n : ℕ) → (call_by row F a t (moves h n)).answer.number ≡ 0
        → (p : Place) × MovedBy a t h n p (call_by row F a t (grants_aligned n (align_of (align p.state)))) (call_by row F a t (moves h n))
