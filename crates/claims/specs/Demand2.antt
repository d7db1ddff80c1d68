-- Demand 2: "Every call does what document 01 says after mallocng: class, slot, start, header, guard. With sound tables, release
-- accepts an offset exactly if it starts a live block whose header and guard are intact." (02 §7: "Demand 2's release takes the live block's
-- present handle.") "A grant is refused exactly if the size is 131,052 or more, the tables are unsound, or neither a free slot of its class nor a
-- long enough run of free rows exists. Live blocks never share a byte."
use Rattle.std.specs.Prelude.{ℕ, suc, ◌+◌, ◌*◌, ◌-◌, ◌/◌, ◌%◌, ◌^◌, ◌≤◌, ◌<◌, max, ◌≡◌, true, not, ◌⊎◌, ◌↔◌, List, [], ◌∷◌, ◌++◌, T, length, get_or, replicate}
use Rattle.mem.specs.Lists.{any, every}
use Rattle.classes.specs.Classes.{slot_bytes, class_of, slots_of, rows_of, size_limit}
use Rattle.classes.specs.Alignments.{ordinary, align_of, code_of}
use Rattle.model.specs.declared.Slot.{Slot}
use Rattle.model.specs.declared.Slot.TheVariants.{Fresh, Idle, Live}
use Rattle.model.specs.State.{Pool, Place, group, is_live, is_ready, is_waiting, count, disp, size, align, start_of, pool_of, rows, beginning, owned, start}
use Rattle.model.specs.State.{handle}
use Rattle.model.specs.Plans.{Call, grants, grants_aligned, releases, resizes_in_place, measures, fresh_pool, AllLive, NoPlace}
use Rattle.model.specs.Calls.{Form, call_by}
use Rattle.claims.specs.Demand1.{NoAlignment, Near, LiveAt, header_due, guard_due}

-- "Reserved is s − 4 − 16d − n."
abbrev pub reserved_of : Place → ℕ
reserved_of p = slot_bytes p.cls - 4 - 16 * disp p.state - size p.state

-- a slot where all waiting slots become ready: one that waits keeps its count and its last start, any other stays as it is
pub record TurnsReady (x y : Slot) : Type 0 where
  pub waits : T (is_waiting x) → y ≡ Idle true (count x) (disp x)
  pub stays : T (not (is_waiting x)) → y ≡ x

-- "If its ready set is empty, all waiting slots become ready first.": the slots of a group, and as a slot is taken of them
pub record Refilled (ss rs : List Slot) : Type 0 where
  pub some_ready : T (any is_ready ss) → rs ≡ ss
  pub none_ready : T (every (λ x. not (is_ready x)) ss) → (length rs ≡ length ss) × ((i : ℕ) → TurnsReady (get_or ss i Fresh) (get_or rs i Fresh))

-- n bytes, which can be asked for, and which the slot of a block does not serve: "In place if n is at most s − 4 − 16d", and 02 §6: "if .. the block's
-- class is that of the enlarged size or the next one up"
pub record Outgrows (p : Place) (n : ℕ) : Type 0 where
  pub small : n + (align_of (align p.state) - 16) < size_limit
  pub fails : (slot_bytes p.cls - 4 - 16 * disp p.state < n) ⊎ (Near p.cls (n + (align_of (align p.state) - 16)) → ⊥)

module _ (row : ℕ) where
  -- a live block of a pool by its present handle, whose 4 header bytes and guard bytes are those due
  pub record Intact (a : List ℕ) (P : Pool) (h : ℕ) (p : Place) : Type 0 where
    pub live : LiveAt row P (start_of h) p
    pub present : handle row p ≡ h
    pub header : T (header_due row a p)
    pub guard : T (guard_due row a p)

  module _ (F : Form) where
    -- "With sound tables, release accepts an offset exactly if it starts a live block whose header and guard are intact." 02 §7: "Demand 2's release
    -- takes the live block's present handle."
    abbrev pub ReleasesExactly : Type 0
    ReleasesExactly = (a : List ℕ) (t : F.Kept) (h : ℕ) → T (F.sound (length a) t)
        → ((call_by row F a t (releases h)).answer.number ≡ 0) ↔ ((p : Place) × Intact a (F.view t) h p)

    -- measure likewise, and "Measure gives n."
    abbrev pub MeasuresExactly : Type 0
    MeasuresExactly = (a : List ℕ) (t : F.Kept) (h : ℕ) → T (F.sound (length a) t)
        → (((call_by row F a t (measures h)).answer.number ≡ 0) ↔ ((p : Place) × Intact a (F.view t) h p))
        × ((p : Place) → Intact a (F.view t) h p → (call_by row F a t (measures h)).answer.values ≡ size p.state ∷ [])

    -- 02 §9: in place "refuses with 11 exactly if 01's in-place conditions (or §6's) fail, tested after 7"
    abbrev pub InPlaceExactly : Type 0
    InPlaceExactly = (a : List ℕ) (t : F.Kept) (h n : ℕ) → T (F.sound (length a) t)
        → ((call_by row F a t (resizes_in_place h n)).answer.number ≡ 11) ↔ ((p : Place) × Intact a (F.view t) h p × Outgrows p n)

    -- "A grant is refused exactly if .."
    abbrev pub GrantsExactly : Type 0
    GrantsExactly = (a : List ℕ) (t : F.Kept) (n : ℕ)
        → ((call_by row F a t (grants n)).answer.number ≡ 0 → ⊥) ↔
        ((size_limit ≤ n) ⊎ (T (not (F.sound (length a) t)) ⊎ NoPlace row (F.view t) (class_of n)))

    -- 02 §6: "Demand 2 reads the enlarged size and adds 13": an aligned grant is refused exactly if there is no such alignment, the enlarged size is
    -- 131,052 or more, the tables are unsound, or there is no place for its class
    abbrev pub AlignedExactly : Type 0
    AlignedExactly = (a : List ℕ) (t : F.Kept) (n b : ℕ)
        → ((call_by row F a t (grants_aligned n b)).answer.number ≡ 0 → ⊥) ↔
        (NoAlignment b ⊎ ((size_limit ≤ n + (b - 16)) ⊎ (T (not (F.sound (length a) t)) ⊎ NoPlace row (F.view t) (class_of (n + (b - 16))))))

  -- the group that serves: "Of the groups of n's class with a slot not live, take the one with the lowest first row", or, "If there is
  -- no such group, make one at the lowest run of R free rows, all slots ready"; between X and Y, with slots ss
  pub record Opened (P : Pool) (c : ℕ) (X : Pool) (ss : List Slot) (Y : Pool) : Type 0 where
    pub there : P ≡ X ++ (group c ss ∷ Y)
    pub not_live : T (any (λ x. not (is_live x)) ss)
    pub lowest : AllLive X c

  pub record Made (P : Pool) (c : ℕ) (X : Pool) (ss : List Slot) (Y : Pool) : Type 0 where
    pub none : AllLive P c
    pub there : P ≡ X ++ (fresh_pool (rows_of row c) ++ Y)
    pub fresh : ss ≡ replicate (slots_of c) Fresh
    pub lowest : (X' Y' : Pool) → P ≡ X' ++ (fresh_pool (rows_of row c) ++ Y') → rows row X ≤ rows row X'

  -- a slot laid out for its block, byte by byte, in the arena a, which becomes b: "The slot's s owned bytes become zero, then header and guard are
  -- written; no other arena byte changes."
  pub record LaidOut (a b : List ℕ) (p : Place) : Type 0 where
    pub long : length b ≡ length a
    -- all but the header, and the last four, which are the guard's, if reserved is 5 or more
    pub zero : (i : ℕ) → owned row p ≤ i → i < owned row p + slot_bytes p.cls → (i + 4 < start row p) ⊎ (start row p ≤ i)
        → (reserved_of p < 5) ⊎ (i + 4 < owned row p + slot_bytes p.cls) → get_or b i 0 ≡ 0
    pub others : (i : ℕ) → (i < owned row p) ⊎ (owned row p + slot_bytes p.cls ≤ i) → get_or b i 0 ≡ get_or a i 0

  module _ (F : Form) where
    -- a block that a call grants, of n bytes with an alignment, is where and what document 01 says, c being its class
    pub record GrantedBy (a : List ℕ) (t : F.Kept) (asks : Call) (code n c : ℕ) (p : Place) : Type 0 where
      pub slots : List Slot
      pub served : Opened (F.view t) c p.before slots p.after ⊎ Made (F.view t) c p.before slots p.after
      pub old : Slot
      -- "If its ready set is empty, all waiting slots become ready first. Take its lowest ready slot."
      pub refilled : Refilled slots (p.lower ++ (old ∷ p.upper))
      pub ready : T (is_ready old)
      pub lowest : T (every (λ x. not (is_ready x)) p.lower)
      pub cls : p.cls ≡ c
      -- "then the count goes up by one, 255 becoming 0"
      pub state : p.state ≡ Live (record { count = (count old + 1) % 256; disp = disp p.state; size = n; align = code })
      -- "Let t be the whole part of (s − 4 − n) / 16; d is the slot's count modulo (t + 1)"; of an aligned grant see `GrantedAligned`
      pub displaced : code ≡ ordinary → disp p.state ≡ count old % suc ((slot_bytes c - 4 - n) / 16)
      pub value : (call_by row F a t asks).answer.values ≡ handle row p ∷ []
      -- 02 §7: "the value from a grant now carries in its low four bits the slot's use count before that grant, modulo 16"
      pub bits : handle row p ≡ start row p + count old % 16
      -- the tables have the block by its handle, whose start has the low four bits cleared, and its header and guard are those due
      pub due : Intact (call_by row F a t asks).arena (F.view (call_by row F a t asks).kept) (handle row p) p
      pub bytes : LaidOut a (call_by row F a t asks).arena p

    abbrev pub GrantsAsSaid : Type 0
    GrantsAsSaid = (a : List ℕ) (t : F.Kept) (n : ℕ) → (call_by row F a t (grants n)).answer.number ≡ 0
        → (p : Place) × GrantedBy a t (grants n) ordinary n (class_of n) p

    -- 02 §6: "the class and slot are those of n + align − 16; the start is the lowest multiple of align at or after the slot's beginning." "The
    -- tables keep the alignment"
    pub record GrantedAligned (a : List ℕ) (t : F.Kept) (n b : ℕ) (p : Place) : Type 0 where
      pub granted : GrantedBy a t (grants_aligned n b) (code_of b) n (class_of (n + (b - 16))) p
      pub multiple : start row p % b ≡ 0
      pub after : beginning row p ≤ start row p
      pub lowest : 16 < b → start row p < beginning row p + b
      pub kept : align_of (align p.state) ≡ max 16 b

    abbrev pub AlignedAsSaid : Type 0
    AlignedAsSaid = (a : List ℕ) (t : F.Kept) (n b : ℕ) → (call_by row F a t (grants_aligned n b)).answer.number ≡ 0 → (p : Place) × GrantedAligned a t n b p

    -- "Alignments 1, 2, 4, 8 and 16 are an ordinary grant."
    abbrev pub AlignedOrdinary : Type 0
    AlignedOrdinary = (a : List ℕ) (t : F.Kept) (n j : ℕ) → j ≤ 4 → call_by row F a t (grants_aligned n (2 ^ j)) ≡ call_by row F a t (grants n)

  -- "Live blocks never share a byte": byte i is in the header, the requested bytes or the reserved bytes of a block
  pub record InBlock (p : Place) (i : ℕ) : Type 0 where
    pub from : start row p ≤ i + 4
    pub to : i < owned row p + slot_bytes p.cls

  pub record Apart (P : Pool) : Type 0 where
    pub shared : (p q : Place) (i : ℕ) → pool_of p ≡ P → pool_of q ≡ P → T (is_live p.state) → T (is_live q.state) → InBlock p i → InBlock q i → p ≡ q
    pub inside : (p : Place) (i : ℕ) → pool_of p ≡ P → T (is_live p.state) → InBlock p i → i < row * rows row P
    -- a block has the bytes asked for
    pub whole : (p : Place) (i : ℕ) → pool_of p ≡ P → T (is_live p.state) → start row p ≤ i → i < start row p + size p.state → InBlock p i

  module _ (F : Form) where
    abbrev pub NeverShared : Type 0
    NeverShared = (n : ℕ) (t : F.Kept) → T (F.sound n t) → Apart (F.view t)

    -- "Every accepted call leaves sound tables." A set up makes them sound, whatever they were.
    abbrev pub LeavesSound : Type 0
    LeavesSound = (a : List ℕ) (t : F.Kept) (c : Call) → (call_by row F a t c).answer.number ≡ 0 → T
        (F.sound (length (call_by row F a t c).arena) (call_by row F a t c).kept)
