-- Demand 1: "Any arena bytes, table bytes, offset and size may be given, and every call ends with an answer from document 01's table or one that a
-- later request adds to it. A refusal names its reason, in the fixed order, and changes no byte of arena or tables."
use Rattle.std.specs.Prelude.{ℕ, suc, ◌+◌, ◌*◌, ◌-◌, ◌^◌, ◌≤◌, ◌<◌, ◌≡◌, Bool, not, ◌⊎◌, List, [], ◌∷◌, ◌++◌, T, length, Some}
use Rattle.classes.specs.Classes.{slot_bytes, class_of, size_limit}
use Rattle.classes.specs.Alignments.{align_of}
use Rattle.model.specs.declared.Refusal.{Refusal}
use Rattle.model.specs.declared.Refusal.TheVariants.{BadArena, Unsound, TooLarge, NoSuchBlock, AlreadyFree, Stale, HeaderDamaged, Overrun, NoRoom}
use Rattle.model.specs.declared.Refusal.TheVariants.{NotInPlace, TooLong, BadProposal, BadAlignment}
use Rattle.model.specs.State.{Pool, Place, is_live, granted, disp, size, align, start_of, pool_of, slot_number, start, handle}
use Rattle.model.specs.Blocks.{header_right, guard_right, owned_bytes}
use Rattle.model.specs.Answers.{number_of}
use Rattle.model.specs.Proposals.{entries, accepts}
use Rattle.model.specs.Plans.{Call, sets_up, grants, grants_aligned, releases, resizes_in_place, moves, measures, reports, grants_list, reserve_all, pool_after}
use Rattle.model.specs.Plans.{NoPlace}
use Rattle.model.specs.Calls.{Form, call_by, set_up_right_by}

-- a reason to refuse a call, and when it is due by itself
pub record Reason : Type 1 where
  pub refusal : Refusal
  pub due : Type 0

abbrev pub when : Refusal → Type 0 → Reason
when r d = record { refusal = r; due = d }

-- k is the number of the first reason of a list that is due, or 0 if none is
abbrev pub FirstDue : List Reason → ℕ → Type 0
FirstDue [] k = k ≡ 0
FirstDue (r ∷ rs) k = ((k ≡ number_of r.refusal) × r.due) ⊎ ((r.due → ⊥) × FirstDue rs k)

-- "With a refusal the value is 0 (from report, six zeros)"
pub data RefusedValues : Call → List ℕ → Type 0 where
  six-zeros : RefusedValues reports (0 ∷ 0 ∷ 0 ∷ 0 ∷ 0 ∷ 0 ∷ [])
  one_zero : {c : Call} → (c ≡ reports → ⊥) → RefusedValues c (0 ∷ [])

-- 02 §3: "Answer 9, list too long, is given exactly if L exceeds 17 times the cap, or the cap is out of its range, or the lent list has
-- fewer than 17 places"
pub data TooLongList (total cap places : ℕ) : Type 0 where
  longer : entries * cap < total → TooLongList total cap places
  no_cap : cap < 1 → TooLongList total cap places
  large_cap : size_limit ≤ cap → TooLongList total cap places
  few_places : places < entries → TooLongList total cap places

-- 02 §6: "Alignments 1, 2, 4, 8 and 16 are an ordinary grant. Any other that is not a power of two up to 4,096 is answer 13"
abbrev pub NoAlignment : ℕ → Type 0
NoAlignment b = (j : ℕ) → j ≤ 12 → b ≡ 2 ^ j → ⊥

-- a block's class is that of a size or the next one up
abbrev pub Near : (c n : ℕ) → Type 0
Near c n = (c ≡ class_of n) ⊎ (c ≡ suc (class_of n))

-- 02 §6: "it is in place if n itself fits as in 01 and the block's class is that of the enlarged size or the next one up"
pub record StaysInPlace (p : Place) (n : ℕ) : Type 0 where
  pub fits : n ≤ slot_bytes p.cls - 4 - 16 * disp p.state
  pub near : Near p.cls (n + (align_of (align p.state) - 16))

module _ (row : ℕ) where
  -- a granted slot of a pool, and the one whose last start an offset is
  pub record Slotted (P : Pool) (p : Place) : Type 0 where
    pub pool : pool_of p ≡ P
    pub granted_once : T (granted p.state)

  pub record StartsAt (P : Pool) (o : ℕ) (p : Place) : Type 0 where
    pub slotted : Slotted P p
    pub starts : start row p ≡ o

  -- "a live start": a live slot of a group of the pool, and the start by the rule
  pub record LiveAt (P : Pool) (o : ℕ) (p : Place) : Type 0 where
    pub here : StartsAt P o p
    pub live : T (is_live p.state)

  -- the 4 bytes before a block's start, and its guard, are those due
  abbrev pub header_due : List ℕ → Place → Bool
  header_due a p = header_right p.cls (slot_number p) (disp p.state) (size p.state) (owned_bytes row a p)

  abbrev pub guard_due : List ℕ → Place → Bool
  guard_due a p = guard_right p.cls (disp p.state) (size p.state) (owned_bytes row a p)

  -- "granting the accepted sizes in order would meet it": the sizes before it are granted, and then there is no place for one
  pub record Meets (P : Pool) (ns : List ℕ) : Type 0 where
    pub earlier : List ℕ
    pub size : ℕ
    pub later : List ℕ
    pub split : ns ≡ earlier ++ (size ∷ later)
    pub places : List Place
    pub granted-before : reserve_all row P earlier ≡ Some places
    pub no_place : NoPlace row (pool_after P places) (class_of size)

  -- the block that a handle names: "no such block: the offset is neither a live start nor covered by 5", "already free: it is the last start of a
  -- granted, not live slot of a present group"
  module _ (a : List ℕ) (P : Pool) (h : ℕ) where
    abbrev pub no_such_block : Reason
    no_such_block = when NoSuchBlock ((p : Place) → StartsAt P (start_of h) p → ⊥)

    abbrev pub already_free : Reason
    already_free = when AlreadyFree ((p : Place) × StartsAt P (start_of h) p × T (not (is_live p.state)))

    -- 02 §7: "Answer 10, stale, is given exactly if the start is live and the bits differ": the handle is not the block's present one
    abbrev pub stale : Reason
    stale = when Stale ((p : Place) × LiveAt P (start_of h) p × (handle row p ≡ h → ⊥))

    -- "live start, the 4 bytes before it are not those due", "header right, guard not that due"
    abbrev pub header_damaged : Reason
    header_damaged = when HeaderDamaged ((p : Place) × LiveAt P (start_of h) p × T (not (header_due a p)))

    abbrev pub overrun : Reason
    overrun = when Overrun ((p : Place) × LiveAt P (start_of h) p × T (header_due a p) × T (not (guard_due a p)))

    -- all five, in this order, before the reasons rs
    abbrev pub block_reasons : List Reason → List Reason
    block_reasons rs = no_such_block ∷ already_free ∷ stale ∷ header_damaged ∷ overrun ∷ rs

  -- "too large: n is 131,052 or more", and no room for n
  abbrev pub size_reasons : Pool → (n : ℕ) → List Reason
  size_reasons P n = when TooLarge (size_limit ≤ n) ∷ when NoRoom (NoPlace row P (class_of n)) ∷ []

  -- both calls that give a block another size: 02 §6: "answer 3 reads the enlarged new size where the offset starts such a live block"; 02 §7: "by the
  -- start, whatever the bits"
  abbrev pub TooLargeAt : Pool → (h n : ℕ) → Type 0
  TooLargeAt P h n = (size_limit ≤ n) ⊎ ((p : Place) × LiveAt P (start_of h) p × (size_limit ≤ n + (align_of (align p.state) - 16)))

  -- 02 §9: in place "refuses with 11 exactly if 01's in-place conditions (or §6's) fail"
  abbrev pub NotServed : Pool → (h n : ℕ) → Type 0
  NotServed P h n = (p : Place) × LiveAt P (start_of h) p × (StaysInPlace p n → ⊥)

  -- 02 §9: a move "can answer 8": no room for a block of its alignment
  abbrev pub NoRoomToMove : Pool → (h n : ℕ) → Type 0
  NoRoomToMove P h n = (p : Place) × LiveAt P (start_of h) p × NoPlace row P (class_of (n + (align_of (align p.state) - 16)))

  -- 3, the five, and then r
  abbrev pub new_size_reasons : List ℕ → Pool → (h n : ℕ) → Reason → List Reason
  new_size_reasons a P h n r = when TooLarge (TooLargeAt P h n) ∷ block_reasons a P h (r ∷ [])

  -- 02 §3: "Answer 17, bad proposal, exactly if the check refuses it."
  abbrev pub list_reasons : Pool → (total cap places : ℕ) → List ℕ → List Reason
  list_reasons P total cap places ns =
      when TooLong (TooLongList total cap places) ∷ when BadProposal (T (not (accepts total cap ns))) ∷ when NoRoom (Meets P ns) ∷ []

  module _ (F : Form) where
    -- "unsound: arena or table room length wrong, or a soundness rule is broken"
    abbrev pub unsound_reason : List ℕ → F.Kept → Reason
    unsound_reason a t = when Unsound (T (not (F.sound (length a) t)))

    -- "They are tested in this order, each where it applies: grant 2, 3, 8; release and measure 2, 4, 5, 6, 7; resize all of 2 to 8;
    -- report 2." 02 §3: "Order: 2, 9, 17, 8." 02 §6: "answer 13, tested between 2 and 3"; "an enlarged size of 131,052 or more is 3", which is
    -- n + align − 16, or n up to an alignment of 16. 02 §7: "Order: 2, 3, 4, 5, 10, 6, 7, 8", which 02 §9 has for a move, and for in place 11 "tested
    -- after 7"
    abbrev pub reasons : List ℕ → F.Kept → Call → List Reason
    reasons a t sets_up = when BadArena (T (not (set_up_right_by row F a t))) ∷ []
    reasons a t (grants n) = unsound_reason a t ∷ size_reasons (F.view t) n
    reasons a t (grants_aligned n b) = unsound_reason a t ∷ when BadAlignment (NoAlignment b) ∷ size_reasons (F.view t) (n + (b - 16))
    reasons a t (releases h) = unsound_reason a t ∷ block_reasons a (F.view t) h []
    reasons a t (resizes_in_place h n) = unsound_reason a t ∷ new_size_reasons a (F.view t) h n (when NotInPlace (NotServed (F.view t) h n))
    reasons a t (moves h n) = unsound_reason a t ∷ new_size_reasons a (F.view t) h n (when NoRoom (NoRoomToMove (F.view t) h n))
    reasons a t (measures h) = unsound_reason a t ∷ block_reasons a (F.view t) h []
    reasons a t reports = unsound_reason a t ∷ []
    reasons a t (grants_list total cap places ns) = unsound_reason a t ∷ list_reasons (F.view t) total cap places ns

    -- DEMAND 1, of any bytes, any record and any call; 02 §3: "A refused list leaves arena, tables and lent list unchanged"; 02 §4: "a refusal
    -- keeps it", the record, which is lent with the tables
    pub record AnsweredInOrder (a : List ℕ) (t : F.Kept) (c : Call) : Type 0 where
      pub number : FirstDue (reasons a t c) (call_by row F a t c).answer.number
      pub refused : ((call_by row F a t c).answer.number ≡ 0 → ⊥)
          → ((call_by row F a t c).arena ≡ a) × ((call_by row F a t c).kept ≡ t) × RefusedValues c (call_by row F a t c).answer.values
          × ((call_by row F a t c).answer.lent ≡ [])

    abbrev pub Demand1 : Type 0
    Demand1 = (a : List ℕ) (t : F.Kept) (c : Call) → AnsweredInOrder a t c
