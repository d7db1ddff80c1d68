-- Soundness rule by rule, in plain arithmetic: a room is sound exactly if what it says keeps each rule of document 01, with 02 §6's enlarged size and
-- boundary, and it is the one byte form of that.
use Rattle.std.specs.Prelude.{ℕ, ◌+◌, ◌*◌, ◌-◌, ◌/◌, ◌%◌, ◌≤◌, ◌<◌, ◌≡◌, not, ◌↔◌, List, ◌∷◌, ◌++◌, T, length}
use Rattle.mem.specs.Lists.{any}
use Rattle.mem.specs.Bytes.{bit}
use Rattle.classes.specs.Classes.{slot_bytes, slots_of, rows_of}
use Rattle.classes.specs.Alignments.{align_of}
use Rattle.model.specs.declared.Slot.{Slot}
use Rattle.model.specs.State.{Pool, Place, group, is_ready, is_waiting, is_live, granted, count, disp, size, align, pool_of, rows, start}
use Rattle.model.specs.Plans.{sets_up}
use Rattle.model.specs.Tables.{Layout, arena_right, encode_by, view_by, sound_by}
use Rattle.model.specs.Calls.{Form, call_by}
use Rattle.claims.specs.Demand1.{Near}

-- "An arena is 512 to 262,144 bytes, a multiple of 512"
abbrev pub ArenasAsSaid : Type 0
ArenasAsSaid = (n : ℕ) → T (arena_right 512 n) ↔ ((512 ≤ n) × (n ≤ 262144) × (n % 512 ≡ 0))

module _ (row : ℕ) where
  -- "so at most 512 rows": the same for rows of any size that is whole units
  pub record ArenaRules (n : ℕ) : Type 0 where
    pub units : row % 16 ≡ 0
    pub least : row ≤ n
    pub most : n ≤ 512 * row
    pub multiple : n % row ≡ 0

  -- "bad arena: set up only: arena length outside the rule, or table room of another size"; the room is what is lent but the record. Its one size, as
  -- docs/TABLES.md has it, is a formula of the arena's
  abbrev pub SetsUpExactly : (F : Form) → (F.Kept → List ℕ) → Type 0
  SetsUpExactly F bytes = (a : List ℕ) (t : F.Kept)
      → ((call_by row F a t sets_up).answer.number ≡ 0) ↔ (ArenaRules (length a) × (length (bytes t) ≡ 16 + 264 * (length a / row)))

  -- a group of class c behind the spans X
  pub record GroupRules (n : ℕ) (X : Pool) (c : ℕ) (ss : List Slot) : Type 0 where
    pub class : c < 48
    pub slots : length ss ≡ slots_of c
    -- "groups lie inside the arena"; that no two share a row is the form of a pool
    pub inside : row * (rows row X + rows_of row c) ≤ n
    -- "each group has a live slot"
    pub live : T (any is_live ss)

  -- "a live slot was granted, has 16d + n at most s − 4, and its class is that of n or the next one up"; "a live n is below 131,052". 02 §6: "soundness
  -- reads the enlarged size where it speaks of a live block's class, and demands the boundary"
  pub record LiveRules (p : Place) : Type 0 where
    pub once : T (granted p.state)
    pub fits : 16 * disp p.state + size p.state ≤ slot_bytes p.cls - 4
    -- "The tables keep the alignment", by the codes of 16 to 4,096 bytes
    pub code : (1 ≤ align p.state) × (align p.state ≤ 9)
    pub small : size p.state + (align_of (align p.state) - 16) < 131052
    pub near : Near p.cls (size p.state + (align_of (align p.state) - 16))
    pub boundary : start row p % align_of (align p.state) ≡ 0

  pub record SlotRules (p : Place) : Type 0 where
    -- "each slot is in exactly one of the three conditions"
    pub one : bit (is_ready p.state) + (bit (is_waiting p.state) + bit (is_live p.state)) ≡ 1
    -- "its use count modulo 256"
    pub uses : count p.state < 256
    pub live : T (is_live p.state) → LiveRules p
    -- "a slot granted but not live has 16d at most s − 4"
    pub idle : T (granted p.state) → T (not (is_live p.state)) → 16 * disp p.state ≤ slot_bytes p.cls - 4
    -- "a slot never granted is ready with count 0"
    pub never : T (not (granted p.state)) → T (is_ready p.state) × (count p.state ≡ 0)

  module _ (L : Layout) where
    -- the room t under an arena of n bytes
    pub record Rules (n : ℕ) (t : List ℕ) : Type 0 where
      pub arena : ArenaRules n
      -- "the arena length is the recorded one"
      pub recorded : n ≡ row * rows row (view_by L row t)
      pub groups : (X : Pool) (c : ℕ) (ss : List Slot) (Y : Pool) → view_by L row t ≡ X ++ (group c ss ∷ Y) → GroupRules n X c ss
      pub slots : (p : Place) → pool_of p ≡ view_by L row t → SlotRules p
      -- "One state of the tables has one byte form over the whole room, with zero wherever nothing is to be said; other bytes are unsound."
      pub form : t ≡ encode_by L row (view_by L row t)

    abbrev pub SoundByRules : Type 0
    SoundByRules = (n : ℕ) (t : List ℕ) → T (sound_by L row n t) ↔ Rules n t
