-- What the searches make of rows, by who holds them, and blocks by their place in rows and slots.
use Rattle.std.specs.Prelude.{ℕ, ◌+◌, ◌*◌, ◌-◌, ◌/◌, ◌≤◌, ◌<◌, ◌≡◌, Bool, true, not, List, [], ◌∷◌, ◌++◌, T, leb, length, Option, None, Some}
use Rattle.mem.specs.Lists.{choose, every, any}
use Rattle.classes.specs.Classes.{slot_bytes, slots_of, rows_of}
use Rattle.model.specs.declared.Holder.{Holder}
use Rattle.model.specs.declared.Holder.TheVariants.{Free, First, Later}
use Rattle.model.specs.declared.Slot.{Slot}
use Rattle.model.specs.declared.Slot.TheVariants.{Live}
use Rattle.model.specs.State.{Pool, Place, group, is_live, count, disp, size, align, slot_sound, well_formed, use_bits, pool_of, slot_number, rows}
use Rattle.model.specs.Plans.{Site, open_from}
use Rattle.model.specs.Tables.{Layout, LayoutLaws, row_at, arena_right, encode_by, view_by, sound_by, most_rows}
use Rattle.rows.specs.declared.Run.{Run}
use Rattle.rows.specs.declared.Block.{Block}
use Rattle.rows.specs.declared.Looked.{Looked}
use Rattle.rows.specs.declared.Looked.TheVariants.{Present, Freed, Absent}

-- a room that is sound under an arena of n bytes, in rows of a size and in a lawful layout
pub record Lent (L : Layout) (row n : ℕ) (t : List ℕ) : Type 0 where
  pub laws : LayoutLaws L
  pub pos : 0 < row
  pub sound : sound_by L row n t ≡ true

-- the rows of an arena of n bytes; 0 where the length is outside the rule
unfoldable pub arena_rows : ℕ → ℕ → ℕ
arena_rows row n = choose (arena_right row n) (n / row) 0

-- the class of a first row; 0 of another
abbrev pub class_held : Holder → ℕ
class_held Free = 0
class_held (First c) = c
class_held (Later k) = 0

-- whether row i can be so far from its group's first
abbrev pub reaches : ℕ → Holder → Bool
reaches i Free = true
reaches i (First c) = true
reaches i (Later k) = leb k i

-- the first row of the group that row i belongs to
abbrev pub first_of : ℕ → Holder → Option ℕ
first_of i Free = None
first_of i (First c) = Some i
first_of i (Later k) = Some (i - k)

module _ (row : ℕ) where
  -- the rows of the span that a row begins
  abbrev pub rows_held : Holder → ℕ
  rows_held Free = 1
  rows_held (First c) = rows_of row c
  rows_held (Later k) = 1

  -- a run of free rows, one span further
  abbrev pub next_run : Run → Holder → Run
  next_run r Free = record { from = r.from; next = r.next + 1 }
  next_run r (First c) = record { from = r.next + rows_of row c; next = r.next + rows_of row c }
  next_run r (Later k) = record { from = r.from; next = r.next + 1 }

  -- a site by its first row
  abbrev pub site_found : Option Site → Option ℕ
  site_found None = None
  site_found (Some s) = Some (rows row s.before)

  -- a live slot's block, the first byte that its slot owns, its start, and its handle
  abbrev pub block_of : Place → Block
  block_of p = record {
    first = rows row p.before;
    class = p.cls;
    slot = slot_number p;
    alloc = record { count = count p.state; disp = disp p.state; size = size p.state; align = align p.state };
  }

  -- what is looked up, as the code has it
  abbrev pub looked : Option Place → Looked
  looked None = Absent
  looked (Some p) = choose (is_live p.state) (Present (block_of p)) Freed

  abbrev pub owned_at : Block → ℕ
  owned_at b = row * b.first + 12 + b.slot * slot_bytes b.class

  abbrev pub start_at : Block → ℕ
  start_at b = row * b.first + 16 + b.slot * slot_bytes b.class + 16 * b.alloc.disp

  abbrev pub handle_at : Block → ℕ
  handle_at b = start_at b + use_bits b.alloc.count

-- a live slot with another size
abbrev pub resized : Place → ℕ → Slot
resized p n = Live (record { count = count p.state; disp = disp p.state; size = n; align = align p.state })

-- the spans of the first i rows, which do not matter: what is looked for, behind what was passed by, is in what is left
pub record Passed {A : Type 0} (L : Layout) (row : ℕ) (t : List ℕ) (f : Pool → Pool → A) (i : ℕ) : Type 0 where
  pub before : Pool
  pub after : Pool
  pub split : view_by L row t ≡ before ++ after
  pub count : rows row before ≡ i
  pub same : f [] (view_by L row t) ≡ f before after

-- no group of class c before row i serves
abbrev pub NoneOpen : Layout → (row : ℕ) → List ℕ → (c i : ℕ) → Type 0
NoneOpen L row t c i = Passed L row t (λ X Y. open_from X c Y) i

-- a room that is the form of the pool of a live place, whose block is b
pub record Holds (L : Layout) (row : ℕ) (t : List ℕ) (b : Block) (p : Place) : Type 0 where
  pub laws : LayoutLaws L
  pub pos : 0 < row
  pub bytes : t ≡ encode_by L row (pool_of p)
  pub block : b ≡ block_of row p
  pub live : T (is_live p.state)
  pub formed : T (well_formed (pool_of p))
  pub few : rows row (pool_of p) ≤ most_rows

-- a room with a group of class c from row i on, in which a slot can be taken: one that can serve, or a new one
pub record Offers (L : Layout) (row : ℕ) (t : List ℕ) (i c : ℕ) (g : Site) : Type 0 where
  pub laws : LayoutLaws L
  pub pos : 0 < row
  pub bytes : t ≡ encode_by L row (g.before ++ (group c g.slots ∷ g.after))
  pub first : i ≡ rows row g.before
  pub few : i + rows_of row c ≤ most_rows
  pub room : row_at (i + rows_of row c) ≤ length t
  pub class : c < 48
  pub before : T (well_formed g.before)
  pub slots : length g.slots ≡ slots_of c
  pub sound : T (every (slot_sound c) g.slots)
  pub spare : T (any (λ x. not (is_live x)) g.slots)
