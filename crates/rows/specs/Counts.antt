-- What is counted of rows in the walk that tests them, in any layout, each piece over the room's bytes from its place on.
use Rattle.std.specs.Prelude.{ℕ, ◌+◌, ◌*◌, ◌≤◌, Bool, List, [], ◌∷◌, Option, Some, None}
use Rattle.mem.specs.Lists.{choose, sum}
use Rattle.mem.specs.Bytes.{bit}
use Rattle.model.specs.declared.Slot.{Slot}
use Rattle.model.specs.declared.Holder.{Holder}
use Rattle.model.specs.declared.Holder.TheVariants.{Free, First, Later}
use Rattle.model.specs.declared.Totals.{Totals}
use Rattle.model.specs.State.{Span, free, group, is_live, is_ready, is_waiting, size}
use Rattle.model.specs.Plans.{totals}
use Rattle.model.specs.Tables.{Layout, view_holder, view_rows_by}
use Rattle.rows.specs.declared.Frame.{Frame}
use Rattle.rows.specs.Checks.{span_checked, rows_checked}

-- the rows that totals are of
abbrev pub all_rows : Totals → ℕ
all_rows s = s.held + s.free

-- totals in which a row counts for at most 31 slots and 2 ^ 32 bytes
abbrev pub PerRow : Totals → Type 0
PerRow s = (s.blocks ≤ 31 * all_rows s) × (s.bytes ≤ 4294967296 * all_rows s) × (s.ready ≤ 31 * all_rows s)
    × (s.waiting ≤ 31 * all_rows s)

abbrev pub plus : Totals → Totals → Totals
plus a b = record {
  blocks = a.blocks + b.blocks;
  bytes = a.bytes + b.bytes;
  held = a.held + b.held;
  free = a.free + b.free;
  ready = a.ready + b.ready;
  waiting = a.waiting + b.waiting;
}

-- what is counted of rows that passed a test, or not
abbrev pub count_if : Bool → Totals → Option Totals
count_if b s = choose b (Some s) None

-- a group of k rows, by its slots
abbrev pub group_totals : ℕ → List Slot → Totals
group_totals k ss = record {
  blocks = sum (λ x. bit (is_live x)) ss;
  bytes = sum size ss;
  held = k;
  free = 0;
  ready = sum (λ x. bit (is_ready x)) ss;
  waiting = sum (λ x. bit (is_waiting x)) ss;
}

-- the span that begins here, by who holds its first row; a sound span does not begin with a later row
abbrev pub span_held : Layout → List ℕ → Holder → Span
span_held L t Free = free
span_held L t (First c) = group c (L.slots_in c t)
span_held L t (Later k) = free

-- by what begins with its rows, and what is counted of the slots of a group
abbrev pub frame_counted : Option Frame → (ℕ → ℕ → Option Totals) → Option Totals
frame_counted (Some Frame.Free) f = Some (record { blocks = 0; bytes = 0; held = 0; free = 1; ready = 0; waiting = 0 })
frame_counted (Some (Frame.Group c k)) f = f c k
frame_counted None f = None

abbrev pub tile_counted : Option ℕ → Totals → Option Totals
tile_counted (Some k) s = Some s
tile_counted None s = None

module _ (L : Layout) (row : ℕ) where
  -- the span that begins here, where n rows are left and the first has the arena's byte at first
  unfoldable pub span_counted : (at n : ℕ) → List ℕ → Option Totals
  span_counted at n t = tile_counted (span_checked L row at n t) (totals row (span_held L t (view_holder t) ∷ []))

  -- all rows that are left, n of them
  unfoldable pub rows_counted : (at n : ℕ) → List ℕ → Option Totals
  rows_counted at n t = count_if (rows_checked L row at n t) (totals row (view_rows_by L row n 0 t))
