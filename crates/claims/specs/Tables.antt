-- What is claimed of tables in a layout, for rows of a given size.
use Rattle.std.specs.Prelude.{ℕ, ◌+◌, ◌*◌, ◌/◌, ◌≤◌, ◌≡◌, false, List, T, ltb, length}
use Rattle.mem.specs.Lists.{every}
use Rattle.mem.specs.Bytes.{zeros}
use Rattle.model.specs.State.{Pool, well_formed, aligned, rows}
use Rattle.model.specs.Tables.{Layout, encode_by, view_by, sound_by, arena_right, room_bytes, room_for}

pub record TableForm (row : ℕ) (L : Layout) : Type 0 where
  -- "One state of the tables has one byte form over the whole room": the form says the state, and is sound
  pub says : (P : Pool) → T (well_formed P) → view_by L row (encode_by L row P) ≡ P
  pub accepted : (P : Pool) (n : ℕ) → T (well_formed P) → T (aligned row P) → T (arena_right row n) → n ≡ row * rows row P
      → T (sound_by L row n (encode_by L row P))
  -- "other bytes are unsound"
  pub only : (n : ℕ) (t : List ℕ) → T (sound_by L row n t) → encode_by L row (view_by L row t) ≡ t
  pub never_set_up : (n k : ℕ) → sound_by L row n (zeros k) ≡ false
  -- every element is a byte
  pub bytes : (P : Pool) → T (well_formed P) → T (every (λ b. ltb b 256) (encode_by L row P))
  -- "The table room has one exact size per arena length, .. at most 12 bytes a unit, plus 64 a row, plus 256."
  pub long : (P : Pool) → T (well_formed P) → length (encode_by L row P) ≡ room_bytes (rows row P)
  pub right-size : (n : ℕ) (t : List ℕ) → T (sound_by L row n t) → length t ≡ room_for row n
  pub small : (n : ℕ) → room_for row n ≤ 12 * (n / 16) + 64 * (n / row) + 256
