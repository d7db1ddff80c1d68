-- Handles: a block's start with its slot's use bits. A start is whole units, so a handle tells both.
use Rattle.mem.proofs.Prelude.{◌∙◌, ◌≡◌, sym, ap, ap₂, ℕ, ◌+◌, ◌%◌, ◌<◌, arith, Some, T, eqb, eq-eqb}
use mathlib.Core.Logic.{◌↔◌}
use Rattle.mem.proofs.Tests.{choose-true}
use Rattle.model.specs.State.{Pool, Place, is_live, count, use_bits, start_of, start, handle}
use Rattle.model.specs.Plans.{Plan, lookup, on_block, by_handle, on_handle}
use Rattle.model.proofs.Bounds.{begins_on_unit}
use Rattle.model.proofs.Lookup.{lookup_found}
use Rattle.model.proofs.Calls.{on_live}
use Rattle.model.proofs.Stays.{Stays}
use Rattle.model.proofs.Moves.{stays_start}

-- the bits are those of the count before the last grant
pub stepped_bits : (k : ℕ) → use_bits ((k + 1) % 256) ≡ k % 16
stepped_bits k = omega arith

-- bits below 16, cleared from whole units
bits_cleared : (s b : ℕ) → s % 16 ≡ 0 → b < 16 → start_of (s + b) ≡ s
bits_cleared s b e l = omega arith

module _ (row : ℕ) where
  module _ (u : row % 16 ≡ 0) where
    -- the start of a block's handle is its start
    pub start_cleared : (p : Place) → start_of (handle row p) ≡ start row p
    start_cleared p = bits_cleared (start row p) (use_bits (count p.state)) (omega (arith, begins_on_unit row p u)) (omega arith)

    -- one handle, one start
    pub same_start : (p q : Place) → handle row q ≡ handle row p → start row q ≡ start row p
    same_start p q e = sym (start_cleared q) ∙ ap start_of e ∙ start_cleared p

  -- a block that stays has its handle
  pub stays_handle : (p q : Place) → Stays row p q → handle row q ≡ handle row p
  stays_handle p q s = ap₂ (λ i k. i + use_bits k) (stays_start row p q s) (ap count s.state)

  -- at the start of a handle, the handle is the block's present one exactly if the bits are its own
  pub by_bits : (p : Place) (h : ℕ) → start row p ≡ start_of h → (handle row p ≡ h) ↔ (h % 16 ≡ use_bits (count p.state))
  by_bits p h s = (λ e. bits (start row p) (use_bits (count p.state)) s e, λ e. whole (start row p) (use_bits (count p.state)) s e)
    where
      bits : (s b : ℕ) → s ≡ start_of h → s + b ≡ h → h % 16 ≡ b
      bits s b e f = omega arith

      whole : (s b : ℕ) → s ≡ start_of h → h % 16 ≡ b → s + b ≡ h
      whole s b e f = omega arith

  -- the plan of a call on the live block of a handle
  pub on_present : 0 < row → (P : Pool) (h : ℕ) (f : Place → Plan) (p : Place) → lookup row P (start_of h) ≡ Some p → T (is_live p.state) → handle row p ≡ h
      → on_handle row P h f ≡ f p
  unfolding on_handle
  on_present pos P h f p e l i =
      ap (on_block P (by_handle P h f)) e ∙ on_live P (by_handle P h f) p l
      ∙ choose-true (eqb (h % 16) (use_bits (count p.state))) _ _ (eq-eqb _ _ ((by_bits p h (lookup_found row pos P (start_of h) p e).2).0 i))
