-- What is reserved, as a place.
use Rattle.mem.proofs.Prelude.{◌≡◌, refl, Some, None, Option, ℕ, arith}
use Rattle.model.specs.State.{Place}
use Rattle.rows.specs.declared.Block.{Block}
use Rattle.rows.specs.Rows.{block_of}
use Rattle.frames.specs.Blocks.{reserved_as}

module _ (row : ℕ) where
  pub reserved_place : (o : Option Place) (b : Block) → reserved_as row o ≡ Some b → (q : Place) × (o ≡ Some q) × (block_of row q ≡ b)
  reserved_place None b e = let z : ◌≡◌ {A = ℕ} 0 1 = cc in absurd (omega arith)
  reserved_place (Some q) b e = let h : block_of row q ≡ b = cc in (q, refl, h)

  pub reserved-none : (o : Option Place) → reserved_as row o ≡ None → o ≡ None
  reserved-none None e = refl
  reserved-none (Some q) e = let z : ◌≡◌ {A = ℕ} 0 1 = cc in absurd (omega arith)
