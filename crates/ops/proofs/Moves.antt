-- A block that moves, and one that stays as it was, with the totals.
use Rattle.mem.proofs.Prelude.{◌∙◌, ◌≡◌, sym, ap, ap₂, refl, Some, List, ℕ, min, Ok, Err}
use Rattle.mem.specs.Bytes.{put, part}
use Rattle.classes.specs.Alignments.{Askable}
use Rattle.model.specs.declared.Refusal.{Refusal}
use Rattle.model.specs.declared.Totals.{Totals}
use Rattle.model.specs.State.{Place, align, pool_of}
use Rattle.model.specs.Blocks.{frame}
use Rattle.model.specs.Plans.{refused_on, reserve, release_at, move_at, totals}
use Rattle.model.specs.Tables.{masks_layout, view, encode}
use Rattle.model.specs.Calls.{kept_in, engine, written}
use Rattle.rows.specs.declared.Block.{Block}
use Rattle.rows.specs.Rows.{Lent, block_of, owned_at, start_at, handle_at, Holds}
use Rattle.frames.specs.Blocks.{CarriedOutBy}
use Rattle.frames.proofs.Places.{held_pool}
use Rattle.frames.proofs.Moves.{beside, moved_pool}
use Rattle.frames.proofs.Moves as frames

module _ {row len : ℕ} {t : List ℕ} (r : Lent masks_layout row len t) (v n : ℕ) (small : Askable v n) (q : Place)
    (found : reserve row (view row t) v n ≡ Some q) {b : Block} {p : Place} (h : Holds masks_layout row t b p) where
  pub moved : (c : Block) (a a₁ a₂ a₃ u : List ℕ) (s : ℕ) (z : Totals) → block_of row q ≡ c
      → a₁ ≡ put (owned_at row c) (frame c.class c.slot c.alloc.disp c.alloc.size) a
      → a₂ ≡ put (start_at row c) (part (start_at row b) (min b.alloc.size n) a₁) a₁
      → a₃ ≡ written a₂ (release_at row (beside r v n small q found h).place).changes → u ≡ encode row (release_at row
      (beside r v n small q found h).place).pool
      → z ≡ totals row (release_at row (beside r v n small q found h).place).pool → s ≡ handle_at row c
      → v ≡ align p.state → CarriedOutBy (engine row) a (move_at row (pool_of p) n p) (Ok s) a₃ (kept_in u z)
  moved c a a₁ a₂ a₃ u s z ec e₁ e₂ e₃ eu ez es ev =
      let d = frames.moved r v n small q found h c a a₁ a₂ a₃ u s ec e₁ e₂ e₃ eu es ev in
      record {
        answer = d.answer;
        arena = d.arena;
        kept = ap₂ kept_in d.kept (ez ∙ ap (totals row) (sym (moved_pool r v n small q found h ev)));
      }

-- a refusal that names the block: nothing changes, and the totals are those of the tables
pub refused_on_lem : {row len : ℕ} {t : List ℕ} (r : Lent masks_layout row len t) {b : Block} {p : Place} (h : Holds masks_layout row t b p) (a : List ℕ) (s : Totals)
    → s ≡ totals row (view row t) → (x : Refusal) → CarriedOutBy (engine row) a (refused_on x (pool_of p) p) (Err x) a (kept_in t s)
refused_on_lem {row} r h a s f x = record { answer = refl; arena = refl; kept = ap₂ kept_in h.bytes (f ∙ ap (totals row) (held_pool r h)) }
