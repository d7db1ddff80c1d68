-- What the proofs of the calls share: names, and what a call tells.
pub use Rattle.mem.proofs.Prelude.{◌∙◌, ◌≡◌, sym, ap, ap₂, refl, subst, [], ◌∷◌, ◌<◌, ◌/◌, arith, rules, lit≤, leb-true, leb-false, length, List, ℕ}
unfoldable pub use Rattle.classes.specs.Classes.{row_bytes, size_limit}
pub use Rattle.classes.specs.Alignments.{enlarged, Askable}
pub use Rattle.classes.proofs.Laws.{card_row, card_some}
pub use Rattle.model.specs.Answers.{done}
pub use Rattle.model.specs.Tables.{view}
pub use Rattle.model.specs.Calls.{kept_in, engine}
pub use Rattle.frames.specs.Blocks.{CarriedOutBy}
pub use Rattle.frames.proofs.Calls.{Called, called_at, called_refused, called, carried_as, whole}
pub use Rattle.ops.proofs.Calls.{Checked, by_check, checked, refusing, holds, size-asked, size-given}
