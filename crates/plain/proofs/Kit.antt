-- What the proofs of the plain pool's calls share: names, and the tables as the calls over any form take them.
pub use Rattle.mem.proofs.Prelude.{◌∙◌, ◌≡◌, sym, ap, refl, subst, Some, [], ◌∷◌, ◌<◌, rules, arith, lit≤, leb-true, leb-false, not-false, length, Ok, Err, Result, None}
unfoldable pub use Rattle.classes.specs.Classes.{row_bytes, size_limit}
pub use Rattle.classes.specs.Alignments.{enlarged, Askable}
pub use Rattle.classes.proofs.Laws.{card_row, card_some}
pub use Rattle.model.specs.Answers.{done}
pub use Rattle.model.specs.Tables.{view_by}
pub use Rattle.model.specs.Plain.{slots_layout, plain_form, plain_call}
pub use Rattle.frames.specs.Blocks.{found_for, CarriedOutBy}
pub use Rattle.frames.proofs.Calls.{Called, called_at, called_refused, called, carried_as, whole}
pub use Rattle.plain_tables.proofs.Rooms.{by_slots}
pub use Rattle.plain_ops.proofs.Calls.{Sound, by_check, checked, refusing}
use Rattle.mem.proofs.Prelude.{List, ℕ, true}
use Rattle.classes.specs.Classes.{Lawful}
use Rattle.model.specs.declared.Refusal.{Refusal}
use Rattle.model.specs.State.{Pool, Place, pool_of, start_of}
use Rattle.model.specs.Plans.{Plan, Call}
use Rattle.model.specs.Answers.{reply_answer}
use Rattle.model.specs.Calls.{left}
use Rattle.model.specs.Tables.{sound_by}
use Rattle.rows.specs.declared.Block.{Block}
use Rattle.rows.specs.Rows.{Holds}
use Rattle.frames.proofs.Places.{found_holds, held_pool}
use Rattle.frames.proofs.Calls.{GivesSize, CalledFor, called_for, found_sound}
use Rattle.frames.proofs.Calls as any

-- the tables hold the block that is located
pub holds : {a t : List ℕ} (r : Sound a t) {h : ℕ} {k : Place → Plan} {named : (p : Place) → (k p).checks ≡ Some p} {b : Block} (d : Called r h k named b)
    → Holds slots_layout row_bytes t b d.place
holds r {h} {b = b} d = found_holds (by_slots r.sound card_row) (start_of h) d.place d.looked_up d.live b d.block

-- ---- a call for another size, by the block that is found

module _ (a t : List ℕ) {h n : ℕ} {f : Pool → ℕ → Place → Plan} {c : Call} (s : GivesSize row_bytes (view_by slots_layout row_bytes t) h n f c) {b : Block}
    (e : Ok b ≡ found_for row_bytes (plain_form row_bytes) a t h n) where
  passed : Sound a t
  passed = by_check a t (found_sound (plain_form row_bytes) a t s e).0

  block : CalledFor passed h (f (view_by slots_layout row_bytes t) n) s.names card_some n b
  block = called_for passed h (f (view_by slots_layout row_bytes t) n) s.names card_some n b (found_sound (plain_form row_bytes) a t s e).1

  held : Holds slots_layout row_bytes t b block.block.place
  held = holds passed block.block

  -- what an operation on it requires
  pub size-asked : (sound_by slots_layout row_bytes (length a) t ≡ true)
      × (((p : Place) × Holds slots_layout row_bytes t b p) × (Askable b.alloc.align n × Lawful row_bytes))
  size-asked = (passed.sound, ((block.block.place, held), (block.askable, card_row)))

  -- and what the call leaves by what it ensures
  pub size-given : {w : Result ℕ Refusal} {x u : List ℕ} → ((p : Place) → Holds slots_layout row_bytes t b p → CarriedOutBy (plain_form row_bytes) a (f (pool_of p) n p) w x u)
      → left (reply_answer w) x u ≡ plain_call row_bytes a t c
  size-given {w} {x} {u} o =
      any.size-given (plain_form row_bytes) a t s passed card_some block
      (subst (λ P. CarriedOutBy (plain_form row_bytes) a (f P n block.block.place) w x u) (sym (held_pool (by_slots passed.sound card_row) held))
      (o block.block.place held))
