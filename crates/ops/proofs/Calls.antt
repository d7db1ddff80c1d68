-- The first engine's calls by what the code finds: those over any form (frames/proofs/Calls), for tables that are lent with their totals.
use Rattle.mem.proofs.Prelude.{◌∙◌, ◌≡◌, sym, ap, ap₂, subst, true, Bool, false, not, not-false, not-true, Option, Some, None, List, ℕ, length, Ok, Err, Result}
use Rattle.mem.specs.Bytes.{put}
use Rattle.classes.specs.Classes.{Lawful, row_bytes}
use Rattle.classes.specs.Alignments.{Askable}
use Rattle.classes.proofs.Laws.{card_row}
use Rattle.model.specs.declared.Refusal.{Refusal}
use Rattle.model.specs.declared.Refusal.TheVariants.{NoRoom}
use Rattle.model.specs.declared.Totals.{Totals}
use Rattle.model.specs.State.{Pool, Place, start_of, pool_of}
use Rattle.model.specs.Blocks.{frame}
use Rattle.model.specs.Plans.{Plan, Call, grant_as, reserve, totals}
use Rattle.model.specs.Tables.{masks_layout, view, sound}
use Rattle.model.specs.Answers.{reply_answer}
use Rattle.model.specs.Calls.{KeptBytes, kept_in, left, engine, sound_kept, call, call_by, unsound, keeps}
use Rattle.model.proofs.Kept.{kept_sound, kept_totals, engine_lawful}
use Rattle.model.proofs.Calls.{Asks, call-unsound}
use Rattle.rows.specs.declared.Block.{Block}
use Rattle.rows.specs.Rows.{Lent, owned_at, handle_at, Holds}
use Rattle.rows.proofs.Rooms.{by_masks}
use Rattle.frames.specs.Blocks.{Standing, found_for, reserved_as, CarriedOutBy}
use Rattle.frames.proofs.Places.{found_holds, held_pool, reserved_stands}
use Rattle.frames.proofs.Calls as any
use Rattle.reserving.specs.Reserves.{next_room, next_totals}
use Rattle.frames.proofs.Reserved.{reserved_place, reserved-none}

-- what is lent passed the check: for the calls over any form; the tables are sound; the totals are theirs
pub record Checked (row : ℕ) (a : List ℕ) (t : KeptBytes) : Type 0 where
  pub form : any.Checked row (engine row) a t
  pub room : Lent masks_layout row (length a) t.tables
  pub counts : t.totals ≡ totals row (view row t.tables)

pub by_check : {row : ℕ} (a : List ℕ) (t : KeptBytes) → sound_kept row (length a) t ≡ true → Lawful row → Checked row a t
by_check {row} a t s law =
    let r = by_masks (kept_sound row (length a) t s) law in
    record { form = record { laws = engine_lawful row r.pos; sound = s }; room = r; counts = kept_totals row (length a) t s }

-- by what the check of a row's 512 bytes said, which the code negates
module _ (a : List ℕ) (t : KeptBytes) {w : Bool} (e : w ≡ sound_kept 512 (length a) t) where
  pub checked : not w ≡ false → Checked row_bytes a t
  unfolding row_bytes
  checked h = by_check a t (sym e ∙ not-false w h) card_row

  pub refusing : (c : Call) → Asks c → not w ≡ true → keeps (unsound c) a t ≡ call row_bytes a t c
  unfolding row_bytes
  refusing c k h = sym (call-unsound row_bytes (engine row_bytes) a t c k (sym e ∙ not-true w h))

module _ {row : ℕ} {a : List ℕ} {t : KeptBytes} (r : Checked row a t) where
  -- ---- grant

  module _ (k n : ℕ) (small : Askable k n) where
    -- the plan of a grant, with an alignment, and the place that it finds
    abbrev asked : Plan
    asked = grant_as row (view row t.tables) k n

    abbrev found : Option Place
    found = reserve row (view row t.tables) k n

    pub granted-none : {u : List ℕ} {z : Totals} → reserved_as row found ≡ None → u ≡ next_room row t.tables found → z ≡ next_totals row t.totals found
        → CarriedOutBy (engine row) a asked (Err NoRoom) a (kept_in u z)
    granted-none e f g =
        let q = reserved-none row found e in
        rw (f ∙ ap (next_room row t.tables) q, g ∙ ap (next_totals row t.totals) q) (any.granted-none r.form k n small q)

    -- what a grant of a reserved block leaves, and where the block stands
    pub record GrantedAt (b : Block) (z : Totals) (u : List ℕ) : Type 0 where
      pub result : CarriedOutBy (engine row) a asked (Ok (handle_at row b))
          (put (owned_at row b) (frame b.class b.slot b.alloc.disp b.alloc.size) a) (kept_in u z)
      pub stands : Standing row (length a) b

    pub granted_at : {b : Block} {z : Totals} {u : List ℕ} → reserved_as row found ≡ Some b → u ≡ next_room row t.tables found
        → z ≡ next_totals row t.totals found → GrantedAt b z u
    granted_at {b} {z} {u} e g d =
        let (q, f, h) = reserved_place row found b e in
        record {
          result =
              any.granted_at r.form k n small q f b (sym h) (kept_in u z)
              (ap₂ kept_in (g ∙ ap (next_room row t.tables) f) (d ∙ ap (next_totals row t.totals) f));
          stands = subst (Standing row (length a)) h (reserved_stands r.room k n small q f);
        }

  -- ---- a call on a block: the tables hold it

  pub holds : {h : ℕ} {k : Place → Plan} {named : (p : Place) → (k p).checks ≡ Some p} {b : Block} (d : any.Called r.form h k named b)
      → Holds masks_layout row t.tables b d.place
  holds {h} {b = b} d = found_holds r.room (start_of h) d.place d.looked_up d.live b d.block

-- ---- a call for another size, by the block that is found

module _ {row : ℕ} (law : Lawful row) (a : List ℕ) (t : KeptBytes) {h n : ℕ} {f : Pool → ℕ → Place → Plan} {c : Call}
    (s : any.GivesSize row (view row t.tables) h n f c) {b : Block} (e : Ok b ≡ found_for row (engine row) a t h n) where
  passed : Checked row a t
  passed = by_check a t (any.found_sound (engine row) a t s e).0 law

  block : any.CalledFor passed.form h (f (view row t.tables) n) s.names passed.room.pos n b
  block = any.called_for passed.form h (f (view row t.tables) n) s.names passed.room.pos n b (any.found_sound (engine row) a t s e).1

  held : Holds masks_layout row t.tables b block.block.place
  held = holds passed block.block

  -- what an operation on it requires
  pub size-asked : ((sound row (length a) t.tables ≡ true) × (t.totals ≡ totals row (view row t.tables)))
      × (((p : Place) × Holds masks_layout row t.tables b p) × (Askable b.alloc.align n × Lawful row))
  size-asked = ((passed.room.sound, passed.counts), ((block.block.place, held), (block.askable, law)))

  -- and what the call leaves by what it ensures
  pub size-given : {w : Result ℕ Refusal} {x : List ℕ} {u : KeptBytes}
      → ((p : Place) → Holds masks_layout row t.tables b p → CarriedOutBy (engine row) a (f (pool_of p) n p) w x u)
      → left (reply_answer w) x u ≡ call_by row (engine row) a t c
  size-given {w} {x} {u} o =
      any.size-given (engine row) a t s passed.form passed.room.pos block
      (subst (λ P. CarriedOutBy (engine row) a (f P n block.block.place) w x u) (sym (held_pool passed.room held)) (o block.block.place held))
