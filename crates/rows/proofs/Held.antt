-- A block of a room that is a pool's form, in any layout: where its group stands, and the block of a slot that is taken.
use Rattle.mem.proofs.Prelude.{◌∙◌, ◌≡◌, ap, refl, ap₂, List, ◌∷◌, ◌++◌, ◌+◌, ℕ, ◌<◌, ◌≤◌, ◌*◌, arith, length}
use Rattle.classes.specs.Classes.{slot_bytes, rows_of}
use Rattle.classes.proofs.Laws.{slots_small, rows_pos}
use Rattle.model.specs.declared.Alloc.{Alloc}
use Rattle.model.specs.declared.Slot.TheVariants.{Live}
use Rattle.model.specs.State.{Place, group, count, disp, size, align, pool_of, slot_number, rows, beginning}
use Rattle.model.specs.Tables.{Layout, row_at, room_bytes, row_record_bytes}
use Rattle.model.specs.Plans.{Site, grant_in}
use Rattle.model.proofs.Tables.{encode-length}
use Rattle.model.proofs.Rooms.{rows_append}
use Rattle.model.proofs.Lookup.{Fits, fits}
use Rattle.rows.specs.declared.Block.{Block}
use Rattle.rows.specs.Rows.{block_of, Holds, Offers}

module _ {L : Layout} (row : ℕ) (t : List ℕ) (b : Block) (p : Place) (h : Holds L row t b p) where
  pub held_fits : Fits p
  held_fits = fits p h.formed

  pub held_first : b.first ≡ rows row p.before
  held_first = ap (λ b. b.first) h.block

  pub held_class : b.class ≡ p.cls
  held_class = ap (λ b. b.class) h.block

  pub held_slot : b.slot ≡ slot_number p
  held_slot = ap (λ b. b.slot) h.block

  -- the group's rows are in the room, and its slot is one of a group's
  pub held_rows : (b.class < 48) × (b.slot < 31) × (b.first + rows_of row b.class ≤ 512) × (row_at (b.first + rows_of row b.class) ≤ length t)
  unfolding room_bytes
  held_rows =
      let f : Fits p = held_fits in
      let a : rows row (pool_of p) ≡ rows row p.before + (rows_of row p.cls + rows row p.after) =
      rows_append row p.before (group p.cls (p.lower ++ (p.state ∷ p.upper)) ∷ p.after) in
      let r : rows_of row b.class ≡ rows_of row p.cls = ap (rows_of row) held_class in (
        omega (arith, held_class, f.class),
        omega (arith, held_slot, f.number, slots_small p.cls),
        omega (arith, held_first, h.few),
        omega (arith, held_first, ap length h.bytes, encode-length h.laws row h.pos (pool_of p) h.formed),
      )

  -- and its first row stands there
  pub held_inside : (b.first < 512) × (row_at b.first + row_record_bytes ≤ length t)
  held_inside = let k = rows_pos row b.class h.pos in (omega (arith, held_rows.2), omega (arith, held_rows.3))

-- the group in which a slot is taken stands in the room
pub offered_inside : {L : Layout} (row : ℕ) (t : List ℕ) (i c : ℕ) (g : Site) → Offers L row t i c g → (i < 512) × (row_at i + row_record_bytes ≤ length t)
offered_inside row t i c g o = let k = rows_pos row c o.pos in (omega (arith, o.few), omega (arith, o.room))

-- ---- the block of a slot that is taken

module _ (row i c v n : ℕ) (g : Site) where
  -- where it begins
  pub taken_begins : row * rows row g.before + 16 + slot_number (grant_in row c v n g) * slot_bytes c ≡ beginning row (grant_in row c v n g)
  unfolding grant_in
  taken_begins = refl

  pub block_taken : (j : ℕ) (a : Alloc) → i ≡ rows row g.before → j ≡ slot_number (grant_in row c v n g) → Live a ≡ (grant_in row c v n g).state
      → ◌≡◌ {A = Block} (record { first = i; class = c; slot = j; alloc = a }) (block_of row (grant_in row c v n g))
  unfolding grant_in
  block_taken j a f k e =
      let z : Place = grant_in row c v n g in
      ap₂ {C = Block} (λ f k. record { first = f; class = c; slot = k; alloc = a }) f k
      ∙ ap {B = Block} (λ x. record {
        first = rows row g.before;
        class = c;
        slot = slot_number z;
        alloc = record { count = count x; disp = disp x; size = size x; align = align x };
      }) e
