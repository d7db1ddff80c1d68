-- `slot_at` meets its contract.
use Rattle.mem.proofs.Prelude.{◌∙◌, ◌≡◌, List, ◌+◌, ℕ, ◌*◌, lit≤, drop, get_or, drop-drop}
use Rattle.mem.specs.Bytes.{number, part}
use Rattle.mem.proofs.Laws.{get_d_part, part-part}
use Rattle.model.specs.Tables.{row_at}
use Rattle.model.specs.Plain.{plain_slot, plain_in}
use Rattle.plain_slots.specs.Slots.{slot_in}
use Rattle.plain_slots.proofs.slot_at.Goals as goal

-- the slot that the eight bytes at q say
module _ (i j q d n : ℕ) (t : List ℕ) where
  read : q ≡ row_at i + (16 + 8 * j) → d ≡ number (part (q + 2) 2 t) → n ≡ number (part (q + 4) 3 t)
      → plain_slot (get_or t (q + 0) 0) (get_or t (q + 1) 0) d n ≡ slot_in j (drop (row_at i) t)
  unfolding slot_in plain_in
  read e f g =
      rw (
        f,
        g,
        drop-drop (16 + 8 * j) (row_at i) t,
        ← e,
        get_d_part q 8 t 0 0 (lit≤ tt),
        get_d_part q 8 t 1 0 (lit≤ tt),
        part-part q 8 2 2 t (lit≤ tt),
        part-part q 8 4 3 t (lit≤ tt),
      )

pub returns : goal.returns
returns c =
    let a = c.args in record {
      value = c.slot_of.ensures.value
          ∙ read a.i a.j c.slot_place-at.result c.get2.result c.get3.result a.room.now c.slot_place-at.ensures
          c.get2.ensures.value c.get3.ensures.value;
      small = c.slot_of.ensures.small;
    }
