-- The slots of a group, one by one: s is the room, i the group's first row.
use Rattle.mem.proofs.Prelude.{◌∙◌, ◌≡◌, ap, ap₂, List, [], ◌∷◌, ◌+◌, ℕ, ◌<◌, ◌≤◌, ◌*◌, ◌-◌, suc, arith, drop, drop-drop}
use Rattle.classes.specs.Classes.{slots_of}
use Rattle.model.specs.declared.Slot.{Slot}
use Rattle.model.specs.Tables.{row_at}
use Rattle.model.specs.Plain.{plain_slots, plain_group}
use Rattle.plain_slots.specs.Slots.{slot_in}

module _ (n i : ℕ) (s : List ℕ) where
  -- those from slot j on, of n
  pub slots_from : ℕ → List Slot
  slots_from j = plain_slots (n - j) (drop (row_at i + (16 + 8 * j)) s)

  pub slots_turn : (j : ℕ) → j < n → slots_from j ≡ slot_in j (drop (row_at i) s) ∷ slots_from (j + 1)
  unfolding slots_from slot_in plain_slots
  slots_turn j h =
      let e : n - j ≡ suc (n - (j + 1)) = omega arith in
      let p : row_at i + (16 + 8 * j) + 8 ≡ row_at i + (16 + 8 * (j + 1)) = omega arith in
      rw (e, drop-drop (16 + 8 * j) (row_at i) s, drop-drop 8 (row_at i + (16 + 8 * j)) s, p)

  pub slots_end : (j : ℕ) → n ≤ j → slots_from j ≡ []
  unfolding slots_from plain_slots
  slots_end j h = let e : n - j ≡ 0 = omega arith in ap (λ k. plain_slots k (drop (row_at i + (16 + 8 * j)) s)) e

pub slots-begin : (n c i : ℕ) (s : List ℕ) → n ≡ slots_of c → plain_group c (drop (row_at i) s) ≡ slots_from n i s 0
unfolding slots_from plain_group
slots-begin n c i s e =
    let k : slots_of c ≡ n - 0 = omega arith in
    let p : row_at i + 16 ≡ row_at i + (16 + 8 * 0) = omega arith in
    ap (plain_slots (slots_of c)) (drop-drop 16 (row_at i) s) ∙ ap₂ (λ k p. plain_slots k (drop p s)) k p
