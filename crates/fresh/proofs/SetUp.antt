-- Set up, in any form of the tables: when it is refused, and the tables that it writes.
use Rattle.mem.proofs.Prelude.{◌∙◌, ◌≡◌, sym, ap, refl, ap₂, subst, true, Bool, false, ◌&&◌, List, [], ◌∷◌, ◌++◌, ◌+◌, ℕ, ◌≤◌, ◌*◌, ◌/◌, arith, T, eqb}
use Rattle.mem.proofs.Prelude.{eqb→eq, length, ◌<◌, leb→le}
use Rattle.mem.specs.Bytes.{zeros, low, put}
use Rattle.mem.proofs.Tests.{and_left, and_right, and_both, choose-true, choose-false, T_true, true-T, eq→eqb}
use Rattle.mem.proofs.Laws.{zeros-length, zeros-add, put_at}
use Rattle.classes.specs.Classes.{row_bytes}
use Rattle.model.specs.declared.Refusal.TheVariants.{BadArena}
use Rattle.model.specs.State.{rows}
use Rattle.model.specs.Answers.{done, refusal}
use Rattle.model.specs.Plans.{sets_up, fresh_pool}
use Rattle.model.specs.Tables.{Layout, row_at, encode_by, arena_right, room_bytes, room_for, row_record_bytes}
use Rattle.model.specs.Calls.{Form, keeps, call_by, set_up_by, set_up_right_by}
use Rattle.model.proofs.Fresh.{fresh-rows, whole_rows}
use Rattle.rows.proofs.Spans.{free_records}

-- u being the bytes of the tables that are lent: set up takes them by their length
module _ (row : ℕ) (F : Form) (a : List ℕ) (t : F.Kept) (u : List ℕ) (fits : F.fits (length a) t ≡ eqb (length u) (room_bytes (length a / row))) where
  -- a room of the right size for a lawful arena
  pub record Fitting : Type 0 where
    pub lawful : T (arena_right row (length a))
    pub long : length u ≡ room_bytes (length a / row)

  pub fitting : (length u ≡ room_for row (length a)) → (room_for row (length a) ≡ 0 → ⊥) → Fitting
  unfolding room_for
  fitting e d = go (arena_right row (length a)) refl
    where
      go : (b : Bool) → arena_right row (length a) ≡ b → Fitting
      go true h = record { lawful = true-T (arena_right row (length a)) h; long = e ∙ choose-true (arena_right row (length a)) _ _ h }
      go false h = absurd (d (choose-false (arena_right row (length a)) _ _ h))

  -- the room that set up takes is the one of that size, which is not 0
  right_room : T (set_up_right_by row F a t) → (length u ≡ room_for row (length a)) × (16 ≤ room_for row (length a))
  unfolding set_up_right_by room_for room_bytes
  right_room h =
      let l : T (arena_right row (length a)) = search and_left in
      let r : room_for row (length a) ≡ row_at (length a / row) = choose-true (arena_right row (length a)) _ _ (T_true (arena_right row (length a)) l) in
      let e : length u ≡ row_at (length a / row) =
      eqb→eq (length u) (row_at (length a / row)) (subst T fits (and_right (arena_right row (length a)) (F.fits (length a) t) h)) in
      (e ∙ sym r, omega (arith, r))

  pub set_up-refused : ((length u ≡ room_for row (length a)) → room_for row (length a) ≡ 0) → call_by row F a t sets_up ≡ keeps (refusal BadArena) a t
  unfolding call_by set_up_by
  set_up-refused f = go (set_up_right_by row F a t) refl
    where
      go : (b : Bool) → set_up_right_by row F a t ≡ b → set_up_by row F a t ≡ keeps (refusal BadArena) a t
      go true e =
          let r : (length u ≡ room_for row (length a)) × (16 ≤ room_for row (length a)) = right_room (true-T (set_up_right_by row F a t) e) in
          absurd (omega (arith, r.1, f r.0))
      go false e = choose-false (set_up_right_by row F a t) _ _ e

  pub set_up-made : Fitting → call_by row F a t sets_up
      ≡ record { answer = done (0 ∷ []); arena = zeros (length a); kept = F.encode (fresh_pool (length a / row)) }
  unfolding call_by set_up_by set_up_right_by
  set_up-made f =
      choose-true (arena_right row (length a) && F.fits (length a) t) _ _
      (T_true _ (and_both (arena_right row (length a)) (F.fits (length a) t) f.lawful
      (subst T (sym fits) (eq→eqb (length u) (room_bytes (length a / row)) f.long))))

  -- tables with no groups: the arena's length, and zeros
  pub formatted : (L : Layout) → Fitting → put 0 (low 4 (length a)) (zeros (length u)) ≡ encode_by L row (fresh_pool (length a / row))
  unfolding encode_by room_bytes
  formatted L f =
      let k : ℕ = length a / row in
      let n : length u ≡ 4 + (12 + row_record_bytes * k) = f.long ∙ arithmetic k in
      let w : row * rows row (fresh_pool k) ≡ length a = ap (λ j. row * j) (fresh-rows row k) ∙ whole_rows row (length a) f.lawful in
      ap (λ m. put 0 (low 4 (length a)) (zeros m)) n
      ∙ ap (put 0 (low 4 (length a))) (zeros-add 4 (12 + row_record_bytes * k))
      ∙ put_at 0 [] (zeros 4) (low 4 (length a)) (zeros (12 + row_record_bytes * k)) refl (sym (zeros-length 4))
      ∙ ap₂ (λ m z. low 4 m ++ z) (sym w) (zeros-add 12 (row_record_bytes * k) ∙ ap (λ z. zeros 12 ++ z) (sym (free_records L row k)))
    where
      arithmetic : (k : ℕ) → row_at k ≡ 4 + (12 + row_record_bytes * k)
      arithmetic k = omega arith

-- what is formatted has a place for the arena's length, which four bytes hold
pub formattable : {F : Form} {a : List ℕ} {t : F.Kept} {u : List ℕ} {fits : F.fits (length a) t ≡ eqb (length u) (room_bytes (length a / row_bytes))}
    → Fitting row_bytes F a t u fits → (4 ≤ length u) × (length a < 4294967296)
unfolding row_bytes arena_right room_bytes
formattable {a = a} f =
    let t = f.lawful in
    let l : length a ≤ 512 * 512 = leb→le (length a) (512 * 512) (search (and_left, and_right)) in
    (omega (arith, f.long), omega arith)
