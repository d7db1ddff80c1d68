-- A pool with no groups, and what an accepted set up leaves.
use Rattle.mem.proofs.Prelude.{◌∙◌, ◌≡◌, sym, ap, refl, List, [], ◌∷◌, ℕ, ◌*◌, ◌+◌, suc, ◌/◌, zero, ◌%◌, arith, T, eqb→eq, length}
use native.Mathlib.Nat.{div-add-mod}
use Rattle.mem.specs.Bytes.{zeros}
use Rattle.mem.proofs.Tests.{and_left, and_right, T_true, choose-true}
use Rattle.model.specs.declared.Totals.{Totals}
use Rattle.model.specs.State.{well_formed, span_sound, aligned_from, aligned, rows}
use Rattle.model.specs.Answers.{done}
use Rattle.model.specs.Plans.{fresh_pool, totals}
use Rattle.model.specs.Tables.{arena_right}
use Rattle.model.specs.Calls.{Form, FormLaws, set_up_by, set_up_right_by}

pub fresh_formed : (n : ℕ) → T (well_formed (fresh_pool n))
unfolding span_sound
fresh_formed zero = tt
fresh_formed (suc n) = fresh_formed n

pub fresh-aligned : (row b n : ℕ) → T (aligned_from row b (fresh_pool n))
fresh-aligned row b zero = tt
fresh-aligned row b (suc n) = fresh-aligned row (b + row) n

pub all_fresh : (row n : ℕ) → T (aligned row (fresh_pool n))
unfolding aligned
all_fresh row n = fresh-aligned row 0 n

pub fresh-rows : (row n : ℕ) → rows row (fresh_pool n) ≡ n
fresh-rows row zero = refl
fresh-rows row (suc n) = omega (arith, fresh-rows row n)

-- a lawful arena is whole rows
pub whole_rows : (row n : ℕ) → T (arena_right row n) → row * (n / row) ≡ n
unfolding arena_right
whole_rows row n t =
    let e : n % row ≡ 0 = eqb→eq (n % row) 0 (search (and_left, and_right)) in
    omega (arith, div-add-mod n row)

-- and a row is whole units
pub whole_units : (row n : ℕ) → T (arena_right row n) → row % 16 ≡ 0
unfolding arena_right
whole_units row n t = eqb→eq (row % 16) 0 (search (and_left, and_right))

module _ (row : ℕ) (F : Form) (a : List ℕ) (t : F.Kept) (h : T (set_up_right_by row F a t)) where
  pub set_up_lawful : T (arena_right row (length a))
  unfolding set_up_right_by
  set_up_lawful = search and_left

  pub set_up-done : set_up_by row F a t
      ≡ record { answer = done (0 ∷ []); arena = zeros (length a); kept = F.encode (fresh_pool (length a / row)) }
  unfolding set_up_by
  set_up-done = choose-true (set_up_right_by row F a t) _ _ (T_true (set_up_right_by row F a t) h)

  pub set_up-sound : FormLaws row F → T (F.sound (length a) (F.encode (fresh_pool (length a / row))))
  set_up-sound L =
      L.right (length a) (fresh_pool (length a / row)) (record {
        lawful = set_up_lawful;
        long = sym (ap (λ n. row * n) (fresh-rows row (length a / row)) ∙ whole_rows row (length a) set_up_lawful);
        formed = fresh_formed (length a / row);
        bounds = all_fresh row (length a / row);
      })

one_more : (n : ℕ) → 1 + n ≡ suc n
one_more n = omega arith

-- no total but rows free
pub fresh-totals : (row n : ℕ) → totals row (fresh_pool n) ≡ record { blocks = 0; bytes = 0; held = 0; free = n; ready = 0; waiting = 0 }
unfolding totals
fresh-totals row zero = refl
fresh-totals row (suc n) =
    ap (λ (s : Totals). record {
      blocks = 0 + s.blocks;
      bytes = 0 + s.bytes;
      held = 0 + s.held;
      free = 1 + s.free;
      ready = 0 + s.ready;
      waiting = 0 + s.waiting;
    }) (fresh-totals row n)
    ∙ rw (one_more n)
