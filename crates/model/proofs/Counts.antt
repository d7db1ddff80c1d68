-- What report counts: rows held and rows free are all rows, and no total is large.
use Rattle.mem.proofs.Prelude.{◌∙◌, ◌≡◌, ap, refl, Bool, true, false, List, [], ◌∷◌, map, ℕ, ◌+◌, ◌*◌, ◌<◌, ◌≤◌, arith, T, eqb→eq, length, ones}
use Rattle.mem.proofs.Prelude.{not, eqb, zero-add, ne_eqb}
use native.Mathlib.Nat.{mul-le-mul_left}
use Rattle.mem.specs.Lists.{any, sum}
use Rattle.mem.specs.Bytes.{bit, mask}
use Rattle.mem.proofs.Tests.{and_left, and_right}
use Rattle.mem.proofs.Masks.{ones-sum}
use Rattle.mem.proofs.Laws.{sum_below}
use Rattle.classes.specs.Classes.{slots_of}
use Rattle.classes.proofs.Laws.{slots_small, rows_pos}
use Rattle.model.specs.declared.Slot.{Slot}
use Rattle.model.specs.declared.Slot.TheVariants.{Fresh, Idle, Live}
use Rattle.model.specs.declared.Totals.{Totals}
use Rattle.model.specs.State.{Span, Pool, free, group, is_live, is_ready, is_waiting, size, slot_sound, span_sound, well_formed, rows}
use Rattle.model.proofs.Tables.{size_small}
use Rattle.model.specs.Plans.{slot_sum, held_rows, free_row, totals}

pub held_free : (row : ℕ) (P : Pool) → sum (held_rows row) P + sum free_row P ≡ rows row P
held_free row [] = refl
held_free row (free ∷ P) = omega (arith, held_free row P)
held_free row (group c ss ∷ P) = omega (arith, held_free row P)

-- no span is without a row
few_spans : (row : ℕ) → 0 < row → (P : Pool) → length P ≤ rows row P
few_spans row pos [] = omega arith
few_spans row pos (free ∷ P) = omega (arith, few_spans row pos P)
few_spans row pos (group c ss ∷ P) = omega (arith, few_spans row pos P, rows_pos row c pos)

-- where each slot counts k at most, a span counts 31 times that
slots-below : (f : Slot → ℕ) (k : ℕ) → ((c : ℕ) (x : Slot) → T (slot_sound c x) → f x ≤ k) → (s : Span) → T (span_sound s) → slot_sum f s ≤ k * 31
unfolding span_sound
slots-below f k h free t = omega arith
slots-below f k h (group c ss) t =
    let l : length ss ≤ 31 = omega (arith, eqb→eq (length ss) (slots_of c) (search (and_left, and_right)), slots_small c) in
    omega (arith, sum_below f k (slot_sound c) (h c) ss (search and_right), mul-le-mul_left {m = length ss} {n = 31} k l)

-- totals whose numbers have at most five digits, and the bytes ten
pub record Few (s : Totals) : Type 0 where
  pub blocks : s.blocks < 100000
  pub bytes : s.bytes < 10000000000
  pub held : s.held < 100000
  pub free : s.free < 100000
  pub ready : s.ready < 100000
  pub waiting : s.waiting < 100000

bit-small : (b : Bool) → bit b ≤ 1
bit-small true = omega arith
bit-small false = omega arith

module _ (row : ℕ) (pos : 0 < row) (P : Pool) (t : T (well_formed P)) (h : rows row P ≤ 512) where
  spans_below : (f : Slot → ℕ) (k : ℕ) → ((c : ℕ) (x : Slot) → T (slot_sound c x) → f x ≤ k) → sum (slot_sum f) P ≤ k * 31 * length P
  spans_below f k g = sum_below (slot_sum f) (k * 31) span_sound (slots-below f k g) P t

  pub totals_few : Few (totals row P)
  unfolding totals
  totals_few =
      let n = few_spans row pos P in
      record {
        blocks = omega (arith, spans_below (λ x. bit (is_live x)) 1 (λ c x u. bit-small (is_live x)));
        bytes = omega (arith, spans_below size 131051 (λ c x u. omega (arith, size_small c x u)));
        held = omega (arith, held_free row P);
        free = omega (arith, held_free row P);
        ready = omega (arith, spans_below (λ x. bit (is_ready x)) 1 (λ c x u. bit-small (is_ready x)));
        waiting = omega (arith, spans_below (λ x. bit (is_waiting x)) 1 (λ c x u. bit-small (is_waiting x)));
      }

-- the ones of a mask of slots are the slots that it counts
pub mask-ones : (f : Slot → Bool) (ss : List Slot) → ones (mask (map f ss)) ≡ sum (λ x. bit (f x)) ss
mask-ones f ss = ones-sum (map f ss) ∙ bits ss
  where
    bits : (ss : List Slot) → sum bit (map f ss) ≡ sum (λ x. bit (f x)) ss
    bits [] = refl
    bits (x ∷ ss) = ap (λ n. bit (f x) + n) (bits ss)

-- a slot is ready, waiting or live
pub three_sets : (ss : List Slot) → sum (λ x. bit (is_ready x)) ss + sum (λ x. bit (is_waiting x)) ss + sum (λ x. bit (is_live x)) ss ≡ length ss
three_sets [] = refl
three_sets (Fresh ∷ ss) = omega (arith, three_sets ss)
three_sets (Idle true k d ∷ ss) = omega (arith, three_sets ss)
three_sets (Idle false k d ∷ ss) = omega (arith, three_sets ss)
three_sets (Live a ∷ ss) = omega (arith, three_sets ss)

-- so the bits that two masks have not set are the live slots
pub ones-live : (ss : List Slot) (r w : ℕ) → mask (map is_ready ss) ≡ r → mask (map is_waiting ss) ≡ w
    → ones r + ones w + sum (λ x. bit (is_live x)) ss ≡ length ss
ones-live ss r w er ew = rw (← er, ← ew) (omega (arith, mask-ones is_ready ss, mask-ones is_waiting ss, three_sets ss))

pub none-live : (ss : List Slot) → eqb (sum (λ x. bit (is_live x)) ss) 0 ≡ not (any is_live ss)
none-live [] = refl
none-live (Fresh ∷ ss) = rw zero-add (none-live ss)
none-live (Idle r k d ∷ ss) = rw zero-add (none-live ss)
none-live (Live a ∷ ss) = ne_eqb (1 + sum (λ x. bit (is_live x)) ss) 0 (λ e. omega arith)
