-- The planner's loop: the sizes that are left to write make the plan.
use Rattle.mem.proofs.Prelude.{◌≡◌, ◌∙◌, refl, sym, ap, subst, true, List, [], ◌∷◌, ℕ, ◌+◌, ◌*◌, ◌-◌, ◌≤◌, ◌<◌, suc, zero, min, mul_comm, sub-zero, zero-add}
use Rattle.mem.proofs.Prelude.{add-one, arith, length, set}
use native.Mathlib.Nat.{mul-suc}
use Rattle.mem.specs.Bytes.{put}
use Rattle.mem.proofs.Laws.{put-nil, put-cons}
use Rattle.model.specs.Proposals.{entries, plannable, full_caps}
use Rattle.model.proofs.Proposals.{full_none, full_more}
use Rattle.proposals.proofs.Checks.{plan_facts}

-- `count` sizes are written and `left` bytes are left: the places behind them hold these, and with their sizes the plan is whole
pub record Filled (total cap : ℕ) (first sizes : List ℕ) (left count : ℕ) : Type 0 where
  pub few : count ≤ entries
  pub rest : left ≤ cap * (entries - count)
  pub number : count + length (full_caps (entries - count) left cap) ≡ length (full_caps entries total cap)
  pub written : put count (full_caps (entries - count) left cap) sizes ≡ put 0 (full_caps entries total cap) first

-- before the first size
pub filled_none : (total cap : ℕ) (first : List ℕ) → plannable total cap ≡ true → Filled total cap first first total 0
filled_none total cap first e = record {
  few = omega arith;
  rest = rw (sub-zero, mul_comm) (plan_facts total cap e).1;
  number = rw (zero-add, sub-zero);
  written = rw sub-zero;
}

module _ (total cap : ℕ) (first sizes : List ℕ) (left count : ℕ) (f : Filled total cap first sizes left count) where
  pub more-places : 0 < left → count < entries
  more-places h = go (entries - count) refl
    where
      go : (k : ℕ) → entries - count ≡ k → count < entries
      go zero e = let r : left ≤ cap * zero = subst (λ j. left ≤ cap * j) e f.rest in absurd (omega arith)
      go (suc k) e = omega arith

  -- one size more
  pub filled_more : 0 < left → (n : ℕ) → n ≡ min left cap → Filled total cap first (set sizes count n) (left - n) (count + 1)
  filled_more h n e =
      let l : count < entries = more-places h in
      let k = entries - (count + 1) in
      let s : entries - count ≡ suc k = omega arith in
      let r : left ≤ cap * suc k = subst (λ j. left ≤ cap * j) s f.rest in
      let w : full_caps (entries - count) left cap ≡ n ∷ full_caps k (left - n) cap =
      ap (λ j. full_caps j left cap) s ∙ full_more k left cap h ∙ ap (λ m. m ∷ full_caps k (left - m) cap) (sym e) in
      let p : put (suc count) (full_caps k (left - n) cap) (set sizes count n) ≡ put 0 (full_caps entries total cap) first =
      sym (ap (λ ns. put count ns sizes) w ∙ put-cons count n (full_caps k (left - n) cap) sizes) ∙ f.written in
      record {
        few = omega arith;
        rest = omega (arith, mul-suc cap k);
        number = omega (arith, ap length w, f.number);
        written = ap (λ j. put j (full_caps k (left - n) cap) (set sizes count n)) (add-one count) ∙ p;
      }

  -- nothing is left
  pub filled_all : left ≤ 0 → (count ≡ length (full_caps entries total cap)) × (sizes ≡ put 0 (full_caps entries total cap) first)
  filled_all h =
      let z : left ≡ 0 = omega arith in
      let w : full_caps (entries - count) left cap ≡ [] = ap (λ j. full_caps (entries - count) j cap) z ∙ full_none (entries - count) cap in
      (omega (arith, ap length w, f.number), sym (ap (λ ns. put count ns sizes) w ∙ put-nil count sizes) ∙ f.written)
