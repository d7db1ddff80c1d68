-- Gather lists: what the planner makes is accepted, exists wherever any proposal is accepted, and has the fewest sizes.
use Rattle.mem.proofs.Prelude.{◌≡◌, refl, List, [], ◌∷◌, ℕ, ◌<◌, ◌≤◌, ◌*◌, ◌-◌, suc, zero, min, mul_comm, arith, T, eqb, leb, ltb, eqb→eq, leb→le}
use Rattle.mem.proofs.Prelude.{le→leb, ne_eqb, length}
use native.Mathlib.Nat.{mul-suc, mul-le-mul_left}
use Rattle.mem.specs.Lists.{every, sum, choose}
use Rattle.mem.proofs.Tests.{and_left, and_right, and_both, eq→eqb, choose-false}
use Rattle.mem.proofs.Laws.{sum_below}
use Rattle.classes.specs.Classes.{size_limit}
use Rattle.model.specs.Proposals.{entries, cap_right, size_right, accepts, plannable, full_caps}

-- ---- full caps and the rest, by the first size

pub full_none : (k cap : ℕ) → full_caps k 0 cap ≡ []
unfolding full_caps choose
full_none zero cap = refl
full_none (suc k) cap = refl

pub full_more : (k left cap : ℕ) → 0 < left → full_caps (suc k) left cap ≡ min left cap ∷ full_caps k (left - min left cap) cap
unfolding full_caps
full_more k left cap h = choose-false (eqb left 0) [] (min left cap ∷ full_caps k (left - min left cap) cap) (ne_eqb left 0 (λ e. omega arith))

-- ---- their number, their sizes and their sum

full_few : (k left cap : ℕ) → length (full_caps k left cap) ≤ k
unfolding full_caps
full_few zero left cap = omega arith
full_few (suc k) zero cap = rw (full_none (suc k) cap) (omega arith)
full_few (suc k) (suc l) cap =
    let h : 0 < suc l = omega arith in
    rw (full_more k (suc l) cap h) (omega (arith, full_few k (suc l - min (suc l) cap) cap))

size_right_lem : (cap n : ℕ) → 1 ≤ n → n ≤ cap → T (size_right cap n)
unfolding size_right
size_right_lem cap n h l = and_both (leb 1 n) (leb n cap) (le→leb 1 n h) (le→leb n cap l)

full_right : (k left cap : ℕ) → 1 ≤ cap → T (every (size_right cap) (full_caps k left cap))
unfolding full_caps
full_right zero left cap p = tt
full_right (suc k) zero cap p = rw (full_none (suc k) cap) tt
full_right (suc k) (suc l) cap p =
    let h : 0 < suc l = omega arith in
    let n = min (suc l) cap in
    rw (full_more k (suc l) cap h)
    (and_both (size_right cap n) (every (size_right cap) (full_caps k (suc l - n) cap)) (size_right_lem cap n (omega arith) (omega arith))
    (full_right k (suc l - n) cap p))

full_sum : (k left cap : ℕ) → left ≤ cap * k → sum (λ n. n) (full_caps k left cap) ≡ left
unfolding full_caps
full_sum zero left cap h = omega arith
full_sum (suc k) zero cap h = rw (full_none (suc k) cap) refl
full_sum (suc k) (suc l) cap h =
    let p : 0 < suc l = omega arith in
    rw (full_more k (suc l) cap p)
    (omega (arith, full_sum k (suc l - min (suc l) cap) cap (omega (arith, mul-suc cap k))))

-- any sizes up to the cap that make as much are at least as many
full_fewest : (cap k left : ℕ) (ns : List ℕ) → T (every (size_right cap) ns) → left ≤ sum (λ n. n) ns → length (full_caps k left cap) ≤ length ns
unfolding full_caps size_right
full_fewest cap zero left ns t h = omega arith
full_fewest cap (suc k) zero ns t h = rw (full_none (suc k) cap) (omega arith)
full_fewest cap (suc k) (suc l) [] t h = absurd (omega arith)
full_fewest cap (suc k) (suc l) (n ∷ ns) t h =
    let p : 0 < suc l = omega arith in
    let m : n ≤ cap = leb→le n cap (and_right (leb 1 n) (leb n cap) (and_left (size_right cap n) (every (size_right cap) ns) t)) in
    rw (full_more k (suc l) cap p)
    (omega (arith, full_fewest cap k (suc l - min (suc l) cap) ns (and_right (size_right cap n) (every (size_right cap) ns) t) (omega arith)))

-- ---- what an accepted proposal says

module _ (total cap : ℕ) (ns : List ℕ) (t : T (accepts total cap ns)) where
  accepts_cap : T (cap_right cap)
  unfolding accepts
  accepts_cap = and_left (cap_right cap) _ t

  accepts_few : length ns ≤ entries
  unfolding accepts
  accepts_few = leb→le (length ns) entries (and_left (leb (length ns) entries) _ (and_right (cap_right cap) _ t))

  accepts-sizes : T (every (size_right cap) ns)
  unfolding accepts
  accepts-sizes = and_left (every (size_right cap) ns) _ (and_right (leb (length ns) entries) _ (and_right (cap_right cap) _ t))

  accepts-sum : sum (λ n. n) ns ≡ total
  unfolding accepts
  accepts-sum =
      eqb→eq (sum (λ n. n) ns) total (and_right (every (size_right cap) ns) _ (and_right (leb (length ns) entries) _ (and_right (cap_right cap) _ t)))

-- ---- the planner against the check

-- at most 17 sizes
pub planned_few : (total cap : ℕ) → length (full_caps entries total cap) ≤ entries
planned_few total cap = full_few entries total cap

-- "else always finds an accepted proposal"
pub planned_accepted : (total cap : ℕ) → T (plannable total cap) → T (accepts total cap (full_caps entries total cap))
unfolding accepts plannable cap_right
planned_accepted total cap t =
    let ns = full_caps entries total cap in
    let c : T (cap_right cap) = and_left (cap_right cap) (leb total (entries * cap)) t in
    let p : 1 ≤ cap = leb→le 1 cap (and_left (leb 1 cap) (ltb cap size_limit) c) in
    let l : total ≤ cap * entries = rw mul_comm at (leb→le total (entries * cap) (and_right (cap_right cap) (leb total (entries * cap)) t)) in
    and_both (cap_right cap) _ c
    (and_both (leb (length ns) entries) _ (le→leb (length ns) entries (planned_few total cap))
    (and_both (every (size_right cap) ns) _ (full_right entries total cap p) (eq→eqb (sum (λ n. n) ns) total (full_sum entries total cap l))))

-- where any proposal is accepted, the planner makes one
pub accepts-plannable : (total cap : ℕ) (ns : List ℕ) → T (accepts total cap ns) → T (plannable total cap)
unfolding plannable size_right
accepts-plannable total cap ns t =
    let s : sum (λ n. n) ns ≤ cap * length ns =
    sum_below (λ n. n) cap (size_right cap) (λ n u. leb→le n cap (and_right (leb 1 n) (leb n cap) u)) ns (accepts-sizes total cap ns t) in
    let m : cap * length ns ≤ cap * entries = mul-le-mul_left cap (accepts_few total cap ns t) in
    let l : total ≤ entries * cap = rw mul_comm (omega (arith, accepts-sum total cap ns t)) in
    and_both (cap_right cap) (leb total (entries * cap)) (accepts_cap total cap ns t) (le→leb total (entries * cap) l)

-- and no accepted proposal has fewer sizes
pub planned_fewest : (total cap : ℕ) (ns : List ℕ) → T (accepts total cap ns) → length (full_caps entries total cap) ≤ length ns
planned_fewest total cap ns t = full_fewest cap entries total ns (accepts-sizes total cap ns t) (omega (arith, accepts-sum total cap ns t))
