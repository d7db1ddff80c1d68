-- Aligned grants: those up to 16 are ordinary, what they refuse, and that the start is the lowest multiple in its slot.
use Rattle.mem.proofs.Prelude.{◌∙◌, ◌≡◌, sym, ap, refl, subst, ℕ, ◌+◌, ◌*◌, ◌-◌, ◌%◌, ◌^◌, ◌<◌, ◌≤◌, suc, zero, ◌/◌, Some, not, ⊎_elim, inl, inr, ◌⊎◌}
use Rattle.mem.proofs.Prelude.{arith, T, ltb, leb, length, lit≤, lt-ltb, lt-leb}
use Prim.Native.Nat.{max}
use native.Mathlib.Nat.{pow-le-pow_right}
use Rattle.mem.proofs.Tests.{choose-true, choose-false}
use Rattle.classes.specs.Classes.{class_of, size_limit}
use Rattle.classes.specs.Alignments.{ordinary, align_of, code_of, enlarged, round_up, Askable}
use Rattle.classes.proofs.Alignments.{round_near, align_least}
use Rattle.model.specs.declared.Slot.{Slot}
use Rattle.model.specs.State.{Pool, Place, count, disp, beginning, start}
use Rattle.model.specs.Plans.{Call, grants_aligned, displaced, grant_slot, grant_as, grant_aligned, grant_at, plan, reserve, NoPlace}
use Rattle.model.specs.Calls.{Form, FormLaws, Outcome, Stands, applied, call_by, checked_by}
use Rattle.model.proofs.Fresh.{whole_units}
use Rattle.model.proofs.Bounds.{rounded, grant_aligned_lem, begins_on_unit}
use Rattle.model.proofs.Reserve.{served, reserve-align}
use Rattle.claims.specs.Demand1.{FirstDue, NoAlignment, reasons}
use Rattle.claims.specs.Demand2.{GrantedBy, GrantedAligned, AlignedExactly, AlignedAsSaid, AlignedOrdinary}
use Rattle.claims.proofs.Codes.{power_code, coded_power, align_code, enlarged_code}
use Rattle.claims.proofs.Cases.{refuses, on_aligned}
use Rattle.claims.proofs.Demand1.{demand1}
use Rattle.claims.proofs.Demand2.{none-due, Accepted, accepted, granted_by}
use Rattle.claims.proofs.Soundness.{live-aligned}

-- ---- up to 16

-- an alignment whose code is the ordinary one
ordinary-plan : (row : ℕ) (P : Pool) (n b : ℕ) → code_of b ≡ ordinary → grant_aligned row P n b ≡ grant_as row P ordinary n
unfolding grant_aligned
ordinary-plan row P n b e =
    choose-true (ltb 0 (code_of b)) _ _ (lt-ltb 0 (code_of b) (omega (arith, e))) ∙ ap (λ k. grant_as row P k n) e

-- "Alignments 1, 2, 4, 8 and 16 are an ordinary grant."
pub aligned-ordinary : (row : ℕ) (F : Form) → AlignedOrdinary row F
unfolding call_by checked_by plan
aligned-ordinary row F a t n j h =
    let e : max 1 (j - 3) ≡ 1 = omega arith in
    rw (ordinary-plan row (F.view t) n (2 ^ j) (power_code j (omega arith) ∙ e)) refl

-- ---- the boundary

-- what is whole in the greater of 16 and a power of two is whole in that power
whole_part : (x j : ℕ) → x % max 16 (2 ^ j) ≡ 0 → x % 2 ^ j ≡ 0
whole_part x zero h = omega arith
whole_part x (suc zero) h = omega arith
whole_part x (suc (suc zero)) h = omega arith
whole_part x (suc (suc (suc zero))) h = omega arith
whole_part x (suc (suc (suc (suc j)))) h =
    let g : 4 ≤ suc (suc (suc (suc j))) = omega arith in
    let l : 2 ^ 4 ≤ 2 ^ suc (suc (suc (suc j))) = pow-le-pow_right (lit≤ tt) g in
    let e : max 16 (2 ^ suc (suc (suc (suc j)))) ≡ 2 ^ suc (suc (suc (suc j))) = omega arith in
    subst (λ m. x % m ≡ 0) e h

-- a block that is granted with an alignment over 16 starts before the next multiple
grant-lowest : (c k n b : ℕ) (x : Slot) → 1 < k → b % 16 ≡ 0 → b + 16 * disp (grant_slot c k n b x) < b + align_of k
unfolding grant_slot displaced
grant-lowest c k n b x h e =
    let f : displaced c k n b (count x) ≡ (round_up (align_of k) b - b) / 16 = choose-false (leb k ordinary) _ _ (lt-leb k ordinary h) in
    rw f (omega (arith, rounded k b (omega arith) e, (round_near (align_of k) b (omega (arith, align_least k (omega arith)))).1))

-- over 16 bytes, an alignment's code is not the ordinary one
over-ordinary : (k : ℕ) → 16 < align_of k → 1 < k
unfolding align_of
over-ordinary zero h = absurd (omega arith)
over-ordinary (suc zero) h = absurd (omega arith)
over-ordinary (suc (suc k)) h = omega arith

-- what holds of the start of a block that is granted with an alignment
module _ (row : ℕ) (q : Place) (c k n : ℕ) (old : Slot) (s : q.state ≡ grant_slot c k n (beginning row q) old) (u : row % 16 ≡ 0) where
  -- it is a multiple of the alignment
  start_multiple : 1 ≤ k → start row q % align_of k ≡ 0
  unfolding grant_slot
  start_multiple h =
      ap (λ x. (beginning row q + 16 * disp x) % align_of k) s
      ∙ live-aligned (beginning row q) (grant_slot c k n (beginning row q) old) tt (grant_aligned_lem c k n (beginning row q) old h (begins_on_unit row q u))

  -- and over 16 the lowest one from the slot's beginning on
  start-lowest : 1 < k → start row q < beginning row q + align_of k
  start-lowest h =
      subst (λ x. beginning row q + 16 * disp x < beginning row q + align_of k) (sym s)
      (grant-lowest c k n (beginning row q) old h (begins_on_unit row q u))

-- ---- what an aligned grant refuses, and what it gives

-- it is refused exactly if a reason that it tests is due
pub aligned_exactly : (row : ℕ) → 0 < row → (F : Form) → FormLaws row F → AlignedExactly row F
aligned_exactly row pos F L a t n b = (
  why d,
  λ x e. let (n₂, (n₁₃, (n₃, (n₈, _)))) = none-due (reasons row F a t asks) k d e in ⊎_elim n₁₃ (⊎_elim n₃ (⊎_elim n₂ n₈)) x,
)
  where
    asks : Call
    asks = grants_aligned n b

    k : ℕ
    k = (call_by row F a t asks).answer.number

    d : FirstDue (reasons row F a t asks) k
    d = (demand1 row pos F L a t asks).number

    why : FirstDue (reasons row F a t asks) k → (k ≡ 0 → ⊥)
        → NoAlignment b ⊎ ((size_limit ≤ n + (b - 16)) ⊎ (T (not (F.sound (length a) t)) ⊎ NoPlace row (F.view t) (class_of (n + (b - 16)))))
    why (inl (_, x)) z = inr (inr (inl x))
    why (inr (_, inl (_, x))) z = inl x
    why (inr (_, inr (_, inl (_, x)))) z = inr (inl x)
    why (inr (_, inr (_, inr (_, inl (_, x))))) z = inr (inr (inr x))
    why (inr (_, inr (_, inr (_, inr (_, e))))) z = absurd (z e)

-- an accepted one is the grant of its alignment's code, and the start is the lowest multiple
pub aligned_as_said : (row : ℕ) → 0 < row → (F : Form) → FormLaws row F → AlignedAsSaid row F
unfolding plan
aligned_as_said row pos F L a t n b z =
    on_aligned row pos P (λ p. p.answer.number ≡ 0 → call_by row F a t asks ≡ applied F a p → (q : Place) × GrantedAligned row F a t n b q)
    (λ r z. absurd (refuses r z)) n b (λ q h e _ l. (q, said q h e l)) (ap (λ (r : Outcome F.Kept). r.answer.number) (sym y.left) ∙ z) y.left
  where
    P : Pool
    P = F.view t

    asks : Call
    asks = grants_aligned n b

    y : Accepted row pos F L a t asks
    y = accepted row pos F L a t asks tt z

    stands : Stands row (length a) P
    stands = (L.only (length a) t y.sound-tables).0

    said : (q : Place) → Askable (code_of b) n → reserve row P (code_of b) n ≡ Some q → call_by row F a t asks ≡ applied F a (grant_at row P (Some q))
        → GrantedAligned row F a t n b q
    said q h e l =
        let k : ℕ = code_of b in
        let (j, _, p) = coded_power b h.some_code in
        let m : align_of k ≡ max 16 b = align_code b h.some_code in
        let i : enlarged k n ≡ n + (b - 16) = enlarged_code b n h.some_code in
        let g : GrantedBy row F a t asks k n (class_of (n + (b - 16))) q =
        subst (λ x. GrantedBy row F a t asks k n (class_of x) q) i (granted_by row pos F L a t asks k n stands q h e l) in
        let u : row % 16 ≡ 0 = whole_units row (length a) stands.lawful in
        let s = (served row P k n q stands.formed e).taken in
        let x : start row q % max 16 b ≡ 0 = subst (λ y. start row q % y ≡ 0) m (start_multiple row q _ k n s.old s.state u h.some_code) in
        record {
          granted = g;
          multiple = subst (λ y. start row q % y ≡ 0) (sym p) (whole_part (start row q) j (subst (λ y. start row q % max 16 y ≡ 0) p x));
          after = omega arith;
          lowest = λ o. omega (arith, m, start-lowest row q _ k n s.old s.state u (over-ordinary k (omega (arith, m, o))));
          kept = ap align_of (reserve-align row P k n q stands.formed e) ∙ m;
        }
