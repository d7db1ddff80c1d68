-- Slots whose live blocks all have one alignment: what passes their test passes every rule.
use Rattle.mem.proofs.Prelude.{◌∙◌, ◌≡◌, sym, ap, subst, true, false, Bool, ◌&&◌, ◌||◌, ℕ, ◌+◌, ◌*◌, ◌-◌, ◌/◌, ◌%◌, ◌^◌, ◌<◌, ◌≤◌, mul_comm, arith, T}
use Rattle.mem.proofs.Prelude.{eqb, leb, ltb, eqb→eq, ltb→lt, le→leb}
use lib.Bits.{bit_and, and_mask}
use lib.Pow.{pow-add}
use Rattle.mem.specs.Lists.{choose}
use Rattle.mem.proofs.Tests.{and_left, and_right, and_both}
use Rattle.classes.specs.Classes.{size_limit}
use Rattle.classes.specs.Alignments.{align_of, enlarged}
use Rattle.classes.proofs.Alignments.{enlarged_by}
use Rattle.slot_rules.specs.Rules.{record_checked, live_checked, alike_checked, exact_checked}

-- an alignment is a power of two, so its boundary is tested by a mask
pub boundary_mask : (x k a : ℕ) → a ≡ align_of k → bit_and x (a - 1) ≡ x % a
unfolding align_of
boundary_mask x k a e =
    let p : a ≡ 2 ^ (k + 3) = e ∙ mul_comm 8 (2 ^ k) ∙ sym (pow-add 2 k 3) in
    ap (λ z. bit_and x (z - 1)) p ∙ and_mask x (k + 3) ∙ ap (λ z. x % z) (sym p)

or-false : (a : Bool) → T (a || false) → T a
or-false true t = tt
or-false false t = t

-- a live slot, by the number in the record's first byte
abbrev live_as : (most least b k d n : ℕ) → Bool
live_as most least b k d n =
    (leb 1 k && leb k 9) && leb (16 * d + n) most && ltb (enlarged k n) size_limit && (leb (enlarged k n) most && ltb least (enlarged k n + 4))
    && eqb ((b + 16 * d) % align_of k) 0

live_alike : (most least b k lo hi : ℕ) → 1 < k → k ≤ 9 → T (alike_checked most least b k false false lo hi)
    → T (live_as most least b (lo % 256) (lo / 65536) hi)
unfolding alike_checked size_limit
live_alike most least b k lo hi h l t =
    let d : ℕ = lo / 65536 in
    let n : ℕ = hi % 16777216 in
    let e : ℕ = n + (align_of k - 16) in
    let t₁ : T (((eqb (lo % 256) k) || false) || false) = search (and_left, and_right) in
    let t₂ : T (leb (16 * d + n) most) = search (and_left, and_right) in
    let t₀ : T (leb e most && ltb least (e + 4) && ltb e 131052) = search (and_left, and_right) in
    let t₃ : T (leb e most) = search (and_left, and_right) in
    let t₄ : T (ltb least (e + 4)) = search (and_left, and_right) in
    let t₅ : T (ltb e 131052) = search (and_left, and_right) in
    let t₆ : T (ltb hi 131052) = search (and_left, and_right) in
    let t₇ : T (eqb ((b + 16 * d) % align_of k) 0) = search (and_left, and_right) in
    let tag : lo % 256 ≡ k = eqb→eq (lo % 256) k (or-false (eqb (lo % 256) k) (or-false (eqb (lo % 256) k || false) t₁)) in
    let whole : n ≡ hi = omega (arith, ltb→lt hi 131052 t₆) in
    let big : e ≡ enlarged k hi = ap (λ m. m + (align_of k - 16)) whole ∙ sym (enlarged_by k hi h) in
    let u₁ : T (leb 1 k) = le→leb 1 k (omega arith) in
    let u₂ : T (leb k 9) = le→leb k 9 l in
    let u₃ : T (leb (16 * d + hi) most) = subst (λ m. T (leb (16 * d + m) most)) whole t₂ in
    let u₄ : T (ltb (enlarged k hi) 131052) = subst (λ m. T (ltb m 131052)) big t₅ in
    let u₅ : T (leb (enlarged k hi) most) = subst (λ m. T (leb m most)) big t₃ in
    let u₆ : T (ltb least (enlarged k hi + 4)) = subst (λ m. T (ltb least (m + 4))) big t₄ in
    let at-k : T (live_as most least b k d hi) = search and_both in
    subst (λ j. T (live_as most least b j d hi)) (sym tag) at-k

pub alike_exact : (most least b k : ℕ) (r w : Bool) (lo hi : ℕ) → 1 < k → k ≤ 9 → T (alike_checked most least b k r w lo hi)
    → T (exact_checked most least b r w lo hi)
unfolding alike_checked exact_checked record_checked live_checked choose size_limit
alike_exact most least b k true true lo hi h l t = absurd t
alike_exact most least b k true false lo hi h l t =
    let t₁ : T (eqb (lo % 256) 1 || eqb lo 0) = search (and_left, and_right) in
    let t₂ : T (leb (16 * (lo / 65536) + hi % 16777216) most) = search (and_left, and_right) in
    let t₃ : T (eqb hi 0) = search (and_left, and_right) in
    let t₄ : T (ltb hi 131052) = search (and_left, and_right) in
    search and_both
alike_exact most least b k false true lo hi h l t =
    let t₁ : T (eqb (lo % 256) 1 || false) = search (and_left, and_right) in
    let t₂ : T (leb (16 * (lo / 65536) + hi % 16777216) most) = search (and_left, and_right) in
    let t₃ : T (eqb hi 0) = search (and_left, and_right) in
    let t₄ : T (ltb hi 131052) = search (and_left, and_right) in
    search and_both
alike_exact most least b k false false lo hi h l t = live_alike most least b k lo hi h l t
