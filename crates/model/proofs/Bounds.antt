-- The boundary that soundness demands, part by part of a pool, and that it stays where slots change.
use Rattle.mem.proofs.Prelude.{◌∙◌, ◌≡◌, sym, ap, refl, subst, ◌&&◌, List, [], ◌∷◌, ◌++◌, map, ℕ, ◌+◌, ◌*◌, ◌-◌, ◌/◌, ◌%◌, ◌≤◌, suc}
use Rattle.mem.proofs.Prelude.{arith, T, eqb, leb, zero-add, mul-add, mul_comm, and_assoc, length, leb-true}
use native.Mathlib.Nat.{mul_assoc, mul-mod_left, suc-mul, mul-one, mul-zero}
use Rattle.mem.specs.Lists.{any}
use Rattle.mem.proofs.Tests.{and_left, and_right, and_both, choose_case, eq→eqb}
use Rattle.classes.specs.Classes.{units_of, slot_bytes, rows_of}
use Rattle.classes.specs.Alignments.{ordinary, align_of, round_up}
use Rattle.classes.proofs.Alignments.{align-units, align_least, round_multiple, round_near}
use Rattle.model.specs.declared.Slot.{Slot}
use Rattle.model.specs.declared.Slot.TheVariants.{Fresh, Idle, Live}
use Rattle.model.specs.State.{Pool, Place, free, group, is_live, is_ready, count, disp, align, aligned_slot, slots_aligned, aligned_from, aligned, pool_of}
use Rattle.model.specs.State.{become, slot_number, rows, base, beginning}
use Rattle.model.specs.Plans.{turn_ready, refill, displaced, grant_slot, fresh_pool}
use Rattle.model.proofs.Fresh.{fresh-aligned, fresh-rows}

-- ---- slots

slots-append : (c b : ℕ) (us xs : List Slot)
    → slots_aligned c b (us ++ xs) ≡ (slots_aligned c b us && slots_aligned c (b + length us * slot_bytes c) xs)
slots-append c b [] xs = let e : b + 0 * slot_bytes c ≡ b = omega arith in rw e refl
slots-append c b (u ∷ us) xs =
    let e : b + slot_bytes c + length us * slot_bytes c ≡ b + suc (length us) * slot_bytes c = omega (arith, suc-mul (length us) (slot_bytes c)) in
    ap (λ t. aligned_slot b u && t) (slots-append c (b + slot_bytes c) us xs)
    ∙ sym (and_assoc (aligned_slot b u) (slots_aligned c (b + slot_bytes c) us) (slots_aligned c (b + slot_bytes c + length us * slot_bytes c) xs))
    ∙ ap (λ k. (aligned_slot b u && slots_aligned c (b + slot_bytes c) us) && slots_aligned c k xs) e

turn_aligned : (c b : ℕ) (ss : List Slot) → slots_aligned c b (map turn_ready ss) ≡ slots_aligned c b ss
turn_aligned c b [] = refl
turn_aligned c b (Fresh ∷ ss) = turn_aligned c (b + slot_bytes c) ss
turn_aligned c b (Idle r k d ∷ ss) = turn_aligned c (b + slot_bytes c) ss
turn_aligned c b (Live a ∷ ss) = ap (λ t. aligned_slot b (Live a) && t) (turn_aligned c (b + slot_bytes c) ss)

refill-aligned : (c b : ℕ) (ss : List Slot) → slots_aligned c b (refill ss) ≡ slots_aligned c b ss
unfolding refill
refill-aligned c b ss = choose_case (λ l. slots_aligned c b l ≡ slots_aligned c b ss) (any is_ready ss) ss (map turn_ready ss) (λ _. refl)
    (λ _. turn_aligned c b ss)

-- a live block in place, whatever its size
pub resized-aligned : (b n : ℕ) (x : Slot) → T (is_live x) → T (aligned_slot b x)
    → T (aligned_slot b (Live (record { count = count x; disp = disp x; size = n; align = align x })))
resized-aligned b n Fresh l t = absurd l
resized-aligned b n (Idle r k d) l t = absurd l
resized-aligned b n (Live a) l t = t

-- an ordinary block, whose alignment is a unit
ordinary-aligned : (b d : ℕ) → b % 16 ≡ 0 → T (eqb ((b + 16 * d) % align_of ordinary) 0)
unfolding align_of
ordinary-aligned b d e = eq→eqb ((b + 16 * d) % 16) 0 (omega arith)

-- the lowest multiple of an alignment is whole units
round_units : (k b : ℕ) → 1 ≤ k → round_up (align_of k) b % 16 ≡ 0
unfolding round_up
round_units k b h =
    let q : ℕ = (b + (align_of k - 1)) / align_of k in
    let f : 16 * (align_of k / 16) ≡ align_of k = omega (arith, align-units k h) in
    ap (λ z. z % 16) (ap (λ z. z * q) (sym f) ∙ mul_assoc 16 (align_of k / 16) q ∙ mul_comm 16 (align_of k / 16 * q)) ∙ mul-mod_left (align_of k / 16 * q) 16

-- so a start that many units after a unit is that multiple
pub rounded : (k b : ℕ) → 1 ≤ k → b % 16 ≡ 0 → b + 16 * ((round_up (align_of k) b - b) / 16) ≡ round_up (align_of k) b
rounded k b h e = omega (arith, round_units k b h, (round_near (align_of k) b (omega (arith, align_least k h))).0)

-- a block that is granted in a slot that begins on a unit
pub grant_aligned_lem : (c k n b : ℕ) (x : Slot) → 1 ≤ k → b % 16 ≡ 0 → T (aligned_slot b (grant_slot c k n b x))
unfolding grant_slot displaced
grant_aligned_lem c k n b x h e =
    choose_case (λ d. T (eqb ((b + 16 * d) % align_of k) 0)) (leb k ordinary) _ _
    (λ o. let one : 1 ≡ k = omega (arith, leb-true k ordinary o) in
    subst (λ j. T (eqb ((b + 16 * (count x % suc ((slot_bytes c - 4 - n) / 16))) % align_of j) 0)) one
    (ordinary-aligned b (count x % suc ((slot_bytes c - 4 - n) / 16)) e))
    (λ o. eq→eqb _ 0 (ap (λ s. s % align_of k) (rounded k b h e) ∙ round_multiple (align_of k) b (omega (arith, align_least k h))))

-- ---- pools

module _ (row : ℕ) where
  aligned-append : (b : ℕ) (X Y : Pool) → aligned_from row b (X ++ Y) ≡ (aligned_from row b X && aligned_from row (b + row * rows row X) Y)
  aligned-append b [] Y = let e : b + row * 0 ≡ b = omega (arith, mul-zero row) in rw e refl
  aligned-append b (free ∷ X) Y =
      let e : b + row + row * rows row X ≡ b + row * (1 + rows row X) = omega (arith, mul-add row 1 (rows row X), mul-one row) in
      aligned-append (b + row) X Y ∙ ap (λ k. aligned_from row (b + row) X && aligned_from row k Y) e
  aligned-append b (group c ss ∷ X) Y =
      let k : ℕ = b + row * rows_of row c in
      let e : k + row * rows row X ≡ b + row * (rows_of row c + rows row X) = omega (arith, mul-add row (rows_of row c) (rows row X)) in
      ap (λ t. slots_aligned c (b + 16) ss && t) (aligned-append k X Y)
      ∙ sym (and_assoc (slots_aligned c (b + 16) ss) (aligned_from row k X) (aligned_from row (k + row * rows row X) Y))
      ∙ ap (λ j. (slots_aligned c (b + 16) ss && aligned_from row k X) && aligned_from row j Y) e

  -- what follows the spans X in a pool
  pub front : (X Y : Pool) → aligned row (X ++ Y) ≡ (aligned row X && aligned_from row (row * rows row X) Y)
  unfolding aligned
  front X Y = aligned-append 0 X Y ∙ ap (λ k. aligned_from row 0 X && aligned_from row k Y) (zero-add (row * rows row X))

  -- a group between two parts, by its slots
  pub record Parts (X : Pool) (c : ℕ) (ss : List Slot) (Y : Pool) : Type 0 where
    pub before : T (aligned row X)
    pub slots : T (slots_aligned c (row * rows row X + 16) ss)
    pub after : T (aligned_from row (row * rows row X + row * rows_of row c) Y)

  pub parts : (X : Pool) (c : ℕ) (ss : List Slot) (Y : Pool) → T (aligned row (X ++ (group c ss ∷ Y))) → Parts X c ss Y
  parts X c ss Y t =
      let u = subst T (front X (group c ss ∷ Y)) t in
      let v = and_right (aligned row X) (aligned_from row (row * rows row X) (group c ss ∷ Y)) u in
      record {
        before = and_left (aligned row X) _ u;
        slots = and_left (slots_aligned c (row * rows row X + 16) ss) _ v;
        after = and_right (slots_aligned c (row * rows row X + 16) ss) _ v;
      }

  pub whole : (X : Pool) (c : ℕ) (ss : List Slot) (Y : Pool) → Parts X c ss Y → T (aligned row (X ++ (group c ss ∷ Y)))
  whole X c ss Y p =
      subst T (sym (front X (group c ss ∷ Y)))
      (and_both (aligned row X) _ p.before (and_both (slots_aligned c (row * rows row X + 16) ss) _ p.slots p.after))

  -- the same where free rows lie in the group's place
  pub freed_whole : (X : Pool) (c : ℕ) (ss : List Slot) (Y : Pool) → Parts X c ss Y → T (aligned row (X ++ (fresh_pool (rows_of row c) ++ Y)))
  freed_whole X c ss Y p =
      let b : ℕ = row * rows row X in
      let F : Pool = fresh_pool (rows_of row c) in
      subst T (sym (front X (F ++ Y) ∙ ap (λ t. aligned row X && t) (aligned-append b F Y)))
      (and_both (aligned row X) _ p.before
      (and_both (aligned_from row b F) _ (fresh-aligned row b (rows_of row c))
      (subst (λ k. T (aligned_from row (b + row * k) Y)) (sym (fresh-rows row (rows_of row c))) p.after)))

  pub made_parts : (X : Pool) (c : ℕ) (Y : Pool) → T (aligned row (X ++ (fresh_pool (rows_of row c) ++ Y)))
      → T (aligned row X) × T (aligned_from row (row * rows row X + row * rows_of row c) Y)
  made_parts X c Y t =
      let b : ℕ = row * rows row X in
      let F : Pool = fresh_pool (rows_of row c) in
      let u = subst T (front X (F ++ Y) ∙ ap (λ t. aligned row X && t) (aligned-append b F Y)) t in
      let v = and_right (aligned row X) (aligned_from row b F && aligned_from row (b + row * rows row F) Y) u in (
        and_left (aligned row X) _ u,
        subst (λ k. T (aligned_from row (b + row * k) Y)) (fresh-rows row (rows_of row c)) (and_right (aligned_from row b F) _ v),
      )

  -- a slot between two others
  pub record Around (p : Place) : Type 0 where
    pub lower : T (slots_aligned p.cls (base row p + 16) p.lower)
    pub here : T (aligned_slot (beginning row p) p.state)
    pub upper : T (slots_aligned p.cls (beginning row p + slot_bytes p.cls) p.upper)

  pub around : (p : Place) → T (slots_aligned p.cls (base row p + 16) (p.lower ++ (p.state ∷ p.upper))) → Around p
  around p t =
      let u = subst T (slots-append p.cls (base row p + 16) p.lower (p.state ∷ p.upper)) t in
      let v = and_right (slots_aligned p.cls (base row p + 16) p.lower) (slots_aligned p.cls (beginning row p) (p.state ∷ p.upper)) u in
      record {
        lower = and_left (slots_aligned p.cls (base row p + 16) p.lower) _ u;
        here = and_left (aligned_slot (beginning row p) p.state) _ v;
        upper = and_right (aligned_slot (beginning row p) p.state) _ v;
      }

  pub rejoined : (p : Place) → Around p → T (slots_aligned p.cls (base row p + 16) (p.lower ++ (p.state ∷ p.upper)))
  rejoined p a =
      subst T (sym (slots-append p.cls (base row p + 16) p.lower (p.state ∷ p.upper)))
      (and_both (slots_aligned p.cls (base row p + 16) p.lower) _ a.lower
      (and_both (aligned_slot (beginning row p) p.state) _ a.here a.upper))

  -- in a pool whose blocks are on their boundaries, a slot's block is
  pub here_aligned : (p : Place) → T (aligned row (pool_of p)) → T (aligned_slot (beginning row p) p.state)
  here_aligned p t = (around p (parts p.before p.cls (p.lower ++ (p.state ∷ p.upper)) p.after t).slots).here

  -- a slot with another state
  pub become-aligned : (p : Place) (x : Slot) → T (aligned_slot (beginning row p) x) → T (aligned row (pool_of p)) → T (aligned row (pool_of (become p x)))
  become-aligned p x h t =
      let P = parts p.before p.cls (p.lower ++ (p.state ∷ p.upper)) p.after t in
      let a = around p P.slots in
      whole p.before p.cls (p.lower ++ (x ∷ p.upper)) p.after
      (record { before = P.before; slots = rejoined (become p x) (record { lower = a.lower; here = h; upper = a.upper }); after = P.after })

  -- where rows are whole units, slots begin on units
  pub begins_on_unit : (p : Place) → row % 16 ≡ 0 → beginning row p % 16 ≡ 0
  unfolding slot_bytes
  begins_on_unit p e =
      let r : ℕ = rows row p.before in
      let f : row ≡ 16 * (row / 16) = omega arith in
      let g : row * r ≡ 16 * (row / 16 * r) = ap (λ z. z * r) f ∙ mul_assoc 16 (row / 16) r in
      let u : slot_number p * (16 * units_of p.cls) ≡ 16 * (units_of p.cls * slot_number p) =
      mul_comm (slot_number p) (16 * units_of p.cls) ∙ mul_assoc 16 (units_of p.cls) (slot_number p) in
      omega (arith, g, u)

  -- a slot that a grant takes, where the site's slots are on their boundaries
  pub granted-aligned : (q : Place) (old : Slot) (k n : ℕ) → row % 16 ≡ 0 → 1 ≤ k → q.state ≡ grant_slot q.cls k n (beginning row q) old
      → T (slots_aligned q.cls (base row q + 16) (q.lower ++ (old ∷ q.upper)))
      → T (slots_aligned q.cls (base row q + 16) (q.lower ++ (q.state ∷ q.upper)))
  granted-aligned q old k n e h s t =
      let a = around (become q old) t in
      rejoined q (record {
        lower = a.lower;
        here = subst (λ x. T (aligned_slot (beginning row q) x)) (sym s) (grant_aligned_lem q.cls k n (beginning row q) old h (begins_on_unit q e));
        upper = a.upper;
      })

  pub refilled : (c b : ℕ) (ss : List Slot) → T (slots_aligned c b ss) → T (slots_aligned c b (refill ss))
  refilled c b ss t = subst T (sym (refill-aligned c b ss)) t
