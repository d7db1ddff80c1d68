-- What the changes of a group are to the pool's state.
use Rattle.mem.proofs.Prelude.{◌∙◌, ◌≡◌, sym, ap, refl, ap₂, subst, true, Bool, false, not, true≢false, List, [], ◌∷◌, ◌++◌, map, ◌+◌, ℕ, ◌<◌, ◌≤◌}
use Rattle.mem.proofs.Prelude.{◌*◌, ◌-◌, suc, zero, ◌^◌, pow-suc, arith, eq-eqb, ne_eqb, not-false, not-true, T, eqb, lit≤, length, drop}
use Rattle.mem.proofs.Prelude.{get_or, length-append, take, length-drop, length-map, length-take-le, ones}
use native.Mathlib.Nat.{le_trans, lt_of_lt_of_le, pow-le-pow_right}
use lib.Seq.{split_at, get_or_at}
use Rattle.mem.specs.Lists.{choose, any, first, sum, join}
use Rattle.mem.specs.Bytes.{bit, mask, zeros, put}
use Rattle.mem.proofs.Tests.{any-map}
use Rattle.mem.proofs.Masks.{mask_below, mask-zero, mask_pos, lowest-first}
use Rattle.classes.specs.Classes.{slot_bytes, slots_of, rows_of}
use Rattle.classes.proofs.Laws.{slots_small}
use Rattle.masks.specs.declared.Masks.{Masks}
use Rattle.masks.specs.Sets.{refilled, to_refill, lowest, taken, give_back}
use Rattle.model.specs.declared.Alloc.{Alloc}
use Rattle.model.specs.declared.Slot.{Slot}
use Rattle.model.specs.declared.Slot.TheVariants.{Fresh, Idle, Live}
use Rattle.model.specs.State.{Place, group, is_ready, is_waiting, is_live, count, disp, pool_of, become, slot_number, rows, beginning}
use Rattle.model.specs.Tables.{row_at, masks_layout, slot_record, later_records, span_records, encode, row_record_bytes}
use Rattle.model.specs.Plans.{Site, turn_ready, refill, grant_slot, grant_in, vacant, release_at}
use Rattle.model.proofs.Tables.{masks_laws}
use Rattle.model.proofs.Rooms.{encode_from}
use Rattle.model.proofs.Lookup.{Fits}
use Rattle.model.proofs.Counts.{mask-ones, ones-live, none-live}
use Rattle.model.proofs.Formed.{any_middle}
use Rattle.model.proofs.Reserve as reserve
use Rattle.rows.specs.declared.Block.{Block}
use Rattle.rows.specs.Rows.{block_of, resized, Holds, Offers}
use Rattle.rows.proofs.Rooms.{group-first}
use Rattle.rows.proofs.Spans.{dropped-encode}
use Rattle.rows.proofs.Held.{held_fits, held_first, held_class, held_slot, taken_begins, block_taken}
use Rattle.records.specs.Records.{masks_in, slot_in, stored}
use Rattle.records.proofs.Laws.{masks_of, stored-encode, masks-read_span, slot_read_as, refill_records}
use Rattle.totals.specs.Changes.{refills}
use Rattle.changes.specs.declared.Left.{Left}
use Rattle.changes.specs.declared.Left.TheVariants.{Kept, Dropped}
use Rattle.changes.specs.Changes.{left_as}

-- ---- the masks of a group when one slot changes

-- a slot enters a set, or stays in or out of it
module _ (f : Slot → Bool) (x y : Slot) (vs : List Slot) where
  mask_enter : (us : List Slot) → f x ≡ false → f y ≡ true → mask (map f (us ++ (x ∷ vs))) + 2 ^ length us ≡ mask (map f (us ++ (y ∷ vs)))
  mask_enter [] e h = rw (e, h) (omega arith)
  mask_enter (u ∷ us) e h = rw pow-suc (omega (arith, mask_enter us e h))

  mask-stay : (us : List Slot) → f x ≡ f y → mask (map f (us ++ (x ∷ vs))) ≡ mask (map f (us ++ (y ∷ vs)))
  mask-stay [] e = rw e
  mask-stay (u ∷ us) e = ap (λ m. bit (f u) + 2 * m) (mask-stay us e)

live_out : (x : Slot) → T (is_live x) → (is_ready x ≡ false) × (is_waiting x ≡ false)
live_out Fresh t = absurd t
live_out (Idle r k d) t = absurd t
live_out (Live a) t = (refl, refl)

ready_in_lem : (x : Slot) → T (is_ready x) → (is_ready x ≡ true) × (is_waiting x ≡ false)
ready_in_lem Fresh t = (refl, refl)
ready_in_lem (Idle true k d) t = (refl, refl)
ready_in_lem (Idle false k d) t = absurd t
ready_in_lem (Live a) t = absurd t

same-masks : {r r' w w' : ℕ} → r ≡ r' → w ≡ w' → ◌≡◌ {A = Masks} (record { ready = r; waiting = w }) (record { ready = r'; waiting = w' })
same-masks e f = cc

-- the lowest ready slot becomes live
masks-taken : (us : List Slot) (x y : Slot) (vs : List Slot) → T (is_ready x) → T (is_live y) → lowest (masks_of (us ++ (x ∷ vs))) ≡ length us
    → taken (masks_of (us ++ (x ∷ vs))) ≡ masks_of (us ++ (y ∷ vs))
unfolding taken
masks-taken us x y vs r l e =
    let (a, b) = ready_in_lem x r in
    let (p, q) = live_out y l in
    let h : mask (map is_ready (us ++ (x ∷ vs))) - 2 ^ length us ≡ mask (map is_ready (us ++ (y ∷ vs))) = omega (arith, mask_enter is_ready y x vs us p a) in
    same-masks (ap (λ j. mask (map is_ready (us ++ (x ∷ vs))) - 2 ^ j) e ∙ h) (mask-stay is_waiting x y vs us (b ∙ sym q))

-- a live slot becomes waiting
masks-given : (us : List Slot) (x : Slot) (k d : ℕ) (vs : List Slot) → T (is_live x)
    → give_back (masks_of (us ++ (x ∷ vs))) (length us) ≡ masks_of (us ++ (Idle false k d ∷ vs))
unfolding give_back
masks-given us x k d vs l =
    let (p, q) = live_out x l in
    same-masks (mask-stay is_ready x (Idle false k d) vs us p) (mask_enter is_waiting x (Idle false k d) vs us q refl)

-- a live slot stays live
masks-resized : (us : List Slot) (x y : Slot) (vs : List Slot) → T (is_live x) → T (is_live y) → masks_of (us ++ (x ∷ vs)) ≡ masks_of (us ++ (y ∷ vs))
masks-resized us x y vs l m =
    let (p, q) = live_out x l in
    let (p', q') = live_out y m in
    same-masks (mask-stay is_ready x y vs us (p ∙ sym p')) (mask-stay is_waiting x y vs us (q ∙ sym q'))

-- ---- refill, and the lowest ready slot

turned_ready : (ss : List Slot) → any is_ready ss ≡ false → mask (map is_ready (map turn_ready ss)) ≡ mask (map is_waiting ss)
turned_ready [] e = refl
turned_ready (Fresh ∷ ss) e = absurd (true≢false e)
turned_ready (Idle true k d ∷ ss) e = absurd (true≢false e)
turned_ready (Idle false k d ∷ ss) e = ap (λ m. 1 + 2 * m) (turned_ready ss e)
turned_ready (Live a ∷ ss) e = ap (λ m. 0 + 2 * m) (turned_ready ss e)

turned_waiting : (ss : List Slot) → mask (map is_waiting (map turn_ready ss)) ≡ 0
turned_waiting [] = refl
turned_waiting (Fresh ∷ ss) = ap (λ m. 0 + 2 * m) (turned_waiting ss)
turned_waiting (Idle r k d ∷ ss) = ap (λ m. 0 + 2 * m) (turned_waiting ss)
turned_waiting (Live a ∷ ss) = ap (λ m. 0 + 2 * m) (turned_waiting ss)

masks-refilled : (ss : List Slot) → refilled (masks_of ss) ≡ masks_of (refill ss)
unfolding refilled refill choose
masks-refilled ss =
    ap (λ b. choose b (record { ready = mask (map is_waiting ss); waiting = 0 }) (masks_of ss))
    (mask-zero (map is_ready ss) ∙ ap not (any-map (λ b. b) is_ready ss))
    ∙ go (any is_ready ss) refl
  where
    go : (b : Bool) → any is_ready ss ≡ b → choose (not b) (record { ready = mask (map is_waiting ss); waiting = 0 }) (masks_of ss)
        ≡ masks_of (choose b ss (map turn_ready ss))
    go true e = refl
    go false e = same-masks (sym (turned_ready ss e)) (sym (turned_waiting ss))

to_refill_lem : (ss : List Slot) → to_refill (masks_of ss) ≡ refills ss
unfolding to_refill refills choose
to_refill_lem ss =
    ap₂ (λ b k. choose b k 0) (mask-zero (map is_ready ss) ∙ ap not (any-map (λ b. b) is_ready ss)) (mask-ones is_waiting ss) ∙ go (any is_ready ss)
  where
    go : (b : Bool) → choose (not b) (sum (λ x. bit (is_waiting x)) ss) 0 ≡ choose b 0 (sum (λ x. bit (is_waiting x)) ss)
    go true = refl
    go false = refl

first-map : (f : Slot → Bool) (ss : List Slot) → first (λ b. b) (map f ss) ≡ first f ss
first-map f [] = refl
first-map f (x ∷ ss) = ap (λ k. choose (f x) 0 (suc k)) (first-map f ss)

lowest_ready : (ss : List Slot) → T (any is_ready ss) → length ss ≤ 31 → lowest (masks_of ss) ≡ first is_ready ss
unfolding lowest
lowest_ready ss t h =
    lowest-first 32 (map is_ready ss) (rw (any-map (λ b. b) is_ready ss) t) (omega (arith, length-map ss is_ready)) ∙ first-map is_ready ss

-- slots with the same records have them before and behind each place
same_records : (xs ys : List Slot) → length xs ≡ length ys → ((k : ℕ) → slot_record (get_or xs k Fresh) ≡ slot_record (get_or ys k Fresh)) → (j : ℕ)
    → (join slot_record (take j xs) ≡ join slot_record (take j ys)) × (join slot_record (drop j xs) ≡ join slot_record (drop j ys))
same_records [] [] e h j = (refl, refl)
same_records [] (y ∷ ys) e h j = absurd (omega arith)
same_records (x ∷ xs) [] e h j = absurd (omega arith)
same_records (x ∷ xs) (y ∷ ys) e h zero = (refl, ap₂ (λ s t. s ++ t) (h 0) (same_records xs ys (omega arith) (λ k. h (suc k)) 0).1)
same_records (x ∷ xs) (y ∷ ys) e h (suc j) =
    let (a, b) = same_records xs ys (omega arith) (λ k. h (suc k)) j in (ap₂ (λ s t. s ++ t) (h 0) a, b)

-- ---- a slot is taken

module _ (row i c v n : ℕ) (g : Site) (t : List ℕ) (o : Offers masks_layout row t i c g) where
  -- the place that is taken, and how
  abbrev q : Place
  q = grant_in row c v n g

  k : reserve.Taken row c v n g q
  k = reserve.grant-taken row c v n g o.spare

  -- the records from the group on
  here : List ℕ
  here = drop (row_at i) t

  from : here ≡ join (span_records row) (group c g.slots ∷ g.after)
  unfolding here
  from =
      ap₂ (λ j l. drop (row_at j) l) o.first o.bytes
      ∙ encode_from masks_laws row o.pos g.before (group c g.slots ∷ g.after) o.before

  few : length g.slots ≤ 31
  few = omega (arith, o.slots, slots_small c)

  inside : slot_number q < length (refill g.slots)
  inside = omega (arith, k.number, (reserve.first_ready (refill g.slots) (reserve.refill_ready g.slots o.spare)).0)

  masks-site : refilled (masks_in here) ≡ masks_of (refill g.slots)
  masks-site = ap (λ l. refilled (masks_in l)) from ∙ ap refilled (masks-read_span row c g.slots g.after few) ∙ masks-refilled g.slots

  refill-site : to_refill (masks_in here) ≡ refills g.slots
  refill-site = ap (λ l. to_refill (masks_in l)) from ∙ ap to_refill (masks-read_span row c g.slots g.after few) ∙ to_refill_lem g.slots

  lowest-site : lowest (masks_of (refill g.slots)) ≡ slot_number q
  lowest-site =
      lowest_ready (refill g.slots) (reserve.refill_ready g.slots o.spare) (omega (arith, few, reserve.refill-length g.slots)) ∙ sym k.number

  slot_site : slot_in (masks_of (refill g.slots)) (slot_number q) here ≡ k.old
  slot_site =
      ap (slot_in (masks_of (refill g.slots)) (slot_number q)) (from ∙ group-first masks_layout row c g.slots g.after)
      ∙ slot_read_as c g.slots (later_records (rows_of row c - 1) 1 ++ join (span_records row) g.after) (slot_number q)
      (omega (arith, inside, reserve.refill-length g.slots))
      (refill g.slots) (reserve.refill-length g.slots) (reserve.refill-sound c g.slots o.sound) (sym (refill_records g.slots (slot_number q)))
      ∙ ap (λ ss. get_or ss (slot_number q) Fresh) k.slots ∙ get_or_at q.lower k.old q.upper Fresh (slot_number q) refl

  masks-after : taken (masks_of (refill g.slots)) ≡ masks_of (q.lower ++ (q.state ∷ q.upper))
  masks-after =
      ap (λ ss. taken (masks_of ss)) k.slots
      ∙ masks-taken q.lower k.old q.state q.upper k.ready
      (subst (λ x. T (is_live x)) (sym k.state) (reserve.grant-live c v n (beginning row q) k.old))
      (ap (λ ss. lowest (masks_of ss)) (sym k.slots) ∙ lowest-site)

  stored-site : stored (row_at i) (masks_of (q.lower ++ (q.state ∷ q.upper))) (slot_number q) q.state t ≡ encode row (pool_of q)
  unfolding grant_in
  stored-site =
      let ss : List Slot = g.slots in
      let rs : List Slot = refill ss in
      let j : ℕ = first is_ready rs in
      let l : length rs ≡ length ss = reserve.refill-length ss in
      let r : j < length rs = (reserve.first_ready rs (reserve.refill_ready ss o.spare)).0 in
      let h : (k : ℕ) → slot_record (get_or ss k Fresh) ≡ slot_record (get_or rs k Fresh) = λ k. sym (refill_records ss k) in
      ap₂ (λ m u. stored (row_at m) (masks_of (q.lower ++ (q.state ∷ q.upper))) (slot_number q) q.state u) o.first
      (o.bytes ∙ ap (λ ss. encode row (g.before ++ (group c ss ∷ g.after))) (split_at ss j Fresh (omega arith)))
      ∙ stored-encode row o.pos g.before c (take j ss) (drop (suc j) ss) (take j rs) (drop (suc j) rs) q.state (get_or ss j Fresh) g.after o.before
      (length-take-le j ss (omega arith) ∙ sym (length-take-le j rs (omega arith))) (omega (arith, length-drop (suc j) ss, length-drop (suc j) rs))
      (same_records ss rs (sym l) h j).0 (same_records ss rs (sym l) h (suc j)).1

-- over what the calls give: the masks, the slot that is taken, and the room after it
module _ (i c v n : ℕ) (t : List ℕ) (m₀ m : Masks) (e₀ : m₀ ≡ masks_in (drop (row_at i) t)) (e : m ≡ refilled m₀) where
  -- what the code needs: a slot is ready, and its number is one of a group
  pub ready_number : (row : ℕ) (g : Site) → Offers masks_layout row t i c g → (0 < m.ready) × (lowest m < 31)
  unfolding here
  ready_number row g o =
      let f : m ≡ masks_of (refill g.slots) = e ∙ ap refilled e₀ ∙ masks-site row i c v n g t o in
      let r : T (any is_ready (refill g.slots)) = reserve.refill_ready g.slots o.spare in (
        rw f (mask_pos (map is_ready (refill g.slots)) (rw (any-map (λ b. b) is_ready (refill g.slots)) r)),
        rw f (omega (arith, lowest-site row i c v n g t o, inside row i c v n g t o, few row i c v n g t o, reserve.refill-length g.slots)),
      )

  -- as many as become ready first
  pub refilled-site : (row : ℕ) (g : Site) → Offers masks_layout row t i c g → to_refill m₀ ≡ refills g.slots
  unfolding here
  refilled-site row g o = ap to_refill e₀ ∙ refill-site row i c v n g t o

  -- the taken slot
  pub taken_slot : (row : ℕ) (g : Site) → Offers masks_layout row t i c g → (j : ℕ) (x₀ : Slot) (a : Alloc) (m' : Masks) (u : List ℕ) → j ≡ lowest m
      → x₀ ≡ slot_in m j (drop (row_at i) t) → Live a ≡ grant_slot c v n (row * i + 16 + j * slot_bytes c) x₀ → m' ≡ taken m → u ≡ stored (row_at i) m' j (Live a) t
      → (◌≡◌ {A = Block} (record { first = i; class = c; slot = j; alloc = a }) (block_of row (grant_in row c v n g)))
      × (u ≡ encode row (pool_of (grant_in row c v n g)))
  unfolding here
  taken_slot row g o j x₀ a m' u ej ex ea em eu =
      let z : Place = grant_in row c v n g in
      let f : m ≡ masks_of (refill g.slots) = e ∙ ap refilled e₀ ∙ masks-site row i c v n g t o in
      let fj : j ≡ slot_number z = ej ∙ ap lowest f ∙ lowest-site row i c v n g t o in
      let fx : x₀ ≡ (k row i c v n g t o).old = ex ∙ ap₂ (λ m j. slot_in m j (drop (row_at i) t)) f fj ∙ slot_site row i c v n g t o in
      let fb : row * i + 16 + j * slot_bytes c ≡ beginning row z =
      ap₂ (λ r s. row * r + 16 + s * slot_bytes c) o.first fj ∙ taken_begins row i c v n g in
      let fa : Live a ≡ z.state = ea ∙ ap₂ (grant_slot c v n) fb fx ∙ sym (k row i c v n g t o).state in
      let fm : m' ≡ masks_of (z.lower ++ (z.state ∷ z.upper)) = em ∙ ap taken f ∙ masks-after row i c v n g t o in (
        block_taken row i c v n g j a o.first fj fa,
        eu ∙ ap₂ (λ m j. stored (row_at i) m j (Live a) t) fm fj
            ∙ ap (λ x. stored (row_at i) (masks_of (z.lower ++ (z.state ∷ z.upper))) (slot_number z) x t) fa ∙ stored-site row i c v n g t o,
      )

-- ---- a slot is given back

module _ (row : ℕ) (t : List ℕ) (b : Block) (p : Place) (h : Holds masks_layout row t b p) where
  -- the group's slots before and after
  abbrev held : List Slot
  held = p.lower ++ (p.state ∷ p.upper)

  abbrev slots : List Slot
  slots = p.lower ++ (vacant p ∷ p.upper)

  f : Fits p
  f = held_fits row t b p h

  first_row_lem : b.first ≡ rows row p.before
  first_row_lem = held_first row t b p h

  class : b.class ≡ p.cls
  class = held_class row t b p h

  slot : b.slot ≡ slot_number p
  slot = held_slot row t b p h

  masks-group : masks_in (drop (row_at b.first) t) ≡ masks_of held
  masks-group =
      ap₂ (λ i l. masks_in (drop (row_at i) l)) first_row_lem h.bytes
      ∙ ap masks_in (encode_from masks_laws row h.pos p.before (group p.cls held ∷ p.after) f.before)
      ∙ masks-read_span row p.cls held p.after (omega (arith, f.slots, slots_small p.cls))

  slots_all : length slots ≡ slots_of p.cls
  slots_all = omega (arith, f.slots, length-append p.lower (p.state ∷ p.upper), length-append p.lower (vacant p ∷ p.upper))

  -- over what the calls give: the masks of the group, and those with the slot given back
  module _ (m₀ : Masks) (e₀ : m₀ ≡ masks_in (drop (row_at b.first) t)) where
    masks_place : give_back m₀ b.slot ≡ masks_of slots
    masks_place = ap₂ give_back (e₀ ∙ masks-group) slot ∙ masks-given p.lower p.state (count p.state) (disp p.state) p.upper h.live

    pub given-fits : m₀.waiting + 2 ^ b.slot < 4294967296
    unfolding give_back
    given-fits =
        let e : m₀.waiting + 2 ^ b.slot ≡ mask (map is_waiting slots) = ap (λ m. m.waiting) masks_place in
        let n : length (map is_waiting slots) ≤ 31 = omega (arith, length-map slots is_waiting, slots_all, slots_small p.cls) in
        subst (λ m. m < 4294967296) (sym e) (lt_of_lt_of_le (mask_below (map is_waiting slots)) (le_trans (pow-le-pow_right (lit≤ tt) n) (lit≤ {m = 2 ^ 31} tt)))

    module _ (m : Masks) (e : m ≡ give_back m₀ b.slot) where
      masks-left : m ≡ masks_of slots
      masks-left = e ∙ masks_place

      ones-left : ones m.ready + ones m.waiting + sum (λ x. bit (is_live x)) slots ≡ slots_of b.class
      ones-left =
          ones-live slots m.ready m.waiting (sym (ap (λ m. m.ready) masks-left)) (sym (ap (λ m. m.waiting) masks-left))
          ∙ slots_all ∙ ap slots_of (sym class)

      pub given_few : ones m.ready + ones m.waiting ≤ slots_of b.class
      given_few = omega (arith, ones-left)

      none_left : (k : ℕ) → k ≡ slots_of b.class - (ones m.ready + ones m.waiting) → eqb k 0 ≡ not (any is_live (p.lower ++ p.upper))
      none_left k d =
          let l : k ≡ sum (λ x. bit (is_live x)) slots = omega (arith, ones-left) in
          ap (λ k. eqb k 0) l ∙ none-live slots ∙ ap not (any_middle is_live p.lower (vacant p) p.upper)

      module _ (k : ℕ) (d : k ≡ slots_of b.class - (ones m.ready + ones m.waiting)) (u : List ℕ) where
        -- the group goes
        pub given_last : k ≡ 0 → (r : ℕ) → r ≡ rows_of row b.class → u ≡ put (row_at b.first) (zeros (row_record_bytes * r)) t
            → (Dropped (ones m₀.ready) (ones m₀.waiting) ≡ left_as p) × (u ≡ encode row (release_at row p).pool)
        unfolding release_at choose
        given_last z r er eu =
            let a : any is_live (p.lower ++ p.upper) ≡ false = not-true (any is_live (p.lower ++ p.upper)) (sym (none_left k d) ∙ eq-eqb k 0 z) in (
              rw a
                  (ap₂ {C = Left} Dropped (ap (λ m. ones m.ready) (e₀ ∙ masks-group) ∙ mask-ones is_ready held)
                  (ap (λ m. ones m.waiting) (e₀ ∙ masks-group) ∙ mask-ones is_waiting held)),
              eu ∙ rw (er, class, first_row_lem, h.bytes, a)
                  (dropped-encode masks_laws row h.pos p.before p.cls held p.after f.before (omega (arith, f.slots, slots_small p.cls))),
            )

        -- the group stays
        pub given_back : (k ≡ 0 → ⊥) → u ≡ stored (row_at b.first) m b.slot (Idle false b.alloc.count b.alloc.disp) t
            → (Kept ≡ left_as p) × (u ≡ encode row (release_at row p).pool)
        unfolding release_at choose
        given_back z eu =
            let a : any is_live (p.lower ++ p.upper) ≡ true = not-false (any is_live (p.lower ++ p.upper)) (sym (none_left k d) ∙ ne_eqb k 0 z) in (
              rw a,
              eu ∙ rw (masks-left, first_row_lem, slot, ap (λ b. b.alloc.count) h.block, ap (λ b. b.alloc.disp) h.block, h.bytes, a)
                  (stored-encode row h.pos p.before p.cls p.lower p.upper p.lower p.upper (vacant p) p.state p.after f.before
                  refl refl refl refl),
            )

    -- ---- a live slot gets another size

    pub resized_slot : (n : ℕ) (a : Alloc) (u : List ℕ) → Live a ≡ resized p n → u ≡ stored (row_at b.first) m₀ b.slot (Live a) t
        → u ≡ encode row (pool_of (become p (resized p n)))
    resized_slot n a u ea eu =
        eu ∙ rw (e₀ ∙ masks-group ∙ masks-resized p.lower p.state (resized p n) p.upper h.live tt, first_row_lem, slot, ea, h.bytes)
        (stored-encode row h.pos p.before p.cls p.lower p.upper p.lower p.upper (resized p n) p.state p.after f.before refl
        refl refl refl)
