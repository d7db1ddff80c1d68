-- A flipped bit of a mask or of a requested size is found: ready slots, waiting slots and requested bytes, counted together, are a sum over
-- the single bytes of the room, each weighed by its place, and the flip changes one term of it.
use Rattle.mem.proofs.Prelude.{◌∙◌, ◌≡◌, sym, ap, refl, ap₂, subst, false, List, [], ◌∷◌, ◌++◌, append_assoc, map, ◌+◌, ℕ, ◌<◌, ◌≤◌, ◌*◌, ◌-◌, suc, ◌/◌, zero}
use Rattle.mem.proofs.Prelude.{◌^◌, ◌%◌, zero-add, pow-suc, arith, T, eqb, ltb, lit≤, length, drop, get_or, set, length-drop, get_or-drop, ones, lt-ltb, le-ltb}
use Rattle.mem.proofs.Prelude.{eqb-true, eqb-false}
use native.Mathlib.Nat.{lt_of_not-le, suc-add, suc-mul, mul-zero, mod-eq_of_lt, mod-lt}
use lib.ListN.{get_or-eq_default}
use lib.Seq.{drop-set-add}
use lib.Pow.{pow_pos, split}
use lib.Count.{ones_step, ones_cat}
use Rattle.mem.specs.Lists.{choose, every, sum, join}
use Rattle.mem.specs.Bytes.{zeros, low, bit, mask}
use Rattle.mem.proofs.Tests.{and_left, and_right, T_true, same_test, choose-true, choose-false, choose_case}
use Rattle.mem.proofs.Laws.{number-low}
use Rattle.classes.specs.Classes.{rows_of}
use Rattle.model.specs.declared.Slot.{Slot}
use Rattle.model.specs.declared.Slot.TheVariants.{Fresh, Idle, Live}
use Rattle.model.specs.declared.Holder.{Holder}
use Rattle.model.specs.declared.Holder.TheVariants.{Free, First, Later}
use Rattle.model.specs.declared.Totals.{Totals}
use Rattle.model.specs.State.{Pool, free, group, is_ready, is_waiting, size, slot_sound, span_sound, well_formed}
use Rattle.model.specs.Plans.{Call, sets_up, totals}
use Rattle.model.specs.Tables.{row_at, slot_record, row_record, later_records, span_records_by, span_records, encode_by, room_bytes, masks_layout, view, sound}
use Rattle.model.specs.Calls.{KeptBytes, kept_in, engine, sound_kept, unsound}
use Rattle.model.proofs.Tables.{masks_laws, size_small, slot_length, row_length, group_few, mask_fits, encode-length, Sound, sound_facts}
use Rattle.model.proofs.Counts.{mask-ones}
use Rattle.model.proofs.Kept.{kept_totals}
use Rattle.model.proofs.Calls.{Asks, call-unsound}
use Rattle.claims.proofs.Cases.{by_call}
use Rattle.claims.specs.Record.{flip, flipped, CountedByte, masks, sizes, FlipsRefused}

-- ---- a flipped byte

-- bit b, where it was 0, is one more of the ones
more-ones : (b q r : ℕ) → r < 2 ^ b → q % 2 ≡ 0 → ones (q * 2 ^ b + r + 2 ^ b) ≡ suc (ones (q * 2 ^ b + r))
more-ones b q r h e =
    let f : q * 2 ^ b + r + 2 ^ b ≡ suc q * 2 ^ b + r = omega (arith, suc-mul q (2 ^ b)) in
    let g : suc q / 2 ≡ q / 2 = omega arith in
    let i : ones (suc q) ≡ suc q % 2 + ones (q / 2) = ones_step (suc q) ∙ ap (λ n. suc q % 2 + ones n) g in
    ap ones f ∙ omega (arith, ones_cat b (suc q) r h, ones_cat b q r h, ones_step q)

-- a flip is one more of the ones, or one less
flip-ones : (b x : ℕ) → ones (flip b x) ≡ ones x → ⊥
unfolding flip
flip-ones b x =
    choose_case (λ y. ones y ≡ ones x → ⊥) (eqb (x / 2 ^ b % 2) 0) (x + 2 ^ b) (x - 2 ^ b)
    (λ e. clear (eqb-true (x / 2 ^ b % 2) 0 e)) (λ e. held (eqb-false (x / 2 ^ b % 2) 0 e))
  where
    small : x % 2 ^ b < 2 ^ b
    small = mod-lt x (pow_pos b)

    clear : x / 2 ^ b % 2 ≡ 0 → ones (x + 2 ^ b) ≡ ones x → ⊥
    clear e f = omega (arith, subst (λ y. ones (y + 2 ^ b) ≡ suc (ones y)) (split x b) (more-ones b (x / 2 ^ b) (x % 2 ^ b) small e))

    held : (x / 2 ^ b % 2 ≡ 0 → ⊥) → ones (x - 2 ^ b) ≡ ones x → ⊥
    held e f =
        let q : ℕ = x / 2 ^ b - 1 in
        let i : x / 2 ^ b ≡ suc q = omega arith in
        let j : q * 2 ^ b + x % 2 ^ b + 2 ^ b ≡ x = omega (arith, suc-mul q (2 ^ b), split x b, ap (λ m. m * 2 ^ b) i) in
        let k : x - 2 ^ b ≡ q * 2 ^ b + x % 2 ^ b = omega arith in
        omega (arith, ap ones k, ap ones j, more-ones b q (x % 2 ^ b) small (omega arith))

-- ---- the bytes of a list, each weighed by its place

-- the byte x at place k counts w k x
unfoldable weigh : (ℕ → ℕ → ℕ) → List ℕ → ℕ
weigh w [] = 0
weigh w (x ∷ xs) = w 0 x + weigh (λ k. w (suc k)) xs

weigh_by : (w v : ℕ → ℕ → ℕ) (xs : List ℕ) → ((k x : ℕ) → k < length xs → w k x ≡ v k x) → weigh w xs ≡ weigh v xs
unfolding weigh
weigh_by w v [] e = refl
weigh_by w v (x ∷ xs) e = omega (arith, e 0 x (omega arith), weigh_by (λ k. w (suc k)) (λ k. v (suc k)) xs (λ k y h. e (suc k) y (omega arith)))

weigh_append : (w v : ℕ → ℕ → ℕ) (xs ys : List ℕ) → ((k x : ℕ) → w (length xs + k) x ≡ v k x) → weigh w (xs ++ ys) ≡ weigh w xs + weigh v ys
unfolding weigh
weigh_append w v [] ys e = weigh_by w v ys (λ k x _. ap (λ i. w i x) (sym (zero-add k)) ∙ e k x) ∙ sym (zero-add (weigh v ys))
weigh_append w v (x ∷ xs) ys e =
    omega (arith, weigh_append (λ k. w (suc k)) v xs ys (λ k y. ap (λ i. w i y) (sym (suc-add (length xs) k)) ∙ e k y))

weigh_zeros : (w : ℕ → ℕ → ℕ) (n : ℕ) → ((k : ℕ) → w k 0 ≡ 0) → weigh w (zeros n) ≡ 0
unfolding weigh zeros
weigh_zeros w zero e = refl
weigh_zeros w (suc n) e = omega (arith, e 0, weigh_zeros (λ k. w (suc k)) n (λ k. e (suc k)))

-- one byte changes one term
weigh_set : (w : ℕ → ℕ → ℕ) (xs : List ℕ) (p v : ℕ) → p < length xs → weigh w (set xs p v) + w p (get_or xs p 0) ≡ weigh w xs + w p v
unfolding weigh
weigh_set w [] p v h = absurd (omega arith)
weigh_set w (x ∷ xs) zero v h = omega arith
weigh_set w (x ∷ xs) (suc p) v h = omega (arith, weigh_set (λ k. w (suc k)) xs p v (omega arith))

-- ---- a slot's record: the three bytes of the requested size

unfoldable scale : ℕ → ℕ
scale r = get_or (0 ∷ 0 ∷ 0 ∷ 0 ∷ 1 ∷ 256 ∷ 65536 ∷ []) r 0

unfoldable slot_weight : ℕ → ℕ → ℕ
slot_weight k x = scale (k % 8) * x

slot_weight_lem : (m k x : ℕ) → slot_weight (8 * m + k) x ≡ slot_weight k x
unfolding slot_weight
slot_weight_lem m k x = let e : (8 * m + k) % 8 ≡ k % 8 = omega arith in ap (λ r. scale r * x) e

slot_weighed : (c : ℕ) (x : Slot) → T (slot_sound c x) → weigh slot_weight (slot_record x) ≡ size x
unfolding weigh slot_weight scale slot_record zeros
slot_weighed c Fresh t = refl
slot_weighed c (Idle r k d) t = omega arith
slot_weighed c (Live a) t = omega (arith, number-low 3 a.size (omega (arith, size_small c (Live a) t)))

slots_weighed : (c : ℕ) (ss : List Slot) (n : ℕ) → T (every (slot_sound c) ss) → weigh slot_weight (join slot_record ss ++ zeros n) ≡ sum size ss
unfolding slot_weight
slots_weighed c [] n t = weigh_zeros slot_weight n (λ k. mul-zero (scale (k % 8)))
slots_weighed c (x ∷ ss) n t =
    ap (weigh slot_weight) (append_assoc (slot_record x) (join slot_record ss) (zeros n))
    ∙ weigh_append slot_weight slot_weight (slot_record x) (join slot_record ss ++ zeros n)
    (λ k y. ap (λ l. slot_weight (l + k) y) (slot_length x) ∙ slot_weight_lem 1 k y)
    ∙ ap₂ (λ a b. a + b) (slot_weighed c x (and_left (slot_sound c x) (every (slot_sound c) ss) t))
    (slots_weighed c ss n (and_right (slot_sound c x) (every (slot_sound c) ss) t))

-- ---- a row's record: the ones of the two masks, and the slots' records

unfoldable row_weight : ℕ → ℕ → ℕ
row_weight k x = choose (ltb k 8) 0 (choose (ltb k 16) (ones x) (slot_weight k x))

row_masks : (k x : ℕ) → k < 8 → row_weight (8 + k) x ≡ ones x
unfolding row_weight
row_masks k x h =
    choose-false (ltb (8 + k) 8) _ _ (le-ltb (8 + k) 8 (omega arith)) ∙ choose-true (ltb (8 + k) 16) _ _ (lt-ltb (8 + k) 16 (omega arith))

row_slots : (k x : ℕ) → row_weight (16 + k) x ≡ slot_weight k x
unfolding row_weight
row_slots k x =
    choose-false (ltb (16 + k) 8) _ _ (le-ltb (16 + k) 8 (omega arith)) ∙ choose-false (ltb (16 + k) 16) _ _ (le-ltb (16 + k) 16 (omega arith))
    ∙ slot_weight_lem 2 k x

-- the ones of a number are those of its bytes
low_ones : (k m : ℕ) → m < 256 ^ k → weigh (λ i x. ones x) (low k m) ≡ ones m
unfolding weigh ones
low_ones zero m h = let e : m ≡ 0 = omega arith in ap ones (sym e)
low_ones (suc k) m h =
    omega (arith, low_ones k (m / 256) (omega (arith, pow-suc 256 k)), ap ones (split m 8), ones_cat 8 (m / 256) (m % 256) (mod-lt m (lit≤ tt)))

masks_weighed : (a b m n : ℕ) (S : List ℕ) → m < 256 ^ 4 → n < 256 ^ 4
    → weigh row_weight (a ∷ b ∷ (zeros 6 ++ (low 4 m ++ (low 4 n ++ S)))) ≡ ones m + ones n + weigh slot_weight S
unfolding weigh row_weight choose zeros
masks_weighed a b m n S h g =
    weigh_append row_weight slot_weight (a ∷ b ∷ (zeros 6 ++ (low 4 m ++ low 4 n))) S row_slots
    ∙ ap (λ k. k + weigh slot_weight S) (omega (arith, low_ones 4 m h, low_ones 4 n g))

-- ready, waiting and requested bytes together: of slots, and in totals
abbrev counts : List Slot → ℕ
counts ss = sum (λ x. bit (is_ready x)) ss + sum (λ x. bit (is_waiting x)) ss + sum size ss

abbrev measure : Totals → ℕ
measure s = s.ready + s.waiting + s.bytes

row_weighed : (h : Holder) (c : ℕ) (ss : List Slot) → length ss ≤ 31 → T (every (slot_sound c) ss) → weigh row_weight (row_record h ss) ≡ counts ss
unfolding row_record
row_weighed h c ss l t = go h ∙ rw (mask-ones is_ready ss, mask-ones is_waiting ss, slots_weighed c ss (8 * (31 - length ss)) t)
  where
    S : List ℕ
    S = join slot_record ss ++ zeros (8 * (31 - length ss))

    go : (h : Holder) → weigh row_weight (row_record h ss) ≡ ones (mask (map is_ready ss)) + ones (mask (map is_waiting ss)) + weigh slot_weight S
    go Free = masks_weighed 0 0 _ _ S (mask_fits is_ready ss l) (mask_fits is_waiting ss l)
    go (First c) = masks_weighed 1 c _ _ S (mask_fits is_ready ss l) (mask_fits is_waiting ss l)
    go (Later k) = masks_weighed 2 k _ _ S (mask_fits is_ready ss l) (mask_fits is_waiting ss l)

-- ---- the room behind its head, row by row

-- free and later rows have zeros where a group's first row has what is counted, so every row is weighed in the same way
unfoldable weight : ℕ → ℕ → ℕ
weight p x = row_weight (p % 264) x

row_adds : (h : Holder) (c : ℕ) (ss : List Slot) (rest : List ℕ) → length ss ≤ 31 → T (every (slot_sound c) ss)
    → weigh weight (row_record h ss ++ rest) ≡ counts ss + weigh weight rest
unfolding weight
row_adds h c ss rest l t =
    let e : (k : ℕ) → (length (row_record h ss) + k) % 264 ≡ k % 264 = λ k. omega (arith, row_length h ss l) in
    let f : (k : ℕ) → k < length (row_record h ss) → k % 264 ≡ k = λ k i. mod-eq_of_lt (omega (arith, row_length h ss l)) in
    weigh_append weight weight (row_record h ss) rest (λ k x. ap (λ j. row_weight j x) (e k))
    ∙ ap (λ n. n + weigh weight rest) (weigh_by weight row_weight (row_record h ss) (λ k x i. ap (λ j. row_weight j x) (f k i)) ∙ row_weighed h c ss l t)

later_adds : (m k : ℕ) (rest : List ℕ) → weigh weight (later_records m k ++ rest) ≡ weigh weight rest
unfolding later_records
later_adds zero k rest = refl
later_adds (suc m) k rest =
    ap (weigh weight) (append_assoc (row_record (Later k) []) (later_records m (suc k)) rest)
    ∙ omega (arith, row_adds (Later k) 0 [] (later_records m (suc k) ++ rest) (lit≤ tt) tt, later_adds m (suc k) rest)

module _ (row : ℕ) where
  spans_weighed : (P : Pool) → T (well_formed P) → weigh weight (join (span_records row) P) ≡ measure (totals row P)
  unfolding span_records_by span_sound totals weigh
  spans_weighed [] t = refl
  spans_weighed (free ∷ P) t =
      omega (arith, row_adds Free 0 [] (join (span_records row) P) (lit≤ tt) tt, spans_weighed P t)
  spans_weighed (group c ss ∷ P) t =
      let h : T (span_sound (group c ss)) = and_left (span_sound (group c ss)) (well_formed P) t in
      let R : List ℕ = later_records (rows_of row c - 1) 1 in
      let J : List ℕ = join (span_records row) P in
      let e : row_record (First c) ss ++ R ++ J ≡ row_record (First c) ss ++ (R ++ J) = append_assoc (row_record (First c) ss) R J in
      omega (
        arith,
        ap (weigh weight) e,
        row_adds (First c) c ss (R ++ J) (group_few c ss h) (search (and_left, and_right)),
        later_adds (rows_of row c - 1) 1 J,
        spans_weighed P (and_right (span_sound (group c ss)) (well_formed P) t),
      )

-- ---- what a flip changes

-- what a byte of a requested size counts tells the byte
scaled : (k y z : ℕ) → k < 3 → slot_weight (4 + k) y ≡ slot_weight (4 + k) z → y ≡ z
unfolding slot_weight scale
scaled zero y z h e = omega arith
scaled (suc zero) y z h e = omega arith
scaled (suc (suc zero)) y z h e = omega arith
scaled (suc (suc (suc k))) y z h e = absurd (omega arith)

flip_weighs : (i p b x : ℕ) → CountedByte i p → weight (p - 16) (flip b x) ≡ weight (p - 16) x → ⊥
unfolding weight
flip_weighs i p b x (masks k h at) e =
    let q : (p - 16) % 264 ≡ 8 + k = omega arith in
    let f : (y : ℕ) → row_weight ((p - 16) % 264) y ≡ ones y = λ y. rw q (row_masks k y h) in
    flip-ones b x (sym (f (flip b x)) ∙ e ∙ f x)
flip_weighs i p b x (sizes j k u h at) e =
    let q : (p - 16) % 264 ≡ 16 + (8 * j + (4 + k)) = omega arith in
    let f : (y : ℕ) → row_weight ((p - 16) % 264) y ≡ slot_weight (4 + k) y = λ y. rw q (row_slots (8 * j + (4 + k)) y ∙ slot_weight_lem j (4 + k) y) in
    flip-ones b x (ap ones (scaled k (flip b x) x h (sym (f (flip b x)) ∙ e ∙ f x)))

-- a byte that counts stands behind the head, and in its row
counts_in : (i p : ℕ) → CountedByte i p → (row_at i ≤ p) × (p < row_at (suc i))
counts_in i p (masks k h at) = (omega arith, omega arith)
counts_in i p (sizes j k u h at) = (omega arith, omega arith)

refuses : (c : Call) → (c ≡ sets_up → ⊥) → Asks c × ((unsound c).number ≡ 2)
refuses = by_call (λ c. (c ≡ sets_up → ⊥) → Asks c × ((unsound c).number ≡ 2)) (λ h. absurd (h refl)) (λ c k _. (k, refl))

module _ (row : ℕ) (pos : 0 < row) where
  facts : (n : ℕ) (t : KeptBytes) → T (sound_kept row n t) → Sound masks_layout row n t.tables
  facts n t s = sound_facts masks_layout row n t.tables (and_left (sound row n t.tables) _ s)

  -- the bytes of sound tables say what the record says
  room_weighed : (n : ℕ) (t : KeptBytes) → T (sound_kept row n t) → weigh weight (drop 16 t.tables) ≡ measure t.totals
  unfolding encode_by zeros
  room_weighed n t s =
      ap (λ l. weigh weight (drop 16 l)) (facts n t s).form
      ∙ spans_weighed row (view row t.tables) (facts n t s).formed
      ∙ ap measure (sym (kept_totals row n t (T_true (sound_kept row n t) s)))

  -- a row whose first byte is not 0 lies in the room
  row_in : (n : ℕ) (t : KeptBytes) (i : ℕ) → T (sound_kept row n t) → get_or t.tables (row_at i) 0 ≡ 1 → row_at (suc i) ≤ length t.tables
  unfolding room_bytes
  row_in n t i s first =
      let h : row_at i < length t.tables = lt_of_not-le (λ l. omega (arith, first, get_or-eq_default t.tables 0 l)) in
      omega (arith, h, ap length (facts n t s).form ∙ encode-length masks_laws row pos (view row t.tables) (facts n t s).formed)

  pub flips_refused : FlipsRefused row
  flips_refused a t i p b c s first at small asks =
      let r = refuses c asks in
      ap (λ o. o.answer.number)
      (call-unsound row (engine row) a bad c r.0 (same_test (sound_kept row (length a) bad) false unsounds (λ x. absurd x)))
      ∙ r.1
    where
      bad : KeptBytes
      bad = kept_in (flipped p b t.tables) t.totals

      q : ℕ
      q = p - 16

      place : p ≡ 16 + q
      place = omega (arith, (counts_in i p at).0)

      long : q < length (drop 16 t.tables)
      long = omega (arith, length-drop 16 t.tables, (counts_in i p at).1, place, row_in (length a) t i s first)

      old : ℕ
      old = get_or t.tables p 0

      read : get_or (drop 16 t.tables) q 0 ≡ old
      read = get_or-drop 16 t.tables q 0 ∙ ap (λ k. get_or t.tables k 0) (sym place)

      changed : drop 16 bad.tables ≡ set (drop 16 t.tables) q (flip b old)
      changed = ap (λ k. drop 16 (set t.tables k (flip b old))) place ∙ drop-set-add 16 t.tables q (flip b old)

      unsounds : T (sound_kept row (length a) bad) → ⊥
      unsounds z =
          flip_weighs i p b old at
          (omega (
            arith,
            weigh_set weight (drop 16 t.tables) q (flip b old) long,
            ap (weigh weight) changed,
            ap (weight q) read,
            room_weighed (length a) t s,
            room_weighed (length a) bad z,
          ))
