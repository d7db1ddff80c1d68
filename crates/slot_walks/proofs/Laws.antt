-- Laws of the checks of a group: each is the tests that the code makes.
use Rattle.mem.proofs.Prelude.{◌∙◌, ◌≡◌, sym, ap, refl, ap₂, subst, true, Bool, false, ◌&&◌, not, ◌||◌, and_assoc, and-false, and-true, List, [], ◌∷◌, ◌++◌}
use Rattle.mem.proofs.Prelude.{map, ◌+◌, ℕ, ◌<◌, ◌≤◌, ◌*◌, ◌-◌, suc, ◌/◌, zero, ◌%◌, add-zero, add-one, arith, eq-eqb, ne_eqb, leb-true, leb-false}
use Rattle.mem.proofs.Prelude.{true≢false, le-leb, leb→le, ltb→lt}
use Rattle.mem.proofs.Prelude.{eqb-false, eqb-true, lt-ltb, T, eqb, leb, lit≤, ltb, eqb→eq, length, drop, get_or, take, drop-cons, get_or-drop}
use lib.Seq.{get_or-take}
use native.Mathlib.Nat.{suc-mul}
use Rattle.mem.specs.Lists.{choose, every, join, starts}
use Rattle.mem.specs.Bytes.{zeros, low, number, same, mask, bit, part}
use Rattle.mem.proofs.Tests.{and_left, and_right, and_both, same_test, eq→eqb, choose_case}
use Rattle.mem.proofs.Laws.{get_d_part, part-part}
use Rattle.mem.proofs.Starts.{eqb_sym, starts_then, starts-zeros, starts_two, starts-read}
use Rattle.classes.specs.Classes.{slot_bytes, class_of, size_limit, own_class, below2}
use Rattle.classes.specs.Alignments.{align_of, enlarged}
use Rattle.classes.proofs.Laws.{near_test, class_facts, class-past, bytes-units, bytes_least}
use Rattle.model.specs.declared.Slot.{Slot}
use Rattle.model.specs.declared.Slot.TheVariants.{Fresh, Idle, Live}
use Rattle.model.specs.State.{is_ready, is_waiting, is_live, count, slot_sound, aligned_slot, slots_aligned}
use Rattle.model.specs.Tables.{slot_record, view_slot, view_slots}
use Rattle.model.proofs.Tables.{slot_length}
use Rattle.slot_walks.specs.Slots.{slot_fits, slot_checked, slots_checked, slots_exactly}

-- ---- tests

self : (x : ℕ) → eqb x x ≡ true
self x = eq-eqb x x refl

pub and-left_comm : (a b c : Bool) → (a && (b && c)) ≡ (b && (a && c))
and-left_comm true b c = refl
and-left_comm false b c = sym (and-false b)

-- the second of two tests may use that the first holds
pub and-when : (a b b' : Bool) → (T a → b ≡ b') → (a && b) ≡ (a && b')
and-when true b b' f = f tt
and-when false b b' f = refl

-- ---- one slot

module _ (s : List ℕ) (B : (i : ℕ) → get_or s i 0 < 256) (at : ℕ) (fit : at + 8 ≤ length s) where
  -- a record's fields, in the room
  pub tag_at : get_or (part at 8 s) 0 0 ≡ get_or s at 0
  tag_at = get_d_part at 8 s 0 0 (lit≤ tt) ∙ ap (λ (i : ℕ). get_or s i 0) (add-zero at)

  pub count_at : get_or (part at 8 s) 1 0 ≡ get_or s (at + 1) 0
  count_at = get_d_part at 8 s 1 0 (lit≤ tt)

  pub disp_at_lem : part 2 2 (part at 8 s) ≡ part (at + 2) 2 s
  disp_at_lem = part-part at 8 2 2 s (lit≤ tt)

  pub size_at_lem : part 4 3 (part at 8 s) ≡ part (at + 4) 3 s
  size_at_lem = part-part at 8 4 3 s (lit≤ tt)

  -- the record of a granted slot
  pub granted-starts : (k : ℕ) (x : List ℕ) → starts (drop at s) (k ∷ get_or (part at 8 s) 1 0 ∷ (low 2 (number (part 2 2 (part at 8 s))) ++ x))
      ≡ (eqb (get_or s at 0) k && starts (drop (at + 4) s) x)
  granted-starts k x =
      let e : at + 2 + 2 ≡ at + 4 = omega arith in
      rw (count_at, disp_at_lem)
      (starts_two s at k (get_or s (at + 1) 0) (low 2 (number (part (at + 2) 2 s)) ++ x) (omega arith)
      ∙ ap₂ (λ (a b : Bool). eqb (get_or s at 0) k && (a && b)) (self (get_or s (at + 1) 0))
      (starts-read s B (at + 2) 2 x (omega arith) ∙ ap (λ (p : ℕ). starts (drop p s) x) e))

  -- the record of a live slot says itself, but for the byte after the size
  pub live_form : starts (drop at s) (slot_record (view_slot false false (part at 8 s))) ≡ eqb (get_or s (at + 7) 0) 0
  unfolding view_slot slot_record
  live_form =
      let n = number (part (at + 4) 3 s) in
      let e : at + 4 + 3 ≡ at + 7 = omega arith in
      rw (size_at_lem)
      (granted-starts (get_or (part at 8 s) 0 0) (low 3 n ++ (0 ∷ []))
      ∙ rw (tag_at, self (get_or s at 0), starts-read s B (at + 4) 3 (0 ∷ []) (omega arith), e, drop-cons s (at + 7) 0 (omega arith))
      (and-true (eqb (get_or s (at + 7) 0) 0)))

  module _ (most least : ℕ) where
    pub fresh_law : get_or s at 0 ≡ 0 → slot_checked most least true false (drop at s) ≡ same (part at 8 s) (zeros 8)
    unfolding slot_checked view_slot slot_record slot_fits choose
    fresh_law e = rw (tag_at, e) (and-true (starts (drop at s) (zeros 8)) ∙ sym (starts-zeros at 8 s))

    pub ready_law : (get_or s at 0 ≡ 0 → ⊥) → slot_checked most least true false (drop at s) ≡ slot_checked most 0 false true (drop at s)
    unfolding slot_checked view_slot slot_record slot_fits choose
    ready_law n = rw (tag_at, ne_eqb (get_or s at 0) 0 n)

    pub idle_law : slot_checked most least false true (drop at s)
        ≡ (eqb (get_or s at 0) 1 && same (part (at + 4) 4 s) (zeros 4) && leb (16 * number (part (at + 2) 2 s)) most)
    unfolding slot_checked view_slot slot_record slot_fits
    idle_law =
        ap₂ (λ (a : Bool) (d : List ℕ). a && leb (16 * number d) most)
        (granted-starts 1 (zeros 4) ∙ ap (λ (b : Bool). eqb (get_or s at 0) 1 && b) (sym (starts-zeros (at + 4) 4 s))) disp_at_lem

    pub live_law : slot_checked most least false false (drop at s)
        ≡ (eqb (get_or s (at + 7) 0) 0
        && (eqb (get_or s at 0) 1 && leb (16 * number (part (at + 2) 2 s) + number (part (at + 4) 3 s)) most
        && ltb least (number (part (at + 4) 3 s) + 4) && ltb (number (part (at + 4) 3 s)) size_limit))
    unfolding slot_checked view_slot slot_fits
    live_law = ap (λ b. b && slot_fits most least (view_slot false false (part at 8 s))) live_form ∙ rw (tag_at, disp_at_lem, size_at_lem)

-- ---- the slots of a group

-- a slot's bits are those that it was viewed by, the ready one first
view_ready : (r w : Bool) (t : List ℕ) → is_ready (view_slot r w t) ≡ r
unfolding view_slot
view_ready true w t = choose_case (λ x. is_ready x ≡ true) (eqb (get_or t 0 0) 0) Fresh (Idle true (get_or t 1 0) (number (part 2 2 t))) (λ e. refl) (λ e. refl)
view_ready false true t = refl
view_ready false false t = refl

view_waiting : (r w : Bool) (t : List ℕ) → is_waiting (view_slot r w t) ≡ (not r && w)
unfolding view_slot
view_waiting true w t = choose_case (λ x. is_waiting x ≡ false) (eqb (get_or t 0 0) 0) Fresh (Idle true (get_or t 1 0) (number (part 2 2 t))) (λ e. refl) (λ e. refl)
view_waiting false true t = refl
view_waiting false false t = refl

-- a mask whose lowest bit is b, against a number whose lowest bit is b
lowest-right : (b : Bool) (m r : ℕ) → eqb (r % 2) 1 ≡ b → eqb (bit b + 2 * m) r ≡ eqb m (r / 2)
lowest-right true m r e =
    let o = eqb-true (r % 2) 1 e in
    same_test (eqb (1 + 2 * m) r) (eqb m (r / 2)) (λ t. eq→eqb m (r / 2) (omega (arith, eqb→eq (1 + 2 * m) r t)))
    (λ t. eq→eqb (1 + 2 * m) r (omega (arith, eqb→eq m (r / 2) t)))
lowest-right false m r e =
    let o = eqb-false (r % 2) 1 e in
    same_test (eqb (0 + 2 * m) r) (eqb m (r / 2)) (λ t. eq→eqb m (r / 2) (omega (arith, eqb→eq (0 + 2 * m) r t)))
    (λ t. eq→eqb (0 + 2 * m) r (omega (arith, eqb→eq m (r / 2) t)))

-- the same of the waiting mask, which has no bit where the ready mask has one
lowest_apart : (a b : Bool) (m w : ℕ) → eqb (w % 2) 1 ≡ b → eqb (bit (not a && b) + 2 * m) w ≡ (not (a && b) && eqb m (w / 2))
lowest_apart true true m w e = let o = eqb-true (w % 2) 1 e in ne_eqb (0 + 2 * m) w (λ q. omega arith)
lowest_apart true false m w e = lowest-right false m w e
lowest_apart false b m w e = lowest-right b m w e

-- the masks and the records of n slots are the one form of what they say
abbrev formed : (n r w : ℕ) → List ℕ → Bool
formed n r w t =
    let ss = view_slots n r w t in
    eqb (mask (map is_ready ss)) r && eqb (mask (map is_waiting ss)) w && starts t (join slot_record ss)

form_order : (r a w e es : Bool) → (r && (a && w) && (e && es)) ≡ (a && e && (r && w && es))
form_order r a w e es = simp (and_assoc, and-left_comm)

fits_order : (a e m f fs : Bool) → (a && e && m && (f && fs)) ≡ (a && e && f && (m && fs))
fits_order a e m f fs = simp (and_assoc, and-left_comm)

exact_order : (a e m f fs g gs : Bool) → (a && e && m && (f && fs) && (g && gs)) ≡ (a && e && (f && g) && (m && fs && gs))
exact_order a e m f fs g gs = simp (and_assoc, and-left_comm)

-- a slot's record in a group of class c, where the slot begins at b: the bits are not both set, the record is the one form of what it
-- says, and the slot is sound and on its boundary
unfoldable pub slot_exactly : (c b : ℕ) → Bool → Bool → List ℕ → Bool
slot_exactly c b r w t = let x = view_slot r w (take 8 t) in not (r && w) && starts t (slot_record x) && (slot_sound c x && aligned_slot b x)

-- the first of n slots, and the others
module _ (n r w : ℕ) (t : List ℕ) where
  form_step : (let x = view_slot (eqb (r % 2) 1) (eqb (w % 2) 1) (take 8 t) in
      formed (suc n) r w t ≡ (not (eqb (r % 2) 1 && eqb (w % 2) 1) && starts t (slot_record x) && formed n (r / 2) (w / 2) (drop 8 t)))
  unfolding view_slots
  form_step =
      let x = view_slot (eqb (r % 2) 1) (eqb (w % 2) 1) (take 8 t) in
      let xs = view_slots n (r / 2) (w / 2) (drop 8 t) in
      rw (
        view_ready (eqb (r % 2) 1) (eqb (w % 2) 1) (take 8 t),
        view_waiting (eqb (r % 2) 1) (eqb (w % 2) 1) (take 8 t),
        lowest-right (eqb (r % 2) 1) (mask (map is_ready xs)) r refl,
        lowest_apart (eqb (r % 2) 1) (eqb (w % 2) 1) (mask (map is_waiting xs)) w refl,
        starts_then 8 t (slot_record x) (join slot_record xs) (slot_length x),
      )
      (form_order (eqb (mask (map is_ready xs)) (r / 2)) (not (eqb (r % 2) 1 && eqb (w % 2) 1)) (eqb (mask (map is_waiting xs)) (w / 2))
      (starts t (slot_record x)) (starts (drop 8 t) (join slot_record xs)))

  slots-step : (most least : ℕ) → slots_checked most least (suc n) r w t
      ≡ (slot_checked most least (eqb (r % 2) 1) (eqb (w % 2) 1) t && slots_checked most least n (r / 2) (w / 2) (drop 8 t))
  unfolding slots_checked slot_checked view_slots
  slots-step most least =
      let x = view_slot (eqb (r % 2) 1) (eqb (w % 2) 1) (take 8 t) in
      let xs = view_slots n (r / 2) (w / 2) (drop 8 t) in
      ap (λ m. m && (slot_fits most least x && every (slot_fits most least) xs)) form_step
      ∙ fits_order (not (eqb (r % 2) 1 && eqb (w % 2) 1)) (starts t (slot_record x)) (formed n (r / 2) (w / 2) (drop 8 t))
      (slot_fits most least x) (every (slot_fits most least) xs)

  exact_step : (c b : ℕ) → slots_exactly c b (suc n) r w t
      ≡ (slot_exactly c b (eqb (r % 2) 1) (eqb (w % 2) 1) t && slots_exactly c (b + slot_bytes c) n (r / 2) (w / 2) (drop 8 t))
  unfolding slots_exactly slot_exactly view_slots
  exact_step c b =
      let x = view_slot (eqb (r % 2) 1) (eqb (w % 2) 1) (take 8 t) in
      let xs = view_slots n (r / 2) (w / 2) (drop 8 t) in
      ap (λ m. m && (slot_sound c x && every (slot_sound c) xs) && (aligned_slot b x && slots_aligned c (b + slot_bytes c) xs)) form_step
      ∙ exact_order (not (eqb (r % 2) 1 && eqb (w % 2) 1)) (starts t (slot_record x)) (formed n (r / 2) (w / 2) (drop 8 t))
      (slot_sound c x) (every (slot_sound c) xs) (aligned_slot b x) (slots_aligned c (b + slot_bytes c) xs)

pub slots_end : (most least k r w : ℕ) (t : List ℕ) → k ≡ 0 → slots_checked most least k r w t ≡ (eqb r 0 && eqb w 0)
unfolding slots_checked view_slots
slots_end most least k r w t e = rw (e, eqb_sym 0 r, eqb_sym 0 w) (and-true (eqb r 0 && eqb w 0 && true) ∙ and-true (eqb r 0 && eqb w 0))

pub exact_end : (c b k r w : ℕ) (t : List ℕ) → k ≡ 0 → slots_exactly c b k r w t ≡ (eqb r 0 && eqb w 0)
unfolding slots_exactly view_slots
exact_end c b k r w t e = rw (e, eqb_sym 0 r, eqb_sym 0 w) (simp and-true)

pub slots_turn : (most least n i r w : ℕ) (t : List ℕ) → i < n
    → slots_checked most least (n - i) r w t
    ≡ (slot_checked most least (eqb (r % 2) 1) (eqb (w % 2) 1) t && slots_checked most least (n - (i + 1)) (r / 2) (w / 2) (drop 8 t))
slots_turn most least n i r w t h =
    let e : n - i ≡ suc (n - (i + 1)) = omega arith in
    ap (λ (k : ℕ). slots_checked most least k r w t) e ∙ slots-step (n - (i + 1)) r w t most least

pub exact_turn : (c b n i r w : ℕ) (t : List ℕ) → i < n
    → slots_exactly c (b + i * slot_bytes c) (n - i) r w t
    ≡ (slot_exactly c (b + i * slot_bytes c) (eqb (r % 2) 1) (eqb (w % 2) 1) t
    && slots_exactly c (b + (i + 1) * slot_bytes c) (n - (i + 1)) (r / 2) (w / 2) (drop 8 t))
exact_turn c b n i r w t h =
    let e : n - i ≡ suc (n - (i + 1)) = omega arith in
    let f : b + i * slot_bytes c + slot_bytes c ≡ b + (i + 1) * slot_bytes c = rw (add-one i) (omega (arith, suc-mul i (slot_bytes c))) in
    ap (λ (k : ℕ). slots_exactly c (b + i * slot_bytes c) k r w t) e ∙ exact_step (n - (i + 1)) r w t c (b + i * slot_bytes c) ∙ rw f

-- ---- the rule of a slot, by two numbers of its class

-- whether a size that can be asked for is of class c or of the one below
near : (c e : ℕ) → c < 48 → e < size_limit → own_class c e ≡ (leb e (slot_bytes c - 4) && ltb (below2 c) (e + 4))
near c e h l = go (leb e (slot_bytes c - 4)) refl
  where
    go : (b : Bool) → leb e (slot_bytes c - 4) ≡ b → own_class c e ≡ (b && ltb (below2 c) (e + 4))
    go true q = near_test e c h (omega (arith, leb-true e (slot_bytes c - 4) q, bytes_least c h))
    go false q =
        let p : c < class_of e = class-past e (class_facts e l) c h (omega (arith, leb-false e (slot_bytes c - 4) q)) in
        rw (ne_eqb c (class_of e) (λ z. omega arith), ne_eqb c (suc (class_of e)) (λ z. omega arith))

live_order : (a k l o n z : Bool) → (T l → o ≡ n) → (a && k && l && o && z) ≡ (k && a && l && n && z)
live_order a k true o n z f = rw (f tt) (simp (and_assoc, and-left_comm))
live_order a k false o n z f = simp (and_assoc, and-false)

-- a live slot that begins at b, with the alignment k, the displacement d and the size n
abbrev pub live_rule : (most least b k d n : ℕ) → Bool
live_rule most least b k d n =
    let e = enlarged k n in
    (leb 1 k && leb k 9) && leb (16 * d + n) most && ltb e size_limit && (leb e most && ltb least (e + 4)) && eqb ((b + 16 * d) % align_of k) 0

-- it is sound and on its boundary by that rule
pub live_rule_lem : (c b : ℕ) → c < 48 → (j k d n : ℕ) → j < 256
    → (let x = Live (record { count = j; disp = d; size = n; align = k }) in
    (slot_sound c x && aligned_slot b x) ≡ live_rule (slot_bytes c - 4) (below2 c) b k d n)
unfolding slot_sound
live_rule_lem c b h j k d n f =
    let e = enlarged k n in
    rw (lt-ltb j 256 f)
    (live_order (leb (16 * d + n) (slot_bytes c - 4)) (leb 1 k && leb k 9) (ltb e size_limit) (own_class c e)
    (leb e (slot_bytes c - 4) && ltb (below2 c) (e + 4)) (eqb ((b + 16 * d) % align_of k) 0) (λ t. near c e h (ltb→lt e size_limit t)))

-- a slot that is not live has no boundary
idle_fits : (c b : ℕ) (x : Slot) → is_live x ≡ false → count x < 256 → (slot_sound c x && aligned_slot b x) ≡ slot_fits (slot_bytes c - 4) (below2 c) x
unfolding slot_sound slot_fits
idle_fits c b Fresh l f = refl
idle_fits c b (Idle r k d) l f = rw (lt-ltb k 256 f) (and-true (leb (16 * d) (slot_bytes c - 4)))
idle_fits c b (Live a) l f = absurd (true≢false l)

-- an ordinary block in a slot that begins on a unit is on its boundary
ordinary_rule : (most least b d n : ℕ) → b % 16 ≡ 0 → 16 * d + n ≤ most → least < n + 4 → n < size_limit → T (live_rule most least b 1 d n)
unfolding align_of
ordinary_rule most least b d n e f l s =
    let z : (b + 16 * d) % 16 ≡ 0 = omega arith in
    rw (le-leb (16 * d + n) most f, lt-ltb n size_limit s, le-leb n most (omega arith), lt-ltb least (n + 4) l, z) tt

-- a slot whose block is ordinary, if it has one: the quick rule is every rule
fits_exact : (c b : ℕ) → c < 48 → b % 16 ≡ 0 → (x : Slot) → count x < 256 → T (slot_fits (slot_bytes c - 4) (below2 c) x)
    → T (slot_sound c x && aligned_slot b x)
unfolding slot_fits
fits_exact c b h e Fresh f t = subst T (sym (idle_fits c b Fresh refl f)) t
fits_exact c b h e (Idle r k d) f t = subst T (sym (idle_fits c b (Idle r k d) refl f)) t
fits_exact c b h e (Live a) f t =
    let o : 1 ≡ a.align = sym (eqb→eq a.align 1 (search (and_left, and_right))) in
    let m = leb→le (16 * a.disp + a.size) (slot_bytes c - 4) (search (and_left, and_right)) in
    let l = ltb→lt (below2 c) (a.size + 4) (search (and_left, and_right)) in
    subst T (sym (live_rule_lem c b h a.count a.align a.disp a.size f))
    (subst (λ k. T (live_rule (slot_bytes c - 4) (below2 c) b k a.disp a.size)) o
    (ordinary_rule (slot_bytes c - 4) (below2 c) b a.disp a.size e m l (ltb→lt a.size size_limit (search (and_left, and_right)))))

view-count : (r w : Bool) (t : List ℕ) → get_or t 1 0 < 256 → count (view_slot r w t) < 256
unfolding view_slot
view-count true w t h =
    choose_case (λ x. count x < 256) (eqb (get_or t 0 0) 0) Fresh (Idle true (get_or t 1 0) (number (part 2 2 t))) (λ e. lit≤ tt) (λ e. h)
view-count false true t h = h
view-count false false t h = h

-- a slot that is in one of the two sets is not live
view-live : (r w : Bool) (t : List ℕ) → (r || w) ≡ true → is_live (view_slot r w t) ≡ false
unfolding view_slot
view-live true w t e = choose_case (λ x. is_live x ≡ false) (eqb (get_or t 0 0) 0) Fresh (Idle true (get_or t 1 0) (number (part 2 2 t))) (λ e. refl) (λ e. refl)
view-live false true t e = refl
view-live false false t e = absurd (true≢false (sym e))

-- the use count in a record is one byte
record-count : (t : List ℕ) → ((i : ℕ) → get_or t i 0 < 256) → get_or (take 8 t) 1 0 < 256
record-count t B = rw (get_or-take 8 t 1 0 (lit≤ tt)) (B 1)

-- a slot that is ready or waiting: the quick test is every rule
pub idle_exact : (c b : ℕ) (r w : Bool) (t : List ℕ) → ((i : ℕ) → get_or t i 0 < 256) → (r || w) ≡ true
    → slot_exactly c b r w t ≡ slot_checked (slot_bytes c - 4) (below2 c) r w t
unfolding slot_exactly slot_checked
idle_exact c b r w t B e =
    let x = view_slot r w (take 8 t) in
    ap (λ f. not (r && w) && starts t (slot_record x) && f) (idle_fits c b x (view-live r w (take 8 t) e) (view-count r w (take 8 t) (record-count t B)))

-- a slot that passes the quick test passes every rule, where it begins on a unit
quick_slot : (c b : ℕ) → c < 48 → b % 16 ≡ 0 → (r w : Bool) (t : List ℕ) → ((i : ℕ) → get_or t i 0 < 256)
    → T (slot_checked (slot_bytes c - 4) (below2 c) r w t) → T (slot_exactly c b r w t)
unfolding slot_exactly slot_checked
quick_slot c b h e r w t B u =
    let x = view_slot r w (take 8 t) in
    let a = not (r && w) && starts t (slot_record x) in
    let f = slot_fits (slot_bytes c - 4) (below2 c) x in
    and_both a (slot_sound c x && aligned_slot b x) (and_left a f u)
    (fits_exact c b h e x (view-count r w (take 8 t) (record-count t B)) (and_right a f u))

-- and so do slots of which the first begins on a unit
pub quick_exact : (c : ℕ) → c < 48 → (n b r w : ℕ) (t : List ℕ) → ((i : ℕ) → get_or t i 0 < 256) → b % 16 ≡ 0
    → T (slots_checked (slot_bytes c - 4) (below2 c) n r w t) → T (slots_exactly c b n r w t)
quick_exact c h zero b r w t B e u = subst T (slots_end (slot_bytes c - 4) (below2 c) 0 r w t refl ∙ sym (exact_end c b 0 r w t refl)) u
quick_exact c h (suc n) b r w t B e u =
    let x = eqb (r % 2) 1 in
    let y = eqb (w % 2) 1 in
    let f = slot_checked (slot_bytes c - 4) (below2 c) x y t in
    let fs = slots_checked (slot_bytes c - 4) (below2 c) n (r / 2) (w / 2) (drop 8 t) in
    let v = subst T (slots-step n r w t (slot_bytes c - 4) (below2 c)) u in
    subst T (sym (exact_step n r w t c b))
    (and_both (slot_exactly c b x y t) (slots_exactly c (b + slot_bytes c) n (r / 2) (w / 2) (drop 8 t))
    (quick_slot c b h e x y t B (and_left f fs v))
    (quick_exact c h n (b + slot_bytes c) (r / 2) (w / 2) (drop 8 t) (λ i. rw (get_or-drop 8 t i 0) (B (8 + i))) (omega (arith, bytes-units c))
    (and_right f fs v)))
