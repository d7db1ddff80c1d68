-- A room is sound exactly if what it says keeps each rule, and it is the one byte form of that.
use Rattle.mem.proofs.Prelude.{◌∙◌, ◌≡◌, sym, ap, refl, subst, true, false, Bool, not, List, [], ◌∷◌, ◌++◌, append_assoc, ◌+◌, ℕ, ◌<◌, ◌≤◌, ◌*◌, ◌-◌, ◌/◌, ◌%◌}
use Rattle.mem.proofs.Prelude.{add-zero, mul-add, arith, T, eqb, leb, ltb, eqb→eq, leb→le, ltb→lt, le→leb, lt→ltb, length, length-append}
use mathlib.Core.Logic.{◌↔◌}
use native.Mathlib.Nat.{mul-zero, mul-one, suc-mul}
use Rattle.mem.specs.Lists.{any, every}
use Rattle.mem.specs.Bytes.{bit, same}
use Rattle.mem.proofs.Tests.{and_left, and_right, and_both, every-right, eq→eqb}
use Rattle.mem.proofs.Laws.{eq→same}
use Rattle.classes.specs.Classes.{slot_bytes, slots_of, rows_of, size_limit, own_class}
use Rattle.classes.specs.Alignments.{align_of, enlarged}
use Rattle.model.specs.declared.Slot.{Slot}
use Rattle.model.specs.declared.Slot.TheVariants.{Fresh, Idle, Live}
use Rattle.model.specs.State.{Span, Pool, Place, free, group, is_ready, is_waiting, is_live, granted, count, disp, size, align, slot_sound, span_sound, well_formed}
use Rattle.model.specs.State.{aligned_slot, slots_aligned, aligned_from, aligned, pool_of, rows, beginning}
use Rattle.model.specs.Tables.{Layout, arena_right, room_bytes, encode_by, view_by, sound_by}
use Rattle.model.specs.Calls.{Form, FormLaws, Outcome, set_up_right_by, call_by}
use Rattle.model.proofs.Fresh.{set_up_lawful, set_up-done}
use Rattle.model.proofs.Rooms.{rows_append}
use Rattle.model.proofs.Tables.{Sound, sound_facts, group-slots, count_small}
use Rattle.model.proofs.Bounds.{here_aligned}
use Rattle.model.proofs.Moves.{live-granted}
use Rattle.model.proofs.Lookup.{placed, Fits, fits, disp_inside}
use Rattle.claims.specs.Demand1.{Near}
use Rattle.claims.specs.Soundness.{ArenasAsSaid, ArenaRules, SetsUpExactly, GroupRules, LiveRules, SlotRules, Rules, SoundByRules}
use Rattle.claims.proofs.Codes.{enlarged-align}
use Rattle.claims.proofs.StaysInPlace.{own_near}
use Rattle.claims.proofs.Demand2.{set_up_accepted}

-- ---- the arena's length

module _ (row n : ℕ) where
  arena_rules : T (arena_right row n) ↔ ArenaRules row n
  unfolding arena_right
  arena_rules = (
    λ t. record {
      units = eqb→eq (row % 16) 0 (search (and_left, and_right));
      least = leb→le row n (search (and_left, and_right));
      most = leb→le n (512 * row) (search (and_left, and_right));
      multiple = eqb→eq (n % row) 0 (search (and_left, and_right));
    },
    λ r.
        let u : T (eqb (row % 16) 0) = eq→eqb (row % 16) 0 r.units in
        let l : T (leb row n) = le→leb row n r.least in
        let m : T (leb n (512 * row)) = le→leb n (512 * row) r.most in
        let w : T (eqb (n % row) 0) = eq→eqb (n % row) 0 r.multiple in
        search and_both,
  )

pub arenas_as_said : ArenasAsSaid
arenas_as_said n = (
  λ t. let r : ArenaRules 512 n = (arena_rules 512 n).0 t in (r.least, r.most, r.multiple),
  λ (l, m, w). (arena_rules 512 n).1 (record { units = refl; least = l; most = m; multiple = w }),
)

-- set up takes a room by its length
pub sets_up_exactly : (row : ℕ) → 0 < row → (F : Form) → FormLaws row F → (bytes : F.Kept → List ℕ)
    → ((n : ℕ) (t : F.Kept) → F.fits n t ≡ eqb (length (bytes t)) (room_bytes (n / row))) → SetsUpExactly row F bytes
unfolding call_by set_up_right_by room_bytes
sets_up_exactly row pos F L bytes fits a t = (
  λ z.
      let h : T (set_up_right_by row F a t) = set_up_accepted row pos F L a t z in (
        (arena_rules row (length a)).0 (set_up_lawful row F a t h),
        eqb→eq (length (bytes t)) (16 + 264 * (length a / row)) (subst T (fits (length a) t) (and_right (arena_right row (length a)) _ h)),
      ),
  λ (r, l).
      let f : T (F.fits (length a) t) = subst T (sym (fits (length a) t)) (eq→eqb (length (bytes t)) (16 + 264 * (length a / row)) l) in
      ap (λ (z : Outcome F.Kept). z.answer.number)
      (set_up-done row F a t (and_both (arena_right row (length a)) _ ((arena_rules row (length a)).1 r) f)),
)

-- ---- one slot

-- what is kept of any slot: its condition is one of three, and never granted it is ready with count 0
one_of_three : (x : Slot) → bit (is_ready x) + (bit (is_waiting x) + bit (is_live x)) ≡ 1
one_of_three Fresh = refl
one_of_three (Idle true k d) = refl
one_of_three (Idle false k d) = refl
one_of_three (Live a) = refl

never_granted : (x : Slot) → T (not (granted x)) → T (is_ready x) × (count x ≡ 0)
never_granted Fresh n = (tt, refl)
never_granted (Idle r k d) n = absurd n
never_granted (Live a) n = absurd n

-- what the test asks of a live slot but its displacement, and back
abbrev Lives : ℕ → Slot → Type 0
Lives c x = (1 ≤ align x) × (align x ≤ 9) × (enlarged (align x) (size x) < 131052) × T (own_class c (enlarged (align x) (size x)))

live_facts : (c : ℕ) (x : Slot) → T (is_live x) → T (slot_sound c x) → Lives c x
unfolding slot_sound size_limit
live_facts c Fresh l t = absurd l
live_facts c (Idle r k d) l t = absurd l
live_facts c (Live a) l t = (
  leb→le 1 a.align (search (and_left, and_right)),
  leb→le a.align 9 (search (and_left, and_right)),
  ltb→lt (enlarged a.align a.size) 131052 (search (and_left, and_right)),
  search (and_left, and_right),
)

facts_sound : (c : ℕ) (x : Slot) → count x < 256 → 16 * disp x + size x ≤ slot_bytes c - 4 → (T (is_live x) → Lives c x) → T (slot_sound c x)
unfolding slot_sound size_limit
facts_sound c Fresh u f l = tt
facts_sound c (Idle r k d) u f l = and_both (ltb k 256) _ (lt→ltb k 256 u) (le→leb (16 * d) (slot_bytes c - 4) (omega arith))
facts_sound c (Live a) u f l =
    let (one, nine, small, own) = l tt in
    let t₁ : T (ltb a.count 256) = lt→ltb a.count 256 u in
    let t₂ : T (leb (16 * a.disp + a.size) (slot_bytes c - 4)) = le→leb (16 * a.disp + a.size) (slot_bytes c - 4) f in
    let t₃ : T (leb 1 a.align) = le→leb 1 a.align one in
    let t₄ : T (leb a.align 9) = le→leb a.align 9 nine in
    let t₅ : T (ltb (enlarged a.align a.size) 131052) = lt→ltb (enlarged a.align a.size) 131052 small in
    search and_both

-- a live slot that begins at b, as a number
pub live-aligned : (b : ℕ) (x : Slot) → T (is_live x) → T (aligned_slot b x) → (b + 16 * disp x) % align_of (align x) ≡ 0
live-aligned b Fresh l t = absurd l
live-aligned b (Idle r k d) l t = absurd l
live-aligned b (Live a) l t = eqb→eq ((b + 16 * a.disp) % align_of a.align) 0 t

live_boundary : (b : ℕ) (x : Slot) → (T (is_live x) → (b + 16 * disp x) % align_of (align x) ≡ 0) → T (aligned_slot b x)
live_boundary b Fresh h = tt
live_boundary b (Idle r k d) h = tt
live_boundary b (Live a) h = eq→eqb ((b + 16 * a.disp) % align_of a.align) 0 (h tt)

-- it fits, whether it is live or not
in_slot : (c : ℕ) (x : Slot) → (T (is_live x) → 16 * disp x + size x ≤ slot_bytes c - 4)
    → (T (granted x) → T (not (is_live x)) → 16 * disp x ≤ slot_bytes c - 4) → 16 * disp x + size x ≤ slot_bytes c - 4
in_slot c Fresh l i = omega arith
in_slot c (Idle r k d) l i = omega (arith, i tt tt)
in_slot c (Live a) l i = l tt

module _ (row : ℕ) (p : Place) where
  abbrev c : ℕ
  c = p.cls

  abbrev x : Slot
  x = p.state

  slot_rules : Fits p → T (aligned_slot (beginning row p) x) → SlotRules row p
  slot_rules f b = record {
    one = one_of_three x;
    uses = count_small c x f.state;
    live = λ l.
        let (one, nine, small, own) = live_facts c x l f.state in
        let e : enlarged (align x) (size x) ≡ size x + (align_of (align x) - 16) = enlarged-align (align x) (size x) one in
        record {
          once = live-granted x l;
          fits = omega (arith, inside);
          code = (one, nine);
          small = subst (λ m. m < 131052) e small;
          near = subst (Near c) e ((own_near c (enlarged (align x) (size x))).0 own);
          boundary = live-aligned (beginning row p) x l b;
        };
    idle = λ _ _. omega (arith, inside);
    never = never_granted x;
  }
    where
      inside : 16 * disp x + size x + 4 ≤ slot_bytes c
      inside = disp_inside c x f.class f.state

  slot_sound_lem : SlotRules row p → T (slot_sound c x)
  slot_sound_lem r =
      facts_sound c x r.uses (in_slot c x (λ l. (r.live l).fits) r.idle)
      (λ l.
      let v : LiveRules row p = r.live l in
      let (one, nine) = v.code in
      let e : enlarged (align x) (size x) ≡ size x + (align_of (align x) - 16) = enlarged-align (align x) (size x) one in
      (one, nine, subst (λ m. m < 131052) (sym e) v.small, (own_near c (enlarged (align x) (size x))).1 (subst (Near c) (sym e) v.near)))

  slot_aligned : SlotRules row p → T (aligned_slot (beginning row p) x)
  slot_aligned r = live_boundary (beginning row p) x (λ l. (r.live l).boundary)

-- ---- of every slot, of every span

-- what each element of a list passes, every one passes
every_split : {A : Type 0} (f : A → Bool) (l : List A) → ((us : List A) (x : A) (vs : List A) → l ≡ us ++ (x ∷ vs) → T (f x)) → T (every f l)
every_split f [] h = tt
every_split f (x ∷ l) h = and_both (f x) (every f l) (h [] x l refl) (every_split f l (λ us y vs e. h (x ∷ us) y vs (ap (λ z. x ∷ z) e)))

module _ (row : ℕ) where
  slots_aligned_lem : (X : Pool) (c : ℕ) (us xs : List Slot) (Y : Pool)
      → ((p : Place) → pool_of p ≡ X ++ (group c (us ++ xs) ∷ Y) → T (aligned_slot (beginning row p) p.state))
      → T (slots_aligned c (row * rows row X + 16 + length us * slot_bytes c) xs)
  slots_aligned_lem X c us [] Y h = tt
  slots_aligned_lem X c us (x ∷ xs) Y h =
      let b : ℕ = row * rows row X + 16 + length us * slot_bytes c in
      let e : row * rows row X + 16 + length (us ++ (x ∷ [])) * slot_bytes c ≡ b + slot_bytes c =
      omega (arith, ap (λ k. k * slot_bytes c) (length-append us (x ∷ [])), suc-mul (length us) (slot_bytes c)) in
      and_both (aligned_slot b x) _ (h (placed X c us x xs Y) refl)
      (subst (λ k. T (slots_aligned c k xs)) e
      (slots_aligned_lem X c (us ++ (x ∷ [])) xs Y (λ p i. h p (i ∙ ap (λ l. X ++ (group c l ∷ Y)) (append_assoc us (x ∷ []) xs)))))

  spans_aligned : (X P : Pool) → ((p : Place) → pool_of p ≡ X ++ P → T (aligned_slot (beginning row p) p.state))
      → T (aligned_from row (row * rows row X) P)
  spans_aligned X [] h = tt
  spans_aligned X (free ∷ P) h =
      let e : row * rows row (X ++ (free ∷ [])) ≡ row * rows row X + row =
      ap (λ k. row * k) (rows_append row X (free ∷ [])) ∙ mul-add row (rows row X) 1 ∙ ap (λ k. row * rows row X + k) (mul-one row) in
      subst (λ k. T (aligned_from row k P)) e (spans_aligned (X ++ (free ∷ [])) P (λ p i. h p (i ∙ append_assoc X (free ∷ []) P)))
  spans_aligned X (group c ss ∷ P) h =
      let e : row * rows row (X ++ (group c ss ∷ [])) ≡ row * rows row X + row * rows_of row c =
      ap (λ k. row * k) (rows_append row X (group c ss ∷ [])) ∙ ap (λ k. row * (rows row X + k)) (add-zero (rows_of row c))
      ∙ mul-add row (rows row X) (rows_of row c) in
      let z : row * rows row X + 16 + 0 * slot_bytes c ≡ row * rows row X + 16 = omega arith in
      and_both (slots_aligned c (row * rows row X + 16) ss) _ (subst (λ k. T (slots_aligned c k ss)) z (slots_aligned_lem X c [] ss P h))
      (subst (λ k. T (aligned_from row k P)) e (spans_aligned (X ++ (group c ss ∷ [])) P (λ p i. h p (i ∙ append_assoc X (group c ss ∷ []) P))))

  all_aligned : (P : Pool) → ((p : Place) → pool_of p ≡ P → T (aligned_slot (beginning row p) p.state)) → T (aligned row P)
  unfolding aligned
  all_aligned P h = subst (λ k. T (aligned_from row k P)) (mul-zero row) (spans_aligned [] P h)

  -- ---- the room

  group_rules : (n : ℕ) (P X : Pool) (c : ℕ) (ss : List Slot) (Y : Pool) → n ≡ row * rows row P → T (well_formed P) → P ≡ X ++ (group c ss ∷ Y)
      → GroupRules row n X c ss
  unfolding span_sound
  group_rules n P X c ss Y l w e =
      let t : T (well_formed (group c ss ∷ Y)) = every-right span_sound X (group c ss ∷ Y) (subst (λ Q. T (well_formed Q)) e w) in
      let g : T (span_sound (group c ss)) = and_left (span_sound (group c ss)) (well_formed Y) t in
      let m : rows row P ≡ rows row X + rows_of row c + rows row Y = omega (arith, ap (rows row) e, rows_append row X (group c ss ∷ Y)) in
      record {
        class = ltb→lt c 48 (search (and_left, and_right));
        slots = group-slots c ss g;
        inside = omega (arith, l ∙ ap (λ k. row * k) m ∙ mul-add row (rows row X + rows_of row c) (rows row Y));
        live = search (and_left, and_right);
      }

  spans_sound : (n : ℕ) (P : Pool) → ((X : Pool) (c : ℕ) (ss : List Slot) (Y : Pool) → P ≡ X ++ (group c ss ∷ Y) → GroupRules row n X c ss)
      → ((p : Place) → pool_of p ≡ P → SlotRules row p) → T (well_formed P)
  unfolding span_sound
  spans_sound n P g s = every_split span_sound P each
    where
      each : (X : Pool) (x : Span) (Y : Pool) → P ≡ X ++ (x ∷ Y) → T (span_sound x)
      each X free Y e = tt
      each X (group c ss) Y e =
          let k : GroupRules row n X c ss = g X c ss Y e in
          let t₁ : T (ltb c 48) = lt→ltb c 48 k.class in
          let t₂ : T (eqb (length ss) (slots_of c)) = eq→eqb (length ss) (slots_of c) k.slots in
          let t₃ : T (any is_live ss) = k.live in
          let t₄ : T (every (slot_sound c) ss) =
          every_split (slot_sound c) ss
          (λ us x vs i. let p : Place = placed X c us x vs Y in slot_sound_lem row p (s p (sym (e ∙ ap (λ l. X ++ (group c l ∷ Y)) i)))) in
          search and_both

pub sound_by_rules : (row : ℕ) (L : Layout) → SoundByRules row L
unfolding sound_by
sound_by_rules row L n t = (there, back)
  where
    there : T (sound_by L row n t) → Rules row L n t
    there h =
        let f : Sound L row n t = sound_facts L row n t h in
        record {
          arena = (arena_rules row n).0 f.lawful;
          recorded = f.long;
          groups = λ X c ss Y e. group_rules row n (view_by L row t) X c ss Y f.long f.formed e;
          slots = λ p e. slot_rules row p (fits p (subst (λ P. T (well_formed P)) (sym e) f.formed))
              (here_aligned row p (subst (λ P. T (aligned row P)) (sym e) f.bounds));
          form = f.form;
        }

    back : Rules row L n t → T (sound_by L row n t)
    back r =
        let P : Pool = view_by L row t in
        let a : T (arena_right row n) = (arena_rules row n).1 r.arena in
        let l : T (eqb n (row * rows row P)) = eq→eqb n (row * rows row P) r.recorded in
        let f : T (same t (encode_by L row P)) = eq→same t (encode_by L row P) r.form in
        let w : T (well_formed P) = spans_sound row n P r.groups r.slots in
        let b : T (aligned row P) = all_aligned row P (λ p e. slot_aligned row p (r.slots p e)) in
        search and_both
