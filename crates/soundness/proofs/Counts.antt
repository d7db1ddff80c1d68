-- Laws of what is counted: a group's masks and records say the totals of its slots, and the record must have those of the rows.
use Rattle.mem.proofs.Prelude.{◌∙◌, ◌≡◌, sym, ap, ap₂, refl, subst, true, false, List, [], ◌∷◌, ◌++◌, append_assoc, map, Some, None}
use Rattle.mem.proofs.Prelude.{ℕ, ◌+◌, ◌*◌, ◌-◌, arith, T, eqb→eq, length, drop, drop_at, drop-drop, ones}
use Rattle.mem.specs.Lists.{every, sum, join}
use Rattle.mem.specs.Bytes.{zeros, number, mask, part, bit}
use Rattle.mem.proofs.Tests.{and_left, and_right, true-T}
use Rattle.mem.proofs.Laws.{number-low}
use Rattle.mem.proofs.Starts.{starts_split}
use Rattle.classes.specs.Classes.{slots_of}
use Rattle.model.specs.declared.Slot.{Slot}
use Rattle.model.specs.declared.Slot.TheVariants.{Fresh, Idle, Live}
use Rattle.model.specs.declared.Totals.{Totals}
use Rattle.model.specs.State.{is_ready, is_waiting, is_live, size, slot_sound}
use Rattle.model.specs.Plans.{totals}
use Rattle.model.specs.Tables.{slot_record, sizes_in, view_group, view, sound}
use Rattle.model.specs.Calls.{KeptBytes, same_totals, sound_kept}
use Rattle.model.proofs.Tables.{slot_length, slots_length, size_small}
use Rattle.model.proofs.Counts.{mask-ones, three_sets}
use Rattle.rows.specs.Counts.{count_if, group_totals}
use Rattle.rows.proofs.Counts.{counted_if, not-counted}
use Rattle.soundness.specs.Checks.{members_checked}
use Rattle.soundness.specs.Counts.{masks_totals}
use Rattle.soundness.proofs.Groups.{group-length}

-- ---- the slots of a group

size-read : (c : ℕ) (x : Slot) (rest : List ℕ) → T (slot_sound c x) → number (part 4 3 (slot_record x ++ rest)) ≡ size x
unfolding slot_record zeros
size-read c Fresh rest t = refl
size-read c (Idle r k d) rest t = refl
size-read c (Live a) rest t = number-low 3 a.size (omega (arith, size_small c (Live a) t))

sizes-read : (c : ℕ) (ss : List Slot) (rest : List ℕ) → T (every (slot_sound c) ss) → sizes_in (length ss) (join slot_record ss ++ rest) ≡ sum size ss
unfolding sizes_in
sizes-read c [] rest t = refl
sizes-read c (x ∷ ss) rest t =
    rw (append_assoc (slot_record x) (join slot_record ss) rest, drop_at (slot_record x) (join slot_record ss ++ rest) 8 (slot_length x))
    (ap₂ (λ a b. a + b) (size-read c x (join slot_record ss ++ rest) (and_left (slot_sound c x) (every (slot_sound c) ss) t))
    (sizes-read c ss rest (and_right (slot_sound c x) (every (slot_sound c) ss) t)))

-- the masks and the records of slots that are sound
module _ (c b : ℕ) (t : List ℕ) (h : T (members_checked c b t)) where
  ready_ones : ones (number (part 8 4 t)) ≡ sum (λ x. bit (is_ready x)) (view_group c t)
  unfolding members_checked
  ready_ones =
      let ss = view_group c t in
      ap ones (sym (eqb→eq (mask (map is_ready ss)) (number (part 8 4 t)) (search (and_left, and_right)))) ∙ mask-ones is_ready ss

  waiting_ones : ones (number (part 12 4 t)) ≡ sum (λ x. bit (is_waiting x)) (view_group c t)
  unfolding members_checked
  waiting_ones =
      let ss = view_group c t in
      ap ones (sym (eqb→eq (mask (map is_waiting ss)) (number (part 12 4 t)) (search (and_left, and_right)))) ∙ mask-ones is_waiting ss

  sizes-sum : sizes_in (slots_of c) (drop 16 t) ≡ sum size (view_group c t)
  unfolding members_checked
  sizes-sum =
      let ss = view_group c t in
      let J = join slot_record ss in
      let rest = drop (8 * length ss) (drop 16 t) in
      ap (sizes_in (slots_of c)) (starts_split (drop 16 t) J (8 * length ss) (slots_length ss) (search (and_left, and_right)))
      ∙ subst (λ k. sizes_in k (J ++ rest) ≡ sum size ss) (group-length c t) (sizes-read c ss rest (search (and_left, and_right)))

  masks_totals_lem : (k : ℕ) → masks_totals k (slots_of c) (number (part 8 4 t)) (number (part 12 4 t)) (sizes_in (slots_of c) (drop 16 t))
      ≡ group_totals k (view_group c t)
  masks_totals_lem k =
      let e : slots_of c - (ones (number (part 8 4 t)) + ones (number (part 12 4 t))) ≡ sum (λ x. bit (is_live x)) (view_group c t) =
      omega (arith, ready_ones, waiting_ones, three_sets (view_group c t), group-length c t) in
      rw (e, sizes-sum, ready_ones, waiting_ones)

-- over what the calls give
module _ (s : List ℕ) (at c b n r w : ℕ) (h : members_checked c b (drop at s) ≡ true) (en : n ≡ slots_of c)
    (er : r ≡ number (part (at + 8) 4 s)) (ew : w ≡ number (part (at + 12) 4 s)) where
  pub members_totals : (m k : ℕ) → m ≡ sizes_in n (drop (at + 16) s) → masks_totals k n r w m ≡ group_totals k (view_group c (drop at s))
  members_totals m k em =
      rw (em, en, er, ew, ← (drop-drop 8 at s), ← (drop-drop 12 at s), ← (drop-drop 16 at s))
      (masks_totals_lem c b (drop at s) (true-T (members_checked c b (drop at s)) h) k)

-- ---- the room and the record

module _ (row len : ℕ) (t : KeptBytes) where
  pub kept_refused : count_if (sound row len t.tables) (totals row (view row t.tables)) ≡ None → false ≡ sound_kept row len t
  kept_refused q = rw (not-counted (sound row len t.tables) (totals row (view row t.tables)) q)

  pub kept_counted : (s : Totals) → count_if (sound row len t.tables) (totals row (view row t.tables)) ≡ Some s
      → same_totals t.totals s ≡ sound_kept row len t
  kept_counted s q = let r = counted_if (sound row len t.tables) (totals row (view row t.tables)) s q in rw (r.0, r.1)
