-- The block at an offset of sound tables, as the code finds it: by the holder of the offset's row.
use Rattle.mem.proofs.Prelude.{◌∙◌, ◌≡◌, sym, ap, refl, ap₂, subst, true, Bool, false, List, ◌∷◌, ◌++◌, ◌+◌, ℕ, ◌<◌, ◌≤◌, ◌*◌, ◌-◌, suc, ◌/◌, zero, Some, None}
use Rattle.mem.proofs.Prelude.{◌%◌, mul_comm, le-div_iff_mul-le, arith, le-leb, leb-false, T, leb, ltb, length, drop, get_or}
use native.Mathlib.Nat.{div-lt_iff_lt-mul}
use Rattle.mem.specs.Lists.{choose, join}
use Rattle.mem.proofs.Tests.{and_left, and_right}
use Rattle.classes.specs.Classes.{slots_of, rows_of, slot_bytes}
use Rattle.model.specs.declared.Slot.{Slot}
use Rattle.model.specs.declared.Slot.TheVariants.{Fresh}
use Rattle.model.specs.declared.Holder.{Holder}
use Rattle.model.specs.declared.Holder.TheVariants.{First, Later}
use Rattle.model.specs.State.{Span, Pool, free, group, span_sound, well_formed, rows}
use Rattle.model.specs.Plans.{lookup}
use Rattle.model.specs.Tables.{row_at, masks_layout, span_records, row_record, later_records, view, view_holder, encode, row_record_bytes}
use Rattle.model.proofs.Tables.{masks_laws, group-slots, group_few}
use Rattle.model.proofs.Lookup.{InRows}
use Rattle.rows.specs.Rows.{Lent, looked, reaches, first_of}
use Rattle.rows.proofs.Rooms.{held_class, group-first, facts, row_inside, before-sound, span_sound_lem, span_rows, span_from, span_holder}
use Rattle.rows.proofs.Holders.{holder_read-free, holder_read-first, holder_read_later}
use Rattle.records.specs.Records.{masks_in, slot_in, slots_here}
use Rattle.records.proofs.Laws.{masks-read, slot_read}
use Rattle.rows.specs.declared.Looked.TheVariants.{Absent}
use Rattle.search.specs.Found.{slot_looked, group_looked}
use Rattle.search.proofs.Blocks.{looked-group, looked-free, looked-past, AtRow, at_row}

-- only the slots that a group has are looked at
same-slots : (first c inside : ℕ) (f g : ℕ → Slot) → ((j : ℕ) → j < slots_of c → f j ≡ g j) → group_looked first c inside f ≡ group_looked first c inside g
unfolding group_looked choose
same-slots first c inside f g h = ap (choose (ltb inside 16) Absent) (go (leb (slots_of c) j) refl)
  where
    j : ℕ
    j = (inside - 16) / slot_bytes c

    after : ℕ
    after = (inside - 16) % slot_bytes c

    go : (b : Bool) → leb (slots_of c) j ≡ b → choose b Absent (slot_looked first c j after (f j)) ≡ choose b Absent (slot_looked first c j after (g j))
    go true e = refl
    go false e = ap (slot_looked first c j after) (h j (leb-false (slots_of c) j e))

-- the code's own way to a group: its class is the second byte of its first row, and its slots are read there
group-read : (row c : ℕ) (ss : List Slot) (Y : Pool) (j : ℕ) → T (span_sound (group c ss)) → j < slots_of c
    → (let s = join (span_records row) (group c ss ∷ Y) in slot_in (masks_in s) j s ≡ get_or ss j Fresh)
unfolding span_sound
group-read row c ss Y j t h =
    let e : join (span_records row) (group c ss ∷ Y) ≡ row_record (First c) ss ++ (later_records (rows_of row c - 1) 1 ++ join (span_records row) Y) =
    group-first masks_layout row c ss Y in
    let R : List ℕ = later_records (rows_of row c - 1) 1 ++ join (span_records row) Y in
    rw (e, masks-read c ss R (group_few c ss t)) (slot_read c ss R j (omega (arith, group-slots c ss t)) (search (and_left, and_right)))

module _ (row : ℕ) (t : List ℕ) (o : ℕ) where
  -- the group that has the offset, from its first row f on
  pub record Group (f : ℕ) : Type 0 where
    pub low : row * f ≤ o
    pub room : (f < 512) × (row_at f + row_record_bytes ≤ length t)
    pub cls : ℕ
    pub held : view_holder (drop (row_at f) t) ≡ First cls
    pub class : cls < 48
    pub look : looked row (lookup row (view row t) o) ≡ group_looked f cls (o - row * f) (slots_here (drop (row_at f) t))

  -- what the holder of the offset's row says
  pub record Leads (h : Holder) : Type 0 where
    pub reach : reaches (o / row) h ≡ true
    pub nothing : first_of (o / row) h ≡ None → looked row (lookup row (view row t) o) ≡ Absent
    pub first : (f : ℕ) → first_of (o / row) h ≡ Some f → Group f

module _ {row n : ℕ} {t : List ℕ} (r : Lent masks_layout row n t) (o : ℕ) where
  pub past : n ≤ o → looked row (lookup row (view row t) o) ≡ Absent
  past h = looked-past row r.pos (view row t) o (facts r).formed (omega (arith, (facts r).long))

  row_read : {r : ℕ} {P : Pool} → o / row ≡ r → view row t ≡ P → view_holder (drop (row_at (o / row)) t) ≡ view_holder (drop (row_at r) (encode row P))
  row_read m p = ap₂ (λ r l. view_holder (drop (row_at r) l)) m ((facts r).form ∙ ap (encode row) p)

  module _ (X : Pool) (c : ℕ) (ss : List Slot) (Y : Pool) (p : view row t ≡ X ++ (group c ss ∷ Y)) (i : InRows row r.pos (o / row) X (group c ss)) where
    in_group : Group row t o (rows row X)
    in_group =
        let s : T (span_sound (group c ss)) = span_sound_lem r X (group c ss) Y p in
        let q : drop (row_at (rows row X)) t ≡ join (span_records row) (group c ss ∷ Y) = span_from r X (group c ss) Y p in
        let w : T (well_formed (X ++ (group c ss ∷ Y))) = subst (λ P. T (well_formed P)) p (facts r).formed in
        record {
          low = omega (arith, (le-div_iff_mul-le {k = row} {x = rows row X} {y = o} r.pos).0 i.from, mul_comm row (rows row X));
          room = row_inside r (rows row X) (omega (arith, i.from, i.to, span_rows r X (group c ss) Y p));
          cls = c;
          held = span_holder r X (group c ss) Y p;
          class = held_class (group c ss) s;
          look =
              ap (λ P. looked row (lookup row P o)) p
              ∙ looked-group row r.pos X c ss Y w o i
              ∙ rw q (same-slots (rows row X) c (o - row * rows row X) (λ j. get_or ss j Fresh) _ (λ j l. sym (group-read row c ss Y j s l)));
        }

    to_first : (h : Holder) → reaches (o / row) h ≡ true → first_of (o / row) h ≡ Some (rows row X) → Leads row t o h
    to_first h r q = record {
      reach = r;
      nothing = λ q'. let z : ◌≡◌ {A = ℕ} 0 1 = cc in absurd (omega arith);
      first = λ f q'. let g : rows row X ≡ f = cc in subst (Group row t o) g in_group;
    }

    -- row k of the group
    group_holder : (k : ℕ) → o / row ≡ rows row X + k → Leads row t o (view_holder (drop (row_at (o / row)) t))
    group_holder zero m =
        let b : T (well_formed X) = before-sound r X (group c ss) Y p in
        let f : o / row ≡ rows row X = omega arith in
        rw (row_read m p ∙ holder_read-first masks_laws row r.pos X Y b c ss 0 refl) (to_first (First c) refl (ap Some f))
    group_holder (suc k) m =
        let b : T (well_formed X) = before-sound r X (group c ss) Y p in
        let s : T (span_sound (group c ss)) = span_sound_lem r X (group c ss) Y p in
        let f : o / row - suc k ≡ rows row X = omega arith in
        rw (row_read m p ∙ holder_read_later masks_laws row r.pos X Y b c ss (suc k) (group_few c ss s) (omega arith) (omega (arith, i.to)))
        (to_first (Later (suc k)) (le-leb (suc k) (o / row) (omega arith)) (ap Some f))

  leads_free : (X Y : Pool) → view row t ≡ X ++ (free ∷ Y) → InRows row r.pos (o / row) X free → Leads row t o (view_holder (drop (row_at (o / row)) t))
  leads_free X Y p i =
      let w : T (well_formed (X ++ (free ∷ Y))) = subst (λ P. T (well_formed P)) p (facts r).formed in
      let m : o / row ≡ rows row X + 0 = omega (arith, i.from, i.to) in
      rw (row_read m p ∙ holder_read-free masks_laws row r.pos X Y (before-sound r X free Y p) 0 (omega arith))
      (record {
        reach = refl;
        nothing = λ q. ap (λ P. looked row (lookup row P o)) p ∙ looked-free row r.pos X Y o w i;
        first = λ f q. let z : ◌≡◌ {A = ℕ} 0 1 = cc in absurd (omega arith);
      })

  pub row_of : o < n → o / row < rows row (view row t)
  row_of h = (div-lt_iff_lt-mul r.pos).1 (omega (arith, (facts r).long, mul_comm row (rows row (view row t))))

  pub leads : o < n → Leads row t o (view_holder (drop (row_at (o / row)) t))
  leads h =
      let a : AtRow row r.pos (view row t) (o / row) = at_row row r.pos (view row t) (o / row) (row_of h) in
      go a.before a.span a.after a.split a.inside
    where
      go : (X : Pool) (s : Span) (Y : Pool) → view row t ≡ X ++ (s ∷ Y) → InRows row r.pos (o / row) X s
          → Leads row t o (view_holder (drop (row_at (o / row)) t))
      go X free Y p i = leads_free X Y p i
      go X (group c ss) Y p i = group_holder X c ss Y p i (o / row - rows row X) (omega (arith, i.from))
