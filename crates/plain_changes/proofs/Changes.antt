-- What the changes of a group are to the pool's state.
use Rattle.mem.proofs.Prelude.{◌∙◌, ◌≡◌, sym, ap, refl, ap₂, subst, true, Bool, false, not, ◌||◌, List, [], ◌∷◌, ◌++◌, map, ◌+◌, ℕ, ◌<◌, ◌≤◌, ◌*◌, suc}
use Rattle.mem.proofs.Prelude.{arith, eq-eqb, ne_eqb, not-false, not-true, T, eqb, length, drop, length-append, Option, Some, None}
use Rattle.std.specs.Prelude.{MatchOption, IsSome}
use Rattle.mem.specs.Lists.{choose, every, any, first}
use Rattle.mem.specs.Bytes.{zeros, put}
use Rattle.mem.proofs.Tests.{every_append, and_both}
use Rattle.classes.specs.Classes.{slot_bytes, slots_of, rows_of}
use Rattle.classes.proofs.Laws.{slots_small}
use Rattle.model.specs.declared.Alloc.{Alloc}
use Rattle.model.specs.declared.Slot.{Slot}
use Rattle.model.specs.declared.Slot.TheVariants.{Idle, Live}
use Rattle.model.specs.State.{Place, is_ready, is_live, align, slot_sound, pool_of, become, slot_number, rows, beginning}
use Rattle.model.specs.Tables.{row_at, row_record_bytes, encode_by}
use Rattle.model.specs.Plain.{plain_group, slots_layout}
use Rattle.model.specs.Plans.{Site, turn_ready, refill, grant_slot, grant_in, vacant, release_at}
use Rattle.model.proofs.Plain.{slots_laws}
use Rattle.model.proofs.Lookup.{Fits}
use Rattle.model.proofs.Counts.{none-live}
use Rattle.model.proofs.Formed.{any_middle, vacant-sound, code_kept}
use Rattle.model.proofs.Reserve as reserve
use Rattle.rows.specs.declared.Block.{Block}
use Rattle.rows.specs.Rows.{block_of, resized, Holds, Offers}
use Rattle.rows.proofs.Spans.{dropped-encode}
use Rattle.rows.proofs.Held.{held_fits, held_first, held_class, held_slot, taken_begins, block_taken}
use Rattle.plain_slots.specs.Slots.{slot_in, stored}
use Rattle.plain_slots.specs.Slots.{live_in}
use Rattle.plain_changes.specs.Changes.{turned}
use Rattle.plain_changes.proofs.Groups.{room_of, read-group, read_slot, write_slot, turned-group}

-- ---- the lowest ready slot

pub some_found : {A : Type 0} (P : ℕ → Type 0) (o : Option ℕ) → MatchOption o A P → (A → ⊥) → IsSome o
some_found P None m n = absurd (n m)
some_found P (Some k) m n = refl

some_ready : (ss : List Slot) → first is_ready ss < length ss → any is_ready ss ≡ true
unfolding choose
some_ready [] h = absurd (omega arith)
some_ready (x ∷ ss) h = go (is_ready x) h (some_ready ss)
  where
    go : (b : Bool) → choose b 0 (suc (first is_ready ss)) < suc (length ss) → (first is_ready ss < length ss → any is_ready ss ≡ true)
        → (b || any is_ready ss) ≡ true
    go true h f = refl
    go false h f = f (omega arith)

none_ready : (ss : List Slot) → length ss ≤ first is_ready ss → any is_ready ss ≡ false
none_ready ss h = go (any is_ready ss) refl
  where
    go : (b : Bool) → any is_ready ss ≡ b → b ≡ false
    go true e = absurd (omega (arith, (reserve.first_ready ss (subst T (sym e) tt)).0))
    go false e = refl

module _ {row i c : ℕ} {t : List ℕ} {g : Site} (o : Offers slots_layout row t i c g) where
  -- the room in which the group has these slots
  abbrev offered : List Slot → List ℕ
  offered ss = room_of row o.pos g.before c g.after o.before ss

  -- the number is one of a group's
  pub ready_inside : (j : ℕ) → j ≡ first is_ready (refill g.slots) → j < slots_of c
  ready_inside j e =
      let h = (reserve.first_ready (refill g.slots) (reserve.refill_ready g.slots o.spare)).0 in
      omega (arith, e, h, reserve.refill-length g.slots, o.slots)

  pub ready_number : (j : ℕ) → j ≡ first is_ready (refill g.slots) → j < 31
  ready_number j e = omega (arith, ready_inside j e, slots_small c)

  read_in : (ss : List Slot) (u : List ℕ) → u ≡ offered ss → length ss ≡ slots_of c → T (every (slot_sound c) ss) → plain_group c (drop (row_at i) u) ≡ ss
  read_in ss u e l s =
      ap₂ (λ k l. plain_group c (drop (row_at k) l)) o.first e ∙ read-group row o.pos g.before c g.after o.before ss l s

  module _ (j n : ℕ) (ej : j ≡ first is_ready (plain_group c (drop (row_at i) t))) (en : n ≡ slots_of c) where
    first_slot : j ≡ first is_ready g.slots
    first_slot = ej ∙ ap (first is_ready) (read_in g.slots t o.bytes o.slots o.sound)

    -- one is ready
    pub ready_now : j < n → (j ≡ first is_ready (refill g.slots)) × (t ≡ offered (refill g.slots))
    unfolding refill choose
    ready_now h =
        let a : any is_ready g.slots ≡ true = some_ready g.slots (omega (arith, first_slot, en, o.slots)) in
        (rw a first_slot, rw a o.bytes)

    -- none is, and all were turned
    pub ready_then : n ≤ j → (u : List ℕ) → u ≡ turned i (slots_of c) 0 t → (k : ℕ) → k ≡ first is_ready (plain_group c (drop (row_at i) u))
        → (k ≡ first is_ready (refill g.slots)) × (u ≡ offered (refill g.slots))
    unfolding refill choose
    ready_then h u eu k ek =
        let a : any is_ready g.slots ≡ false = none_ready g.slots (omega (arith, first_slot, en, o.slots)) in
        let f : refill g.slots ≡ map turn_ready g.slots = rw a in
        let e : u ≡ offered (map turn_ready g.slots) =
        eu ∙ ap₂ (λ m l. turned i m 0 l) (sym o.slots) o.bytes ∙ ap (λ r. turned r (length g.slots) 0 (offered g.slots)) o.first
        ∙ turned-group row o.pos g.before c g.after o.before [] g.slots o.sound in
        let q : plain_group c (drop (row_at i) u) ≡ refill g.slots =
        read_in (refill g.slots) u (e ∙ ap offered (sym f)) (reserve.refill-length g.slots ∙ o.slots) (reserve.refill-sound c g.slots o.sound) in
        (ek ∙ ap (first is_ready) q, e ∙ ap offered (sym f))

  -- ---- the slot is taken

  pub taken_slot : (v n j : ℕ) (x : Slot) (a : Alloc) (t₁ u : List ℕ) → j ≡ first is_ready (refill g.slots) → t₁ ≡ offered (refill g.slots)
      → x ≡ slot_in j (drop (row_at i) t₁) → Live a ≡ grant_slot c v n (row * i + 16 + j * slot_bytes c) x → u ≡ stored (row_at i) j (Live a) t₁
      → (◌≡◌ {A = Block} (record { first = i; class = c; slot = j; alloc = a }) (block_of row (grant_in row c v n g)))
      × (u ≡ encode_by slots_layout row (pool_of (grant_in row c v n g)))
  unfolding grant_in
  taken_slot v n j x a t₁ u ej e₁ ex ea eu =
      let q : Place = grant_in row c v n g in
      let k : reserve.Taken row c v n g q = reserve.grant-taken row c v n g o.spare in
      let fj : j ≡ slot_number q = ej ∙ sym k.number in
      let f₁ : t₁ ≡ offered (q.lower ++ (k.old ∷ q.upper)) = e₁ ∙ ap offered k.slots in
      let s : T (every (slot_sound c) (q.lower ++ (k.old ∷ q.upper))) =
      subst (λ ss. T (every (slot_sound c) ss)) k.slots (reserve.refill-sound c g.slots o.sound) in
      let fx : x ≡ k.old =
      ex ∙ ap₂ (λ m l. slot_in m (drop (row_at i) l)) fj f₁ ∙ ap (λ r. slot_in (slot_number q) (drop (row_at r) (offered (q.lower ++ (k.old ∷ q.upper)))))
      o.first
      ∙ read_slot row o.pos g.before c g.after o.before q.lower k.old q.upper s in
      let fb : row * i + 16 + j * slot_bytes c ≡ beginning row q =
      ap₂ (λ r s. row * r + 16 + s * slot_bytes c) o.first fj ∙ taken_begins row i c v n g in
      let fa : Live a ≡ q.state = ea ∙ ap₂ (grant_slot c v n) fb fx ∙ sym k.state in (
        block_taken row i c v n g j a o.first fj fa,
        eu ∙ ap₂ (λ m l. stored (row_at i) m (Live a) l) fj f₁
            ∙ ap₂ (λ r y. stored (row_at r) (slot_number q) y (offered (q.lower ++ (k.old ∷ q.upper)))) o.first fa
            ∙ write_slot row o.pos g.before c g.after o.before q.lower q.state k.old q.upper,
      )

-- the alignment's code of a block that is granted
pub granted_code : (c v n b : ℕ) (x : Slot) (a : Alloc) → Live a ≡ grant_slot c v n b x → a.align ≡ v
unfolding grant_slot
granted_code c v n b x a e = ap align e

-- ---- a slot is given back, or gets another size

module _ (row : ℕ) (t : List ℕ) (b : Block) (p : Place) (h : Holds slots_layout row t b p) where
  f : Fits p
  f = held_fits row t b p h

  -- the room in which the slot is another
  abbrev with : Slot → List ℕ
  with x = room_of row h.pos p.before p.cls p.after f.before (p.lower ++ (x ∷ p.upper))

  written : (x : Slot) → stored (row_at b.first) b.slot x t ≡ with x
  written x =
      ap₂ (λ r j. stored (row_at r) j x t) (held_first row t b p h) (held_slot row t b p h)
      ∙ ap (stored (row_at (rows row p.before)) (slot_number p) x) h.bytes
      ∙ write_slot row h.pos p.before p.cls p.after f.before p.lower x p.state p.upper

  -- the record of a live block has room for its alignment
  pub held_code : b.alloc.align ≤ 9
  held_code = omega (arith, ap (λ b. b.alloc.align) h.block, (code_kept p.cls p.state h.live f.state).1)

  pub resized_slot : (n : ℕ) (a : Alloc) (u : List ℕ) → Live a ≡ resized p n → u ≡ stored (row_at b.first) b.slot (Live a) t
      → u ≡ encode_by slots_layout row (pool_of (become p (resized p n)))
  resized_slot n a u ea eu = eu ∙ ap (λ x. stored (row_at b.first) b.slot x t) ea ∙ written (resized p n)

  module _ (u : List ℕ) (eu : u ≡ stored (row_at b.first) b.slot (Idle false b.alloc.count b.alloc.disp) t) where
    slots : List Slot
    slots = p.lower ++ (vacant p ∷ p.upper)

    given : u ≡ with (vacant p)
    given =
        eu ∙ ap (λ (b' : Block). stored (row_at b.first) b.slot (Idle false b'.alloc.count b'.alloc.disp) t) h.block ∙ written (vacant p)

    slots_length : length slots ≡ slots_of p.cls
    unfolding slots
    slots_length = omega (arith, f.slots, length-append p.lower (p.state ∷ p.upper), length-append p.lower (vacant p ∷ p.upper))

    slots_sound : T (every (slot_sound p.cls) slots)
    unfolding slots
    slots_sound =
        every_append (slot_sound p.cls) p.lower (vacant p ∷ p.upper) f.others.0
        (and_both (slot_sound p.cls (vacant p)) (every (slot_sound p.cls) p.upper) (vacant-sound p.cls p.state h.live f.state)
        f.others.1)

    module _ (k : ℕ) (ek : k ≡ live_in (plain_group b.class (drop (row_at b.first) u))) where
      none_left : eqb k 0 ≡ not (any is_live (p.lower ++ p.upper))
      unfolding slots
      none_left =
          let e : k ≡ live_in slots =
          ek ∙ ap₂ (λ z r. live_in (plain_group z (drop (row_at r) u))) (held_class row t b p h) (held_first row t b p h)
          ∙ ap (λ l. live_in (plain_group p.cls (drop (row_at (rows row p.before)) l))) given
          ∙ ap live_in (read-group row h.pos p.before p.cls p.after f.before slots slots_length slots_sound) in
          ap (λ k. eqb k 0) e ∙ none-live slots ∙ ap not (any_middle is_live p.lower (vacant p) p.upper)

      -- the group goes
      pub given_last : k ≡ 0 → (r : ℕ) → r ≡ rows_of row b.class → (v : List ℕ) → v ≡ put (row_at b.first) (zeros (row_record_bytes * r)) u
          → (false ≡ any is_live (p.lower ++ p.upper)) × (v ≡ encode_by slots_layout row (release_at row p).pool)
      unfolding release_at choose slots
      given_last z r er v ev =
          let a : any is_live (p.lower ++ p.upper) ≡ false = not-true (any is_live (p.lower ++ p.upper)) (sym none_left ∙ eq-eqb k 0 z) in (
            sym a,
            ev ∙ rw (er, held_class row t b p h, held_first row t b p h, given, a)
                (dropped-encode slots_laws row h.pos p.before p.cls slots p.after f.before (omega (arith, slots_length, slots_small p.cls))),
          )

      -- the group stays
      pub given_back : (k ≡ 0 → ⊥) → (true ≡ any is_live (p.lower ++ p.upper)) × (u ≡ encode_by slots_layout row (release_at row p).pool)
      unfolding release_at choose
      given_back z =
          let a : any is_live (p.lower ++ p.upper) ≡ true = not-false (any is_live (p.lower ++ p.upper)) (sym none_left ∙ ne_eqb k 0 z) in
          (sym a, given ∙ rw a)
