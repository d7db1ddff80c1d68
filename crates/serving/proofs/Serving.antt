-- One grant, by the slots of each class that are not live and a map of the free rows: whether it finds a place, and what it leaves.
use Rattle.mem.proofs.Prelude.{◌∙◌, ◌≡◌, sym, ap, refl, subst, true, false, Bool, ◌&&◌, not, Some, None, Option, List, [], ◌∷◌, ◌++◌, map, is_some}
use Rattle.mem.proofs.Prelude.{◌+◌, ℕ, ◌<◌, ◌≤◌, ◌-◌, suc, zero, arith, T, eqb, eq-eqb, ne_eqb, eqb-true, eqb-false, length, get_or, set, drop}
use Rattle.mem.proofs.Prelude.{length-append, length-set, replicate, length-replicate}
use lib.Seq.{get_or-set_same, get_or-set_other}
use Rattle.mem.specs.Lists.{choose, any, starts, sum}
use Rattle.mem.specs.Bytes.{zeros, bit, put}
use Rattle.mem.proofs.Tests.{choose_case, choose-true, choose-false}
use Rattle.mem.proofs.Laws.{join-append, sum-append, put_at, zeros-length}
use Rattle.mem.proofs.Starts.{eqb_sym}
use Rattle.classes.specs.Classes.{class_of, slots_of, rows_of, size_limit}
use Rattle.classes.specs.Alignments.{ordinary}
use Rattle.classes.proofs.Laws.{class_facts, rows_pos}
use Rattle.model.specs.declared.Slot.{Slot}
use Rattle.model.specs.declared.Slot.TheVariants.{Fresh, Idle, Live}
use Rattle.model.specs.State.{Span, Pool, Place, free, group, is_live, is_ready, well_formed, pool_of, rows, beginning}
use Rattle.model.specs.Plans.{Site, slots_in, opens, open_from, run, turn_ready, refill, grant_slot, grant_in, run_from, site_or, site, reserve_in, reserve, fresh_pool}
use Rattle.model.proofs.Rooms.{rows_append}
use Rattle.model.proofs.Reserve.{plain, Open, open_found, New, run_found_lem, ground, Taken, grant-taken, reserve_formed}
use Rattle.serving.specs.Survey.{open_in, open_slots, lowest_run, row_map, map_of, NotesOf, Serves}
use Rattle.serving.proofs.MapRuns.{lowest_inside}

-- ---- the slots that are not live

-- whether a slot counts as open
abbrev spare : Slot → ℕ
spare x = bit (not (is_live x))

spare-none : (ss : List Slot) → any (λ x. not (is_live x)) ss ≡ false → sum spare ss ≡ 0
spare-none [] e = refl
spare-none (Fresh ∷ ss) e = let z : ◌≡◌ {A = ℕ} 0 1 = cc in absurd (omega arith)
spare-none (Idle r k d ∷ ss) e = let z : ◌≡◌ {A = ℕ} 0 1 = cc in absurd (omega arith)
spare-none (Live a ∷ ss) e = omega (arith, spare-none ss e)

spare-some : (ss : List Slot) → any (λ x. not (is_live x)) ss ≡ true → 0 < sum spare ss
spare-some [] e = let z : ◌≡◌ {A = ℕ} 0 1 = cc in absurd (omega arith)
spare-some (Fresh ∷ ss) e = omega arith
spare-some (Idle r k d ∷ ss) e = omega arith
spare-some (Live a ∷ ss) e = omega (arith, spare-some ss e)

-- a refill, and slots that were never granted
spare-turned : (ss : List Slot) → sum spare (map turn_ready ss) ≡ sum spare ss
spare-turned [] = refl
spare-turned (Fresh ∷ ss) = ap (λ n. 1 + n) (spare-turned ss)
spare-turned (Idle r k d ∷ ss) = ap (λ n. 1 + n) (spare-turned ss)
spare-turned (Live a ∷ ss) = ap (λ n. 0 + n) (spare-turned ss)

spare-refill : (ss : List Slot) → sum spare (refill ss) ≡ sum spare ss
unfolding refill
spare-refill ss = choose_case (λ l. sum spare l ≡ sum spare ss) (any is_ready ss) ss (map turn_ready ss) (λ e. refl) (λ e. spare-turned ss)

spare-fresh : (n : ℕ) → sum spare (replicate n Fresh) ≡ n
spare-fresh zero = refl
spare-fresh (suc n) = omega (arith, spare-fresh n)

spare_ready : (x : Slot) → T (is_ready x) → spare x ≡ 1
spare_ready Fresh t = refl
spare_ready (Idle r k d) t = refl
spare_ready (Live a) t = absurd t

spare-granted : (c k n b : ℕ) (x : Slot) → spare (grant_slot c k n b x) ≡ 0
unfolding grant_slot
spare-granted c k n b x = refl

-- a slot that is taken is one less
spare-taken : (row c k n : ℕ) (s : Site) (q : Place) → Taken row c k n s q → sum spare (q.lower ++ (q.state ∷ q.upper)) + 1 ≡ sum spare s.slots
spare-taken row c v n s q k =
    let a : spare q.state ≡ 0 = ap spare k.state ∙ spare-granted c v n (beginning row q) k.old in
    let b : sum spare (refill s.slots) ≡ sum spare (q.lower ++ (k.old ∷ q.upper)) = ap (sum spare) k.slots in
    omega (
      arith,
      a,
      b,
      spare_ready k.old k.ready,
      spare-refill s.slots,
      sum-append spare q.lower (q.state ∷ q.upper),
      sum-append spare q.lower (k.old ∷ q.upper),
    )

-- ---- the open slots of a class

module _ (c : ℕ) where
  pub slots-append : (X Y : Pool) → open_slots c (X ++ Y) ≡ open_slots c X + open_slots c Y
  unfolding open_slots
  slots-append X Y = sum-append (open_in c) X Y

  pub slots-cons : (s : Span) (Y : Pool) → open_slots c (s ∷ Y) ≡ open_in c s + open_slots c Y
  unfolding open_slots
  slots-cons s Y = refl

  pub slots-free : (n : ℕ) → open_slots c (fresh_pool n) ≡ 0
  unfolding open_slots
  slots-free zero = refl
  slots-free (suc n) = omega (arith, slots-free n)

  in_none : (s : Span) → opens c s ≡ false → open_in c s ≡ 0
  unfolding choose opens
  in_none free e = refl
  in_none (group k ss) e = go (eqb k c) e
    where
      go : (b : Bool) → (b && any (λ x. not (is_live x)) ss) ≡ false → choose b (sum spare ss) 0 ≡ 0
      go true e = spare-none ss e
      go false e = refl

  in_some : (s : Span) → opens c s ≡ true → 0 < open_in c s
  unfolding choose opens
  in_some free e = let z : ◌≡◌ {A = ℕ} 0 1 = cc in absurd (omega arith)
  in_some (group k ss) e = go (eqb k c) e
    where
      go : (b : Bool) → (b && any (λ x. not (is_live x)) ss) ≡ true → 0 < choose b (sum spare ss) 0
      go true e = spare-some ss e
      go false e = let z : ◌≡◌ {A = ℕ} 0 1 = cc in absurd (omega arith)

  -- a group that can serve is found exactly if the class has an open slot
  pub open_shut : (X P : Pool) → open_slots c P ≡ 0 → open_from X c P ≡ None
  unfolding choose open_slots
  open_shut X [] e = refl
  open_shut X (s ∷ P) e = go (opens c s) refl (open_shut (X ++ (s ∷ [])) P (omega arith))
    where
      go : (b : Bool) → opens c s ≡ b → open_from (X ++ (s ∷ [])) c P ≡ None
          → choose b (Some (record { before = X; slots = slots_in s; after = P })) (open_from (X ++ (s ∷ [])) c P) ≡ None
      go true h r = absurd (omega (arith, in_some s h))
      go false h r = r

  pub open_there : (X P : Pool) → 0 < open_slots c P → (s : Site) × (open_from X c P ≡ Some s)
  unfolding choose open_slots
  open_there X [] h = absurd (omega arith)
  open_there X (s ∷ P) h = go (opens c s) refl (λ l. open_there (X ++ (s ∷ [])) P l)
    where
      here : Site
      here = record { before = X; slots = slots_in s; after = P }

      go : (b : Bool) → opens c s ≡ b → (0 < open_slots c P → (g : Site) × (open_from (X ++ (s ∷ [])) c P ≡ Some g))
          → (g : Site) × (choose b (Some here) (open_from (X ++ (s ∷ [])) c P) ≡ Some g)
      go true e r = (here, refl)
      go false e r = r (omega (arith, in_none s e))

-- the open slots of class k with a group of class c in between
slots_around : (k : ℕ) (X : Pool) (c : ℕ) (ss : List Slot) (Y : Pool)
    → open_slots k (X ++ (group c ss ∷ Y)) ≡ open_slots k X + (choose (eqb k c) (sum spare ss) 0 + open_slots k Y)
slots_around k X c ss Y =
    slots-append k X (group c ss ∷ Y)
    ∙ ap (λ n. open_slots k X + n) (slots-cons k (group c ss) Y ∙ ap (λ b. choose b (sum spare ss) 0 + open_slots k Y) (eqb_sym c k))

-- and with free rows in between
slots_apart : (k : ℕ) (X : Pool) (n : ℕ) (Y : Pool) → open_slots k (X ++ (fresh_pool n ++ Y)) ≡ open_slots k X + open_slots k Y
slots_apart k X n Y = omega (arith, slots-append k X (fresh_pool n ++ Y), slots-append k (fresh_pool n) Y, slots-free k n)

-- ---- the map of the free rows

module _ (row : ℕ) where
  pub map-append : (X Y : Pool) → map_of row (X ++ Y) ≡ map_of row X ++ map_of row Y
  unfolding map_of
  map-append X Y = join-append (row_map row) X Y

  pub map-group : (c : ℕ) (ss : List Slot) (Y : Pool) → map_of row (group c ss ∷ Y) ≡ zeros (rows_of row c) ++ map_of row Y
  unfolding map_of
  map-group c ss Y = refl

  pub map-free : (n : ℕ) (Y : Pool) → map_of row (fresh_pool n ++ Y) ≡ replicate n 1 ++ map_of row Y
  unfolding map_of
  map-free zero Y = refl
  map-free (suc n) Y = ap (λ l. 1 ∷ l) (map-free n Y)

  map_around : (X : Pool) (c : ℕ) (ss : List Slot) (Y : Pool) → map_of row (X ++ (group c ss ∷ Y)) ≡ map_of row X ++ (zeros (rows_of row c) ++ map_of row Y)
  map_around X c ss Y = map-append X (group c ss ∷ Y) ∙ ap (λ l. map_of row X ++ l) (map-group c ss Y)

  map_apart : (X : Pool) (n : ℕ) (Y : Pool) → map_of row (X ++ (fresh_pool n ++ Y)) ≡ map_of row X ++ (replicate n 1 ++ map_of row Y)
  map_apart X n Y = map-append X (fresh_pool n ++ Y) ∙ ap (λ l. map_of row X ++ l) (map-free n Y)

  pub map-length : (P : Pool) → length (map_of row P) ≡ rows row P
  unfolding map_of
  map-length [] = refl
  map-length (free ∷ P) = omega (arith, map-length P)
  map-length (group c ss ∷ P) = omega (arith, map-length P, length-append (zeros (rows_of row c)) (map_of row P), zeros-length (rows_of row c))

  -- rows that are not free begin no run
  zeros-passed : (k p m : ℕ) (Z : List ℕ) → 1 ≤ k → lowest_run k p (zeros m ++ Z) ≡ lowest_run k (p + m) Z
  unfolding zeros choose
  zeros-passed k p zero Z h = let e : p ≡ p + 0 = omega arith in ap (λ i. lowest_run k i Z) e
  zeros-passed zero p (suc m) Z h = absurd (omega arith)
  zeros-passed (suc k) p (suc m) Z h = let e : suc p + m ≡ p + suc m = omega arith in zeros-passed (suc k) (suc p) m Z h ∙ ap (λ i. lowest_run (suc k) i Z) e

  module _ (pos : 0 < row) where
    -- a map begins with k ones exactly if the pool begins with k free rows
    starts-run : (k : ℕ) (P : Pool) → starts (map_of row P) (replicate k 1) ≡ run k P
    unfolding map_of zeros
    starts-run zero P = refl
    starts-run (suc k) [] = refl
    starts-run (suc k) (free ∷ P) = starts-run k P
    starts-run (suc k) (group c ss ∷ P) = go (rows_of row c) (rows_pos row c pos)
      where
        go : (m : ℕ) → 1 ≤ m → starts (zeros m ++ map_of row P) (replicate (suc k) 1) ≡ false
        go zero h = absurd (omega arith)
        go (suc m) h = refl

  -- a new group's site
  abbrev new : ℕ → Pool → Pool → Site
  new c X Y = record { before = X; slots = replicate (slots_of c) Fresh; after = drop (rows_of row c) Y }

  -- a site by its first row
  abbrev first_row : Option Site → Option ℕ
  first_row None = None
  first_row (Some s) = Some (rows row s.before)

  first_chosen : (b : Bool) (s t : Option Site) → first_row (choose b s t) ≡ choose b (first_row s) (first_row t)
  unfolding choose
  first_chosen true s t = refl
  first_chosen false s t = refl

  module _ (pos : 0 < row) (c : ℕ) where
    -- the lowest run of a pool is that of its map
    run-first : (X Y : Pool) → lowest_run (rows_of row c) (rows row X) (map_of row Y) ≡ first_row (run_from row X c Y)
    unfolding map_of
    run-first X [] = refl
    run-first X (free ∷ Y) =
        let e : suc (rows row X) ≡ rows row (X ++ (free ∷ [])) = omega (arith, rows_append row X (free ∷ [])) in
        ap (λ b. choose b (Some (rows row X)) (lowest_run (rows_of row c) (suc (rows row X)) (map_of row Y))) (starts-run pos (rows_of row c) (free ∷ Y))
        ∙ ap (choose (run (rows_of row c) (free ∷ Y)) (Some (rows row X)))
        (ap (λ i. lowest_run (rows_of row c) i (map_of row Y)) e ∙ run-first (X ++ (free ∷ [])) Y)
        ∙ sym (first_chosen (run (rows_of row c) (free ∷ Y)) (Some (new c X (free ∷ Y))) (run_from row (X ++ (free ∷ [])) c Y))
    run-first X (group g ss ∷ Y) =
        let e : rows row X + rows_of row g ≡ rows row (X ++ (group g ss ∷ [])) = omega (arith, rows_append row X (group g ss ∷ [])) in
        zeros-passed (rows_of row c) (rows row X) (rows_of row g) (map_of row Y) (rows_pos row c pos)
        ∙ ap (λ i. lowest_run (rows_of row c) i (map_of row Y)) e ∙ run-first (X ++ (group g ss ∷ [])) Y
        ∙ sym (ap first_row
        (choose-false (run (rows_of row c) (group g ss ∷ Y)) (Some (new c X (group g ss ∷ Y))) _ (no_run (rows_of row c) (rows_pos row c pos))))
      where
        no_run : (k : ℕ) → 1 ≤ k → run k (group g ss ∷ Y) ≡ false
        no_run zero h = absurd (omega arith)
        no_run (suc k) h = refl

    -- so the two searches find alike
    pub some-run : (P : Pool) (r : ℕ) → lowest_run (rows_of row c) 0 (map_of row P) ≡ Some r
        → (s : Site) × (run_from row [] c P ≡ Some s) × (rows row s.before ≡ r)
    some-run P r e = go (run_from row [] c P) (sym (run-first [] P) ∙ e)
      where
        go : (o : Option Site) → first_row o ≡ Some r → (s : Site) × (o ≡ Some s) × (rows row s.before ≡ r)
        go None e = let z : ◌≡◌ {A = ℕ} 0 1 = cc in absurd (omega arith)
        go (Some s) e = let q : rows row s.before ≡ r = cc in (s, refl, q)

    pub none-run : (P : Pool) → lowest_run (rows_of row c) 0 (map_of row P) ≡ None → run_from row [] c P ≡ None
    none-run P e = go (run_from row [] c P) (sym (run-first [] P) ∙ e)
      where
        go : (o : Option Site) → first_row o ≡ None → o ≡ None
        go None e = refl
        go (Some s) e = let z : ◌≡◌ {A = ℕ} 0 1 = cc in absurd (omega arith)

-- ---- what a grant leaves

one_less : (b : Bool) (m n : ℕ) → m + 1 ≡ n → choose b m 0 + bit b ≡ choose b n 0
unfolding choose
one_less true m n e = e
one_less false m n e = refl

-- the pool that a grant makes at a site
module _ (row c n : ℕ) (s : Site) (t : T (any (λ x. not (is_live x)) s.slots)) where
  slots-taken : (k : ℕ) → open_slots k (pool_of (grant_in row c ordinary n s)) + bit (eqb k c)
      ≡ open_slots k s.before + (choose (eqb k c) (sum spare s.slots) 0 + open_slots k s.after)
  unfolding grant_in
  slots-taken k =
      let q : Place = grant_in row c ordinary n s in
      let ss : List Slot = q.lower ++ (q.state ∷ q.upper) in
      let l : sum spare ss + 1 ≡ sum spare s.slots = spare-taken row c ordinary n s q (grant-taken row c ordinary n s t) in
      omega (arith, slots_around k s.before c ss s.after, one_less (eqb k c) (sum spare ss) (sum spare s.slots) l)

  map-taken : map_of row (pool_of (grant_in row c ordinary n s)) ≡ map_of row s.before ++ (zeros (rows_of row c) ++ map_of row s.after)
  unfolding grant_in
  map-taken =
      let q : Place = grant_in row c ordinary n s in
      map_around row s.before c (q.lower ++ (q.state ∷ q.upper)) s.after

module _ (row : ℕ) (P : Pool) (n c : ℕ) (class : c ≡ class_of n) where
  reserve-site : reserve row P ordinary n ≡ reserve_in row c ordinary n (site row P c)
  unfolding reserve
  reserve-site = ap (λ k. reserve_in row k ordinary n (site row P k)) (sym class)

  -- a slot of a group that is there
  pub record FromOpen (q : Place) : Type 0 where
    pub found : reserve row P ordinary n ≡ Some q
    pub slots : (k : ℕ) → open_slots k (pool_of q) + bit (eqb k c) ≡ open_slots k P
    pub gaps : map_of row (pool_of q) ≡ map_of row P

  pub from_open : 0 < open_slots c P → (q : Place) × FromOpen q
  unfolding site
  from_open h =
      let (s, e) = open_there c [] P h in
      let o : Open P c s = open_found [] P c s e in (
        grant_in row c ordinary n s,
        record {
          found = reserve-site ∙ ap (λ o. reserve_in row c ordinary n (site_or o (run_from row [] c P))) e;
          slots = λ k. slots-taken row c n s o.room k ∙ sym (slots_around k s.before c s.slots s.after) ∙ ap (open_slots k) (sym o.split);
          gaps = map-taken row c n s o.room ∙ sym (map_around row s.before c s.slots s.after) ∙ ap (map_of row) (sym o.split);
        },
      )

  -- the first slot of a new group
  pub record FromNew (r : ℕ) (q : Place) : Type 0 where
    pub found : reserve row P ordinary n ≡ Some q
    pub own : open_slots c (pool_of q) ≡ slots_of c - 1
    pub others : (k : ℕ) → (k ≡ c → ⊥) → open_slots k (pool_of q) ≡ open_slots k P
    pub gaps : map_of row (pool_of q) ≡ put r (zeros (rows_of row c)) (map_of row P)
    pub inside : r + rows_of row c ≤ length (map_of row P)

  module _ (pos : 0 < row) (shut : open_slots c P ≡ 0) where
    site-run : site row P c ≡ run_from row [] c P
    unfolding site
    site-run = ap (λ o. site_or o (run_from row [] c P)) (open_shut c [] P shut)

    pub from_new : T (well_formed P) → (r : ℕ) → lowest_run (rows_of row c) 0 (map_of row P) ≡ Some r → (q : Place) × FromNew r q
    from_new w r e =
        let (s, f, h) = some-run row pos c P r e in
        let m : New row P c s = run_found_lem row [] P c s f in
        let i : site row P c ≡ Some s = site-run ∙ f in
        let t : T (any (λ x. not (is_live x)) s.slots) = (ground row P c s w i).room in
        let l : sum spare s.slots ≡ slots_of c = ap (sum spare) m.slots ∙ spare-fresh (slots_of c) in
        let d : (k : ℕ) → open_slots k P ≡ open_slots k s.before + open_slots k s.after =
        λ k. ap (open_slots k) m.split ∙ slots_apart k s.before (rows_of row c) s.after in
        let b : eqb c c ≡ true = eq-eqb c c refl in (
          grant_in row c ordinary n s,
          record {
            found = reserve-site ∙ ap (reserve_in row c ordinary n) i;
            own = omega (arith, slots-taken row c n s t c, ap bit b, choose-true (eqb c c) (sum spare s.slots) 0 b, l, d c, shut);
            others =
                λ k no.
                let a : eqb k c ≡ false = ne_eqb k c no in
                omega (arith, slots-taken row c n s t k, ap bit a, choose-false (eqb k c) (sum spare s.slots) 0 a, d k);
            gaps =
                map-taken row c n s t
                ∙ sym (ap (put r (zeros (rows_of row c))) (ap (map_of row) m.split ∙ map_apart row s.before (rows_of row c) s.after)
                ∙ put_at r (map_of row s.before) (replicate (rows_of row c) 1) (zeros (rows_of row c)) (map_of row s.after)
                (map-length row s.before ∙ h) (zeros-length (rows_of row c) ∙ sym (length-replicate {A = ℕ} (rows_of row c) 1)));
            inside = lowest_inside (rows_of row c) (map_of row P) r e;
          },
        )

    pub from_none : lowest_run (rows_of row c) 0 (map_of row P) ≡ None → reserve row P ordinary n ≡ None
    from_none e = reserve-site ∙ ap (reserve_in row c ordinary n) (site-run ∙ none-run row pos c P e)

-- ---- what counts and a map tell after a grant

module _ (row : ℕ) (P : Pool) (n c : ℕ) (os m : List ℕ) (t : NotesOf row P os m) (class : c ≡ class_of n) (small : n < size_limit) where
  inside_counts : c < length os
  inside_counts = omega (arith, t.classes, (class_facts n small).inside)

  own_count : get_or os c 0 ≡ open_slots c P
  own_count = t.counts c (omega (arith, (class_facts n small).inside))

  -- a grant after which class c has v open slots, and the others as many as before
  granted : (q : Place) (v : ℕ) (l : List ℕ) → reserve row P ordinary n ≡ Some q → open_slots c (pool_of q) ≡ v
      → ((k : ℕ) → (k ≡ c → ⊥) → open_slots k (pool_of q) ≡ open_slots k P) → l ≡ map_of row (pool_of q) → Serves row P n true (set os c v) l
  granted q v l e own others kept =
      let f = reserve_formed row P ordinary n q t.formed (plain small) e in
      let told : NotesOf row (pool_of q) (set os c v) l =
      record {
        formed = f.formed;
        few = omega (arith, f.long, t.few);
        classes = length-set os c v ∙ t.classes;
        counts = λ k h. count k h (eqb k c) refl;
        rows-free = kept;
      } in
      record {
        found = ap is_some (sym e);
        left = λ p g. let same : q ≡ p = cc in subst (λ p. NotesOf row (pool_of p) (set os c v) l) same told;
      }
    where
      count : (k : ℕ) → k < 48 → (b : Bool) → eqb k c ≡ b → get_or (set os c v) k 0 ≡ open_slots k (pool_of q)
      count k h true g =
          let i : k ≡ c = eqb-true k c g in
          subst (λ k. get_or (set os c v) k 0 ≡ open_slots k (pool_of q)) (sym i) (get_or-set_same os c v 0 inside_counts ∙ sym own)
      count k h false g =
          let i : k ≡ c → ⊥ = eqb-false k c g in
          get_or-set_other os c k v 0 i ∙ t.counts k h ∙ sym (others k i)

  pub serves_open : 0 < get_or os c 0 → Serves row P n true (set os c (get_or os c 0 - 1)) m
  serves_open h =
      let (q, f) = from_open row P n c class (omega (arith, own_count)) in
      let b : eqb c c ≡ true = eq-eqb c c refl in
      granted q (get_or os c 0 - 1) m f.found (omega (arith, f.slots c, ap bit b, own_count))
      (λ k i. let a : eqb k c ≡ false = ne_eqb k c i in omega (arith, f.slots k, ap bit a)) (t.rows-free ∙ sym f.gaps)

  module _ (pos : 0 < row) (shut : get_or os c 0 ≡ 0) where
    pub serves_new : (r : ℕ) → lowest_run (rows_of row c) 0 m ≡ Some r → Serves row P n true (set os c (slots_of c - 1)) (put r (zeros (rows_of row c)) m)
    serves_new r e =
        let (q, f) = from_new row P n c class pos (sym own_count ∙ shut) t.formed r (ap (lowest_run (rows_of row c) 0) (sym t.rows-free) ∙ e) in
        granted q (slots_of c - 1) (put r (zeros (rows_of row c)) m) f.found f.own f.others
        (ap (put r (zeros (rows_of row c))) t.rows-free ∙ sym f.gaps)

    pub serves_none : lowest_run (rows_of row c) 0 m ≡ None → Serves row P n false os m
    serves_none e =
        let g : reserve row P ordinary n ≡ None = from_none row P n c class pos (sym own_count ∙ shut)
        (ap (lowest_run (rows_of row c) 0) (sym t.rows-free) ∙ e) in
        record { found = ap is_some (sym g); left = λ q f. let z : ◌≡◌ {A = ℕ} 0 1 = cc in absurd (omega arith) }
