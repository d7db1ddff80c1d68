-- What a grant takes: a slot of its class, in a pool that is well formed.
use Rattle.mem.proofs.Prelude.{◌∙◌, ◌≡◌, sym, ap, refl, subst, true, Bool, false, ◌&&◌, not, ◌||◌, ⊎_elim, inl, inr, ◌⊎◌, Some, None, Option, List, [], ◌∷◌}
use Rattle.mem.proofs.Prelude.{◌++◌, append_assoc, map, ◌+◌, ℕ, ◌<◌, ◌≤◌, ◌*◌, ◌-◌, suc, ◌/◌, zero, ◌%◌, arith, eq-eqb, T, eqb, leb, ltb}
use Rattle.mem.proofs.Prelude.{eqb→eq, eqb_refl, lt→ltb, le→leb, length, drop, get_or, length-append, replicate, length-map, length-replicate, length-take-le}
use Rattle.mem.proofs.Prelude.{leb-false, lit≤}
use native.Mathlib.Nat.{mod-lt}
use lib.Seq.{split_at}
use Rattle.mem.specs.Lists.{choose, every, any, first}
use Rattle.mem.proofs.Tests.{and_left, and_right, and_both, every-left, every-right, every_append, choose_case, T_true, true-T}
use Rattle.classes.specs.Classes.{slot_bytes, class_of, slots_of, rows_of, size_limit, own_class}
use Rattle.classes.specs.Alignments.{ordinary, align_of, enlarged, round_up, Askable}
use Rattle.classes.specs.Facts.{ClassFacts}
use Rattle.classes.proofs.Alignments.{enlarged_least, enlarged_by, align-units, align_least, round_near}
use Rattle.classes.proofs.Laws.{class_facts, slots_pos}
use Rattle.model.specs.declared.Slot.{Slot}
use Rattle.model.specs.declared.Slot.TheVariants.{Fresh, Idle, Live}
use Rattle.model.specs.State.{Pool, Place, free, group, is_live, is_ready, count, size, align, slot_sound, span_sound, well_formed, pool_of}
use Rattle.model.specs.State.{slot_number, rows, base, beginning, slots_aligned, aligned}
use Rattle.model.specs.Plans.{Site, opens, open_from, run, turn_ready, refill, displaced, grant_slot, grant_in, run_from, site_or, site, reserve_in, reserve}
use Rattle.model.specs.Plans.{fresh_pool}
use Rattle.model.proofs.Tables.{group-slots}
use Rattle.model.proofs.Rooms.{rows_append}
use Rattle.model.proofs.Fresh.{fresh-rows}
use Rattle.model.proofs.Bounds.{Parts, parts, whole, made_parts, refilled, granted-aligned}

-- ---- refill

pub any_turn : (ss : List Slot) → T (any (λ x. not (is_live x)) ss) → T (any is_ready (map turn_ready ss))
any_turn [] t = t
any_turn (Fresh ∷ ss) t = tt
any_turn (Idle r k d ∷ ss) t = tt
any_turn (Live a ∷ ss) t = any_turn ss t

pub turn_sound : (c : ℕ) (ss : List Slot) → T (every (slot_sound c) ss) → T (every (slot_sound c) (map turn_ready ss))
unfolding slot_sound
turn_sound c [] t = tt
turn_sound c (Fresh ∷ ss) t = turn_sound c ss t
turn_sound c (Idle r k d ∷ ss) t =
    and_both (slot_sound c (Idle r k d)) _ (and_left (slot_sound c (Idle r k d)) (every (slot_sound c) ss) t)
    (turn_sound c ss (and_right (slot_sound c (Idle r k d)) (every (slot_sound c) ss) t))
turn_sound c (Live a ∷ ss) t =
    and_both (slot_sound c (Live a)) _ (and_left (slot_sound c (Live a)) (every (slot_sound c) ss) t)
    (turn_sound c ss (and_right (slot_sound c (Live a)) (every (slot_sound c) ss) t))

-- a group with a slot not live has a ready one after refill
pub refill_ready : (ss : List Slot) → T (any (λ x. not (is_live x)) ss) → T (any is_ready (refill ss))
unfolding refill
refill_ready ss t =
    choose_case (λ l. T (any is_ready l)) (any is_ready ss) ss (map turn_ready ss) (λ e. true-T (any is_ready ss) e) (λ e. any_turn ss t)

pub refill-sound : (c : ℕ) (ss : List Slot) → T (every (slot_sound c) ss) → T (every (slot_sound c) (refill ss))
unfolding refill
refill-sound c ss t = choose_case (λ l. T (every (slot_sound c) l)) (any is_ready ss) ss (map turn_ready ss) (λ e. t) (λ e. turn_sound c ss t)

pub refill-length : (ss : List Slot) → length (refill ss) ≡ length ss
unfolding refill
refill-length ss = choose_case (λ l. length l ≡ length ss) (any is_ready ss) ss (map turn_ready ss) (λ e. refl) (λ e. length-map ss turn_ready)

-- the first ready slot is one, and it is ready
pub first_ready : (ss : List Slot) → T (any is_ready ss) → (first is_ready ss < length ss) × T (is_ready (get_or ss (first is_ready ss) Fresh))
unfolding choose
first_ready [] t = absurd t
first_ready (x ∷ ss) t = go (is_ready x) refl t (λ u. first_ready ss u)
  where
    go : (b : Bool) → is_ready x ≡ b → T (b || any is_ready ss)
        → (T (any is_ready ss) → (first is_ready ss < length ss) × T (is_ready (get_or ss (first is_ready ss) Fresh)))
        → (choose b 0 (suc (first is_ready ss)) < suc (length ss)) × T (is_ready (get_or (x ∷ ss) (choose b 0 (suc (first is_ready ss))) Fresh))
    go true e u r = (omega arith, true-T (is_ready x) e)
    go false e u r = (omega (arith, (r u).0), (r u).1)

-- ---- the site of a grant

fresh-slots_aligned : (c b n : ℕ) → T (slots_aligned c b (replicate n Fresh))
fresh-slots_aligned c b zero = tt
fresh-slots_aligned c b (suc n) = fresh-slots_aligned c (b + slot_bytes c) n

pub fresh-slots : (c n : ℕ) → T (every (slot_sound c) (replicate n Fresh))
unfolding slot_sound
fresh-slots c zero = tt
fresh-slots c (suc n) = fresh-slots c n

-- the pool's own group of class c with a slot not live, at a site
pub record Open (P : Pool) (c : ℕ) (s : Site) : Type 0 where
  pub split : P ≡ s.before ++ (group c s.slots ∷ s.after)
  pub room : T (any (λ x. not (is_live x)) s.slots)

pub open_found : (X Y : Pool) (c : ℕ) (s : Site) → open_from X c Y ≡ Some s → Open (X ++ Y) c s
unfolding choose opens
open_found X [] c s e = let z : ◌≡◌ {A = ℕ} 0 1 = cc in absurd (omega arith)
open_found X (free ∷ Y) c s e = subst (λ P. Open P c s) (append_assoc X (free ∷ []) Y) (open_found (X ++ (free ∷ [])) Y c s e)
open_found X (group k ss ∷ Y) c s e = go (opens c (group k ss)) refl e (λ e. open_found (X ++ (group k ss ∷ [])) Y c s e)
  where
    go : (b : Bool) → opens c (group k ss) ≡ b → choose b (Some (record { before = X; slots = ss; after = Y })) (open_from (X ++ (group k ss ∷ [])) c Y) ≡ Some s
        → (open_from (X ++ (group k ss ∷ [])) c Y ≡ Some s → Open ((X ++ (group k ss ∷ [])) ++ Y) c s) → Open (X ++ (group k ss ∷ Y)) c s
    go true h e r =
        let t : T (eqb k c && any (λ x. not (is_live x)) ss) = true-T (opens c (group k ss)) h in
        let q : k ≡ c = eqb→eq k c (and_left (eqb k c) (any (λ x. not (is_live x)) ss) t) in
        let p : ◌≡◌ {A = Site} (record { before = X; slots = ss; after = Y }) s = cc in
        subst (Open (X ++ (group k ss ∷ Y)) c) p (record { split = ap (λ j. X ++ (group j ss ∷ Y)) q; room = and_right (eqb k c) _ t })
    go false h e r = subst (λ P. Open P c s) (append_assoc X (group k ss ∷ []) Y) (r e)

run-free : (k : ℕ) (P : Pool) → T (run k P) → P ≡ fresh_pool k ++ drop k P
run-free zero P t = refl
run-free (suc k) [] t = absurd t
run-free (suc k) (free ∷ P) t = ap (λ Q. free ∷ Q) (run-free k P t)
run-free (suc k) (group c ss ∷ P) t = absurd t

module _ (row : ℕ) where
  -- a new group of class c at a run of free rows
  pub record New (P : Pool) (c : ℕ) (s : Site) : Type 0 where
    pub split : P ≡ s.before ++ (fresh_pool (rows_of row c) ++ s.after)
    pub slots : s.slots ≡ replicate (slots_of c) Fresh

  pub run_found_lem : (X Y : Pool) (c : ℕ) (s : Site) → run_from row X c Y ≡ Some s → New (X ++ Y) c s
  unfolding choose
  run_found_lem X [] c s e = let z : ◌≡◌ {A = ℕ} 0 1 = cc in absurd (omega arith)
  run_found_lem X (y ∷ Y) c s e = go (run (rows_of row c) (y ∷ Y)) refl e (λ e. run_found_lem (X ++ (y ∷ [])) Y c s e)
    where
      here : Site
      here = record { before = X; slots = replicate (slots_of c) Fresh; after = drop (rows_of row c) (y ∷ Y) }

      go : (b : Bool) → run (rows_of row c) (y ∷ Y) ≡ b → choose b (Some here) (run_from row (X ++ (y ∷ [])) c Y) ≡ Some s
          → (run_from row (X ++ (y ∷ [])) c Y ≡ Some s → New ((X ++ (y ∷ [])) ++ Y) c s) → New (X ++ (y ∷ Y)) c s
      go true h e r =
          let p : here ≡ s = cc in
          subst (New (X ++ (y ∷ Y)) c) p (record {
            split = ap (λ Q. X ++ Q) (run-free (rows_of row c) (y ∷ Y) (true-T (run (rows_of row c) (y ∷ Y)) h));
            slots = refl;
          })
      go false h e r = subst (λ P. New P c s) (append_assoc X (y ∷ []) Y) (r e)

  pub site_found_lem : (P : Pool) (c : ℕ) (s : Site) → site row P c ≡ Some s → Open P c s ⊎ New P c s
  unfolding site
  site_found_lem P c s e = go (open_from [] c P) refl e
    where
      go : (o : Option Site) → open_from [] c P ≡ o → site_or o (run_from row [] c P) ≡ Some s → Open P c s ⊎ New P c s
      go None h e = inr (run_found_lem [] P c s e)
      go (Some r) h e = inl (open_found [] P c s (h ∙ e))

-- ---- the place that a grant takes

-- a site where class c can be granted, in a pool of as many rows as its own
pub record Ground (row : ℕ) (P : Pool) (c : ℕ) (s : Site) : Type 0 where
  pub before : T (well_formed s.before)
  pub after : T (well_formed s.after)
  pub slots : length s.slots ≡ slots_of c
  pub sound : T (every (slot_sound c) s.slots)
  pub room : T (any (λ x. not (is_live x)) s.slots)
  pub long : rows row P ≡ rows row s.before + (rows_of row c + rows row s.after)

fresh_room : (n : ℕ) → 1 ≤ n → T (any (λ x. not (is_live x)) (replicate n Fresh))
fresh_room zero h = absurd (omega arith)
fresh_room (suc n) h = tt

module _ (row : ℕ) where
  pub ground : (P : Pool) (c : ℕ) (s : Site) → T (well_formed P) → site row P c ≡ Some s → Ground row P c s
  unfolding span_sound
  ground P c s w e = ⊎_elim opened made (site_found_lem row P c s e)
    where
      opened : Open P c s → Ground row P c s
      opened o =
          let w' : T (well_formed (s.before ++ (group c s.slots ∷ s.after))) = subst (λ Q. T (well_formed Q)) o.split w in
          let r : T (well_formed (group c s.slots ∷ s.after)) = every-right span_sound s.before (group c s.slots ∷ s.after) w' in
          let g : T (span_sound (group c s.slots)) = and_left (span_sound (group c s.slots)) (well_formed s.after) r in
          record {
            before = every-left span_sound s.before (group c s.slots ∷ s.after) w';
            after = and_right (span_sound (group c s.slots)) (well_formed s.after) r;
            slots = group-slots c s.slots g;
            sound = search (and_left, and_right);
            room = o.room;
            long = ap (rows row) o.split ∙ rows_append row s.before (group c s.slots ∷ s.after);
          }

      made : New row P c s → Ground row P c s
      made m =
          let w' : T (well_formed (s.before ++ (fresh_pool (rows_of row c) ++ s.after))) = subst (λ Q. T (well_formed Q)) m.split w in
          let r : T (well_formed (fresh_pool (rows_of row c) ++ s.after)) = every-right span_sound s.before (fresh_pool (rows_of row c) ++ s.after) w' in
          record {
            before = every-left span_sound s.before (fresh_pool (rows_of row c) ++ s.after) w';
            after = every-right span_sound (fresh_pool (rows_of row c)) s.after r;
            slots = rw m.slots (length-replicate (slots_of c) Fresh);
            sound = rw m.slots (fresh-slots c (slots_of c));
            room = rw m.slots (fresh_room (slots_of c) (slots_pos c));
            long = ap (rows row) m.split ∙ rows_append row s.before (fresh_pool (rows_of row c) ++ s.after)
                ∙ ap (λ k. rows row s.before + k) (rows_append row (fresh_pool (rows_of row c)) s.after
                ∙ ap (λ k. k + rows row s.after) (fresh-rows row (rows_of row c)));
          }

-- the slot taken: the lowest ready one after refill
pub record Taken (row c k n : ℕ) (s : Site) (q : Place) : Type 0 where
  pub old : Slot
  pub ready : T (is_ready old)
  pub slots : refill s.slots ≡ q.lower ++ (old ∷ q.upper)
  pub number : slot_number q ≡ first is_ready (refill s.slots)
  pub state : q.state ≡ grant_slot c k n (beginning row q) old

pub grant-taken : (row c k n : ℕ) (s : Site) → T (any (λ x. not (is_live x)) s.slots) → Taken row c k n s (grant_in row c k n s)
unfolding grant_in
grant-taken row c k n s t =
    let ss : List Slot = refill s.slots in
    let f : (first is_ready ss < length ss) × T (is_ready (get_or ss (first is_ready ss) Fresh)) = first_ready ss (refill_ready s.slots t) in
    record {
      old = get_or ss (first is_ready ss) Fresh;
      ready = f.1;
      slots = split_at ss (first is_ready ss) Fresh f.0;
      number = length-take-le (first is_ready ss) ss (omega (arith, f.0));
      state =
          ap (λ i. grant_slot c k n (row * rows row s.before + 16 + i * slot_bytes c) (get_or ss (first is_ready ss) Fresh))
          (sym (length-take-le (first is_ready ss) ss (omega (arith, f.0))));
    }

pub grant-live : (c k n b : ℕ) (x : Slot) → T (is_live (grant_slot c k n b x))
unfolding grant_slot
grant-live c k n b x = tt

-- an ordinary grant
pub plain : {n : ℕ} → n < size_limit → Askable ordinary n
plain h = record { some_code = lit≤ tt; last_code = lit≤ tt; small = h }

-- a displacement leaves room for the size
displaced-fits : (c k n b j : ℕ) → 1 ≤ k → enlarged k n + 4 ≤ slot_bytes c → 16 * displaced c k n b j + n ≤ slot_bytes c - 4
unfolding displaced
displaced-fits c k n b j h f =
    choose_case (λ d. 16 * d + n ≤ slot_bytes c - 4) (leb k ordinary) _ _
    (λ _. let l : j % suc ((slot_bytes c - 4 - n) / 16) < suc ((slot_bytes c - 4 - n) / 16) = mod-lt j (omega arith) in
    omega (arith, enlarged_least k n))
    (λ e.
    let m : 1 < k = omega (arith, leb-false k ordinary e) in
    let r : (b ≤ round_up (align_of k) b) × (round_up (align_of k) b < b + align_of k) = round_near (align_of k) b (omega (arith, align_least k h)) in
    omega (arith, r.0, r.1, align-units k h, align_least k h, enlarged_by k n m))

-- "16d + n at most s − 4, and its class is that of n": of the enlarged size
pub grant-sound : (k n b : ℕ) (x : Slot) → Askable k n → T (slot_sound (class_of (enlarged k n)) (grant_slot (class_of (enlarged k n)) k n b x))
unfolding slot_sound grant_slot
grant-sound k n b x h =
    let e : ℕ = enlarged k n in
    let c : ℕ = class_of e in
    let d : ℕ = displaced c k n b (count x) in
    let f : ClassFacts e = class_facts e h.small in
    let t₁ : T (ltb ((count x + 1) % 256) 256) = lt→ltb _ _ (mod-lt (count x + 1) (omega arith)) in
    let t₂ : T (leb (16 * d + n) (slot_bytes c - 4)) = le→leb _ _ (displaced-fits c k n b (count x) h.some_code f.holds) in
    let t₃ : T (leb 1 k) = le→leb 1 k h.some_code in
    let t₄ : T (leb k 9) = le→leb k 9 h.last_code in
    let t₅ : T (ltb e size_limit) = lt→ltb e size_limit h.small in
    let t₆ : T (own_class c e) = rw (T_true (eqb c c) (eqb_refl c)) tt in
    search and_both

any_here : {A : Type 0} (f : A → Bool) (xs : List A) (y : A) (ys : List A) → T (f y) → T (any f (xs ++ (y ∷ ys)))
any_here f [] y ys t = rw (T_true (f y) t) tt
any_here f (x ∷ xs) y ys t = or_right (f x) (any f (xs ++ (y ∷ ys))) (any_here f xs y ys t)
  where
    or_right : (a b : Bool) → T b → T (a || b)
    or_right true b t = tt
    or_right false b t = t

module _ (row : ℕ) (P : Pool) (k n : ℕ) where
  -- the class that serves
  abbrev pub served_by : ℕ
  served_by = class_of (enlarged k n)

  -- what a grant takes, and where
  pub record Served (q : Place) : Type 0 where
    pub at : Site
    pub found : site row P served_by ≡ Some at
    pub place : q ≡ grant_in row served_by k n at
    pub taken : Taken row served_by k n at q
    pub ground : Ground row P served_by at

  pub served : (q : Place) → T (well_formed P) → reserve row P k n ≡ Some q → Served q
  unfolding reserve
  served q w e = go (site row P served_by) refl e
    where
      go : (o : Option Site) → site row P served_by ≡ o → reserve_in row served_by k n o ≡ Some q → Served q
      go None h e = let z : ◌≡◌ {A = ℕ} 0 1 = cc in absurd (omega arith)
      go (Some s) h e =
          let p : grant_in row served_by k n s ≡ q = cc in
          let g : Ground row P served_by s = ground row P served_by s w h in
          record {
            at = s;
            found = h;
            place = sym p;
            taken = subst (Taken row served_by k n s) p (grant-taken row served_by k n s g.room);
            ground = g;
          }

  -- a reserved slot has the size and the alignment asked for
  pub reserve-size : (q : Place) → T (well_formed P) → reserve row P k n ≡ Some q → size q.state ≡ n
  unfolding grant_slot
  reserve-size q w r = ap size (served q w r).taken.state

  pub reserve-align : (q : Place) → T (well_formed P) → reserve row P k n ≡ Some q → align q.state ≡ k
  unfolding grant_slot
  reserve-align q w r = ap align (served q w r).taken.state

  -- the pool that a grant makes
  pub record Granted (q : Place) : Type 0 where
    pub formed : T (well_formed (pool_of q))
    pub long : rows row (pool_of q) ≡ rows row P
    -- its blocks are on their boundaries, if they were
    pub bounds : row % 16 ≡ 0 → T (aligned row P) → T (aligned row (pool_of q))

  pub reserve_formed : (q : Place) → T (well_formed P) → Askable k n → reserve row P k n ≡ Some q → Granted q
  unfolding span_sound grant_in
  reserve_formed q w h e =
      let v : Served q = served q w e in
      let s : Site = v.at in
      let c : ℕ = served_by in
      let took : Taken row c k n s q = v.taken in
      let g : Ground row P c s = v.ground in
      let b : q.before ≡ s.before = ap (λ p. p.before) v.place in
      let a : q.after ≡ s.after = ap (λ p. p.after) v.place in
      let j : q.cls ≡ c = ap (λ p. p.cls) v.place in
      let ss : List Slot = q.lower ++ (q.state ∷ q.upper) in
      let l : length ss ≡ slots_of c =
      omega (
        arith,
        length-append q.lower (q.state ∷ q.upper),
        length-append q.lower (took.old ∷ q.upper),
        ap length took.slots,
        refill-length
            s.slots,
        g.slots,
      ) in
      let t : T (every (slot_sound c) (q.lower ++ (took.old ∷ q.upper))) = rw (← took.slots) (refill-sound c s.slots g.sound) in
      let u : T (every (slot_sound c) ss) =
      every_append (slot_sound c) q.lower (q.state ∷ q.upper) (every-left (slot_sound c) q.lower (took.old ∷ q.upper) t)
      (and_both (slot_sound c q.state) (every (slot_sound c) q.upper) (rw took.state (grant-sound k n (beginning row q) took.old h))
      (and_right (slot_sound c took.old) (every (slot_sound c) q.upper) (every-right (slot_sound c) q.lower (took.old ∷ q.upper) t))) in
      let m : T (any is_live ss) = any_here is_live q.lower q.state q.upper (rw took.state (grant-live c k n (beginning row q) took.old)) in
      let z : T (span_sound (group c ss)) =
      and_both (ltb c 48 && eqb (length ss) (slots_of c) && any is_live ss) (every (slot_sound c) ss)
      (and_both (ltb c 48 && eqb (length ss) (slots_of c)) (any is_live ss)
      (and_both (ltb c 48) (eqb (length ss) (slots_of c)) (lt→ltb c 48 (class_facts (enlarged k n) h.small).inside)
      (true-T (eqb (length ss) (slots_of c)) (eq-eqb (length ss) (slots_of c) l))) m) u in
      let p : pool_of q ≡ s.before ++ (group c ss ∷ s.after) = cc in
      record {
        formed =
            subst (λ Q. T (well_formed Q)) (sym p)
            (every_append span_sound s.before (group c ss ∷ s.after) g.before (and_both (span_sound (group c ss)) (well_formed s.after) z g.after));
        long = ap (rows row) p ∙ rows_append row s.before (group c ss ∷ s.after) ∙ sym g.long;
        bounds = λ u t. subst (λ Q. T (aligned row Q)) (sym p) (on_boundaries q v h u t);
      }
    where
      -- the site's group, with its slots before the grant
      site_parts : (q : Place) (v : Served q) → T (aligned row P) → Parts row v.at.before served_by v.at.slots v.at.after
      site_parts q v t = ⊎_elim opened made (site_found_lem row P served_by v.at v.found)
        where
          s : Site
          s = v.at

          opened : Open P served_by s → Parts row s.before served_by s.slots s.after
          opened o = parts row s.before served_by s.slots s.after (subst (λ Q. T (aligned row Q)) o.split t)

          made : New row P served_by s → Parts row s.before served_by s.slots s.after
          made m =
              let (a, b) = made_parts row s.before served_by s.after (subst (λ Q. T (aligned row Q)) m.split t) in
              let k : ℕ = row * rows row s.before + 16 in
              record {
                before = a;
                slots = subst (λ l. T (slots_aligned served_by k l)) (sym m.slots) (fresh-slots_aligned served_by k (slots_of served_by));
                after = b;
              }

      on_boundaries : (q : Place) (v : Served q) → Askable k n → row % 16 ≡ 0 → T (aligned row P)
          → T (aligned row (v.at.before ++ (group served_by (q.lower ++ (q.state ∷ q.upper)) ∷ v.at.after)))
      on_boundaries q v h u t =
          let s : Site = v.at in
          let c : ℕ = served_by in
          let z : Parts row s.before c s.slots s.after = site_parts q v t in
          let b : q.before ≡ s.before = ap (λ p. p.before) v.place in
          let j : q.cls ≡ c = ap (λ p. p.cls) v.place in
          let e : base row q + 16 ≡ row * rows row s.before + 16 = ap (λ X. row * rows row X + 16) b in
          let r : T (slots_aligned c (row * rows row s.before + 16) (q.lower ++ (v.taken.old ∷ q.upper))) =
          subst (λ l. T (slots_aligned c (row * rows row s.before + 16) l)) v.taken.slots
          (refilled row c (row * rows row s.before + 16) s.slots z.slots) in
          let x : T (slots_aligned q.cls (base row q + 16) (q.lower ++ (q.state ∷ q.upper))) =
          granted-aligned row q v.taken.old k n u h.some_code (v.taken.state ∙ ap (λ i. grant_slot i k n (beginning row q) v.taken.old) (sym j))
          (rw (j, e) r) in
          whole row s.before c (q.lower ++ (q.state ∷ q.upper)) s.after
          (record { before = z.before; slots = rw (← e, ← j) x; after = z.after })
