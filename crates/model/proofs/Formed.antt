-- What a call leaves: a well-formed pool of as many rows; and where it refuses, the pool as it was, and nothing written.
use Rattle.mem.proofs.Prelude.{◌∙◌, ◌≡◌, sym, ap, refl, subst, true, Bool, false, ◌||◌, Some, None, Option, List, [], ◌∷◌, ◌++◌, ◌+◌, ℕ, ◌<◌, ◌≤◌}
use Rattle.mem.proofs.Prelude.{◌*◌, ◌-◌, arith, leb-false, T, eqb, eqb-true, leb, ltb, leb→le, ltb→lt, lt→ltb, le→leb, length, length-append, lit≤, ◌%◌}
use Rattle.mem.specs.Lists.{every, any}
use Rattle.mem.proofs.Tests.{and_left, and_right, and_both, every_append, choose_case, true-T, eq→eqb}
use Rattle.classes.specs.Classes.{slot_bytes, slots_of, rows_of, size_limit, own_class}
use Rattle.classes.specs.Alignments.{ordinary, code_of, enlarged, Askable}
use Rattle.classes.proofs.Alignments.{code_most}
use Rattle.model.specs.declared.Slot.{Slot}
use Rattle.model.specs.declared.Slot.TheVariants.{Fresh, Idle, Live}
use Rattle.model.specs.declared.Refusal.{Refusal}
use Rattle.model.specs.declared.Refusal.TheVariants.{TooLarge, NoSuchBlock, AlreadyFree, Stale}
use Rattle.model.specs.State.{Pool, Place, group, is_live, count, disp, align, slot_sound, span_sound, well_formed, pool_of, become, rows, start}
use Rattle.model.specs.State.{aligned_slot, aligned, beginning, use_bits, start_of, handle}
use Rattle.model.specs.Plans.{Plan, refused, reserve, grant_at, grant_as, grant_aligned, lookup, vacant, on_block, by_handle, on_handle, release_at}
use Rattle.model.specs.Plans.{release, discard, fits_in_place, new_size, on_handle_for, resize_at, move_to, move_at, in_place_at, resize_in_place, move}
use Rattle.model.specs.Plans.{measure, measure_at, report, fresh_pool, reserve_all, pool_after, grant_list, plan}
use Rattle.model.specs.Plans.{Call, sets_up, grants, grants_aligned, releases, resizes_in_place, moves, measures, reports, grants_list}
use Rattle.model.proofs.Rooms.{rows_append}
use Rattle.model.proofs.Fresh.{fresh_formed, all_fresh, fresh-rows}
use Rattle.model.proofs.Bounds.{parts, freed_whole, here_aligned, become-aligned, resized-aligned}
use Rattle.model.proofs.Lookup.{Fits, fits, lookup_found}
use Rattle.model.proofs.Lists.{small, by_grants, on_list}
use Rattle.model.proofs.Reserve.{plain, Granted, reserve_formed}
use Rattle.model.proofs.Handles.{by_bits}

-- an element in the middle of a list
pub any_middle : {A : Type 0} (f : A → Bool) (xs : List A) (y : A) (ys : List A) → any f (xs ++ (y ∷ ys)) ≡ (f y || any f (xs ++ ys))
any_middle f [] y ys = refl
any_middle f (x ∷ xs) y ys = ap (λ b. f x || b) (any_middle f xs y ys) ∙ swap (f x) (f y) (any f (xs ++ ys))
  where
    swap : (a b c : Bool) → (a || (b || c)) ≡ (b || (a || c))
    swap true true c = refl
    swap true false c = refl
    swap false b c = refl

-- ---- slots that change

-- a live slot may become waiting
pub vacant-sound : (c : ℕ) (x : Slot) → T (is_live x) → T (slot_sound c x) → T (slot_sound c (Idle false (count x) (disp x)))
unfolding slot_sound
vacant-sound c Fresh l t = absurd l
vacant-sound c (Idle r k d) l t = absurd l
vacant-sound c (Live a) l t =
    let u : T (leb (16 * a.disp + a.size) (slot_bytes c - 4)) = search (and_left, and_right) in
    and_both (ltb a.count 256) (leb (16 * a.disp) (slot_bytes c - 4)) (search (and_left, and_right))
    (le→leb (16 * a.disp) (slot_bytes c - 4) (omega (arith, leb→le (16 * a.disp + a.size) (slot_bytes c - 4) u)))

-- a live slot may get another size in place
pub resized-sound : (c : ℕ) (x : Slot) (n : ℕ) → T (is_live x) → T (slot_sound c x) → enlarged (align x) n < size_limit
    → n ≤ slot_bytes c - 4 - 16 * disp x → T (own_class c (enlarged (align x) n))
    → T (slot_sound c (Live (record { count = count x; disp = disp x; size = n; align = align x })))
unfolding slot_sound
resized-sound c Fresh n l t s f k = absurd l
resized-sound c (Idle r j d) n l t s f k = absurd l
resized-sound c (Live a) n l t s f k =
    let u : T (leb (16 * a.disp + a.size) (slot_bytes c - 4)) = search (and_left, and_right) in
    let u₁ : T (ltb a.count 256) = search (and_left, and_right) in
    let v : 16 * a.disp + n ≤ slot_bytes c - 4 = omega (arith, leb→le (16 * a.disp + a.size) (slot_bytes c - 4) u) in
    let u₂ : T (leb (16 * a.disp + n) (slot_bytes c - 4)) = le→leb (16 * a.disp + n) (slot_bytes c - 4) v in
    let u₃ : T (ltb (enlarged a.align n) size_limit) = lt→ltb (enlarged a.align n) size_limit s in
    let u₄ : T (leb 1 a.align) = search (and_left, and_right) in
    let u₅ : T (leb a.align 9) = search (and_left, and_right) in
    search and_both

-- the rules of a place hold with the slot in another sound state
pub become-fits : (p : Place) (x : Slot) → Fits p → T (slot_sound p.cls x) → Fits (become p x)
become-fits p x f t = record {
  class = f.class;
  slots = length-append p.lower (x ∷ p.upper) ∙ sym (length-append p.lower (p.state ∷ p.upper)) ∙ f.slots;
  number = f.number;
  state = t;
  others = f.others;
  before = f.before;
  after = f.after;
}

module _ (row : ℕ) where
  -- a well-formed pool of as many rows as another
  pub record Formed (P Q : Pool) : Type 0 where
    pub formed : T (well_formed Q)
    pub long : rows row Q ≡ rows row P
    -- its blocks are on their boundaries, if those of the other are
    pub bounds : row % 16 ≡ 0 → T (aligned row P) → T (aligned row Q)

  -- a slot in another sound state, with a live slot in its group
  pub become_formed : (p : Place) (x : Slot) → T (well_formed (pool_of p)) → T (slot_sound p.cls x) → T (any is_live (p.lower ++ (x ∷ p.upper)))
      → (T (aligned_slot (beginning row p) p.state) → T (aligned_slot (beginning row p) x)) → Formed (pool_of p) (pool_of (become p x))
  unfolding span_sound
  become_formed p x w s l b =
      let f : Fits (become p x) = become-fits p x (fits p w) s in
      let c : ℕ = p.cls in
      let ss : List Slot = p.lower ++ (x ∷ p.upper) in
      let t₁ : T (ltb c 48) = lt→ltb c 48 f.class in
      let t₂ : T (eqb (length ss) (slots_of c)) = eq→eqb (length ss) (slots_of c) f.slots in
      let t₃ : T (every (slot_sound c) ss) =
      every_append (slot_sound c) p.lower (x ∷ p.upper) f.others.0 (and_both (slot_sound c x) (every (slot_sound c) p.upper) s f.others.1) in
      let g : T (span_sound (group c ss)) = search and_both in
      record {
        formed = every_append span_sound p.before (group c ss ∷ p.after) f.before
            (and_both (span_sound (group c ss)) (well_formed p.after) g f.after);
        long = rows_append row p.before (group c ss ∷ p.after) ∙ sym (rows_append row p.before (group c (p.lower ++ (p.state ∷ p.upper)) ∷ p.after));
        bounds = λ _ t. become-aligned row p x (b (here_aligned row p t)) t;
      }

  -- a group's rows become free
  pub freed_formed : (p : Place) → T (well_formed (pool_of p)) → Formed (pool_of p) (p.before ++ (fresh_pool (rows_of row p.cls) ++ p.after))
  freed_formed p w =
      let f : Fits p = fits p w in
      let F : Pool = fresh_pool (rows_of row p.cls) in
      record {
        formed = every_append span_sound p.before (F ++ p.after) f.before
            (every_append span_sound F p.after (fresh_formed (rows_of row p.cls)) f.after);
        long = rows_append row p.before (F ++ p.after)
            ∙ ap (λ k. rows row p.before + k) (rows_append row F p.after ∙ ap (λ k. k + rows row p.after) (fresh-rows row (rows_of row p.cls)))
            ∙ sym (rows_append row p.before (group p.cls (p.lower ++ (p.state ∷ p.upper)) ∷ p.after));
        bounds = λ _ t.
            let ss : List Slot = p.lower ++ (p.state ∷ p.upper) in
            freed_whole row p.before p.cls ss p.after (parts row p.before p.cls ss p.after t);
      }

  -- ---- one block released, or resized in place

  pub release_formed : (p : Place) → T (well_formed (pool_of p)) → T (is_live p.state) → Formed (pool_of p) (release_at row p).pool
  unfolding release_at
  release_formed p w l =
      choose_case (λ (r : Plan). Formed (pool_of p) r.pool) (any is_live (p.lower ++ p.upper)) _ _
      (λ e. become_formed p (vacant p) w (vacant-sound p.cls p.state l (fits p w).state)
      (true-T _ (any_middle is_live p.lower (vacant p) p.upper ∙ e)) (λ _. tt))
      (λ e. freed_formed p w)

  pub resize_at_formed : (p : Place) (n : ℕ) → T (well_formed (pool_of p)) → T (is_live p.state) → enlarged (align p.state) n < size_limit
      → T (fits_in_place p n) → Formed (pool_of p) (resize_at row p n).pool
  unfolding resize_at fits_in_place
  resize_at_formed p n w l h t =
      let f : Fits p = fits p w in
      let x : Slot = Live (record { count = count p.state; disp = disp p.state; size = n; align = align p.state }) in
      become_formed p x w
      (resized-sound p.cls p.state n l f.state h (leb→le n (slot_bytes p.cls - 4 - 16 * disp p.state) (search and_left))
      (search (and_left, and_right)))
      (true-T _ (any_middle is_live p.lower x p.upper)) (resized-aligned (beginning row p) n p.state l)

  -- a pool that stays as it is
  pub unchanged : (P : Pool) → T (well_formed P) → Formed P P
  unchanged P w = record { formed = w; long = refl; bounds = λ _ t. t }

-- the code that the tables keep of a live block
pub code_kept : (c : ℕ) (x : Slot) → T (is_live x) → T (slot_sound c x) → (1 ≤ align x) × (align x ≤ 9)
unfolding slot_sound
code_kept c Fresh l t = absurd l
code_kept c (Idle r k d) l t = absurd l
code_kept c (Live a) l t = (leb→le 1 a.align (search (and_left, and_right)), leb→le a.align 9 (search (and_left, and_right)))

-- a live block that is found gets a size for which answer 3 is not due
pub resizable : (row : ℕ) (pos : 0 < row) (P : Pool) (o n : ℕ) → T (well_formed P) → (p : Place) → lookup row P o ≡ Some p → pool_of p ≡ P
    → T (is_live p.state) → new_size (lookup row P o) n < size_limit → Askable (align p.state) n
resizable row pos P o n w p f q l h =
    let k = code_kept p.cls p.state l (fits p (subst (λ Q. T (well_formed Q)) (sym q) w)).state in
    record { some_code = k.0; last_code = k.1; small = subst (λ r. new_size r n < size_limit) f h }

module _ (row : ℕ) (pos : 0 < row) where
  -- what a call on a block does, by what is found at its start
  pub on_block_lem : (M : Plan → Type 0) (P : Pool) (o : ℕ) (f : Place → Plan) → M (refused NoSuchBlock P) → M (refused AlreadyFree P)
      → ((p : Place) → lookup row P o ≡ Some p → pool_of p ≡ P → T (is_live p.state) → M (f p)) → M (on_block P f (lookup row P o))
  on_block_lem M P o f none_there idle-there live-there = go (lookup row P o) refl
    where
      go : (r : Option Place) → lookup row P o ≡ r → M (on_block P f r)
      go None e = none_there
      go (Some p) e =
          choose_case M (is_live p.state) (f p) (refused AlreadyFree P)
          (λ l. live-there p e (lookup_found row pos P o p e).0 (true-T (is_live p.state) l)) (λ l. idle-there)

  -- what a call on the block of a handle does, by what is found at the handle's start
  pub on_handle_lem : (M : Plan → Type 0) (P : Pool) (h : ℕ) (f : Place → Plan) → ((r : Refusal) → M (refused r P))
      → ((p : Place) → lookup row P (start_of h) ≡ Some p → pool_of p ≡ P → T (is_live p.state) → handle row p ≡ h → M (f p)) → M (on_handle row P h f)
  unfolding on_handle
  on_handle_lem M P h f not_so live-there =
      on_block_lem M P (start_of h) (by_handle P h f) (not_so NoSuchBlock) (not_so AlreadyFree)
      (λ p e q l. choose_case M (eqb (h % 16) (use_bits (count p.state))) (f p) (refused Stale P)
      (λ b. live-there p e q l ((by_bits row p h (lookup_found row pos P (start_of h) p e).2).1 (eqb-true (h % 16) (use_bits (count p.state)) b)))
      (λ _. not_so Stale))

  -- ---- calls

  -- a grant after others
  granted_formed : {P : Pool} (k n : ℕ) (q : Place) {Q : Pool} → Granted row P k n q → Formed row (pool_of q) Q → Formed row P Q
  granted_formed k n q g f = record { formed = f.formed; long = f.long ∙ g.long; bounds = λ u t. f.bounds u (g.bounds u t) }

  pub grant_formed : (P : Pool) (k n : ℕ) → 1 ≤ k → k ≤ 9 → T (well_formed P) → Formed row P (grant_as row P k n).pool
  unfolding grant_as
  grant_formed P k n s l w =
      choose_case (λ (r : Plan). Formed row P r.pool) (leb size_limit (enlarged k n)) _ _ (λ e. unchanged row P w)
      (λ e. go (record { some_code = s; last_code = l; small = leb-false size_limit (enlarged k n) e }) (reserve row P k n) refl)
    where
      go : Askable k n → (r : Option Place) → reserve row P k n ≡ r → Formed row P (grant_at row P r).pool
      go h None e = unchanged row P w
      go h (Some q) e = granted_formed k n q (reserve_formed row P k n q w h e) (unchanged row (pool_of q) (reserve_formed row P k n q w h e).formed)

  grant_aligned_formed : (P : Pool) (n a : ℕ) → T (well_formed P) → Formed row P (grant_aligned row P n a).pool
  unfolding grant_aligned
  grant_aligned_formed P n a w =
      choose_case (λ (r : Plan). Formed row P r.pool) (ltb 0 (code_of a)) _ _
      (λ e. grant_formed P (code_of a) n (ltb→lt 0 (code_of a) (true-T (ltb 0 (code_of a)) e)) (code_most a) w) (λ _. unchanged row P w)

  -- a block given back
  given_back : (P : Pool) (p : Place) → T (well_formed P) → pool_of p ≡ P → T (is_live p.state) → Formed row P (release_at row p).pool
  given_back P p w e l = subst (λ Q. Formed row Q (release_at row p).pool) e (release_formed row p (subst (λ Q. T (well_formed Q)) (sym e) w) l)

  discard_formed : (P : Pool) (o : Place) → T (well_formed P) → Formed row P (discard row P o).pool
  unfolding discard
  discard_formed P o w =
      on_block_lem (λ (r : Plan). Formed row P r.pool) P (start row o) (release_at row) (unchanged row P w) (unchanged row P w) (λ p f e l. given_back P p w e l)

  release-plan_formed : (P : Pool) (h : ℕ) → T (well_formed P) → Formed row P (release row P h).pool
  unfolding release
  release-plan_formed P h w =
      on_handle_lem (λ (r : Plan). Formed row P r.pool) P h (release_at row) (λ r. unchanged row P w) (λ p f e l b. given_back P p w e l)

  -- what a call does that is to give the block of a handle n bytes: answer 3 goes first, so the block can be asked to have them
  pub on_handle_for_lem : (M : Plan → Type 0) (P : Pool) (h n : ℕ) (f : Place → Plan) → T (well_formed P) → ((r : Refusal) → M (refused r P))
      → ((p : Place) → lookup row P (start_of h) ≡ Some p → pool_of p ≡ P → T (is_live p.state) → handle row p ≡ h → Askable (align p.state) n → M (f p))
      → M (on_handle_for row P h n f)
  unfolding on_handle_for
  on_handle_for_lem M P h n f w not_so live-there =
      let m : ℕ = new_size (lookup row P (start_of h)) n in
      choose_case M (leb size_limit m) _ _ (λ _. not_so TooLarge)
      (λ e. on_handle_lem M P h f not_so
      (λ p g q l b. live-there p g q l b (resizable row pos P (start_of h) n w p g q l (leb-false size_limit m e))))

  move_at_formed : (P : Pool) (p : Place) (n : ℕ) → T (well_formed P) → Askable (align p.state) n → Formed row P (move_at row P n p).pool
  unfolding move_at
  move_at_formed P p n w h = go (reserve row P (align p.state) n) refl
    where
      go : (r : Option Place) → reserve row P (align p.state) n ≡ r → Formed row P (move_to row P p n r).pool
      go None e = unchanged row P w
      go (Some q) e =
          let g : Granted row P (align p.state) n q = reserve_formed row P (align p.state) n q w h e in
          granted_formed (align p.state) n q g (discard_formed (pool_of q) p g.formed)

  move_formed : (P : Pool) (h n : ℕ) → T (well_formed P) → Formed row P (move row P h n).pool
  unfolding move
  move_formed P h n w =
      on_handle_for_lem (λ (r : Plan). Formed row P r.pool) P h n (move_at row P n) w (λ r. unchanged row P w) (λ p _ _ _ _ s. move_at_formed P p n w s)

  resize_in_place_formed : (P : Pool) (h n : ℕ) → T (well_formed P) → Formed row P (resize_in_place row P h n).pool
  unfolding resize_in_place in_place_at
  resize_in_place_formed P h n w =
      let M : Plan → Type 0 = λ r. Formed row P r.pool in
      on_handle_for_lem M P h n (in_place_at row P n) w (λ r. unchanged row P w)
      (λ p _ q l _ s. choose_case M (fits_in_place p n) _ _
      (λ t. subst (λ Q. Formed row Q (resize_at row p n).pool) q
      (resize_at_formed row p n (subst (λ Q. T (well_formed Q)) (sym q) w) l s.small (true-T (fits_in_place p n) t)))
      (λ _. unchanged row P w))

  -- a list of grants
  list_formed : (P : Pool) (ns : List ℕ) (qs : List Place) → T (well_formed P) → T (small ns) → reserve_all row P ns ≡ Some qs → Formed row P (pool_after P qs)
  list_formed P ns qs w h e =
      by_grants row (λ P ns qs. T (well_formed P) → Formed row P (pool_after P qs)) (λ P w. unchanged row P w)
      (λ P n ns q qs w s r k v.
      let g : Granted row P ordinary n q = reserve_formed row P ordinary n q w (plain s) r in granted_formed ordinary n q g (k g.formed)) P ns qs w h e w

  grant_list_formed : (P : Pool) (total cap places : ℕ) (ns : List ℕ) → T (well_formed P) → Formed row P (grant_list row P total cap places ns).pool
  grant_list_formed P total cap places ns w =
      on_list row (λ (r : Plan). Formed row P r.pool) P total cap places ns (λ r. unchanged row P w) (λ qs h e. list_formed P ns qs w h e)

  measure_formed : (P : Pool) (o : ℕ) → T (well_formed P) → Formed row P (measure row P o).pool
  unfolding measure
  measure_formed P o w =
      on_handle_lem (λ (r : Plan). Formed row P r.pool) P o (measure_at row P) (λ r. unchanged row P w) (λ p f e l b. unchanged row P w)

  -- every call leaves a well-formed pool of as many rows
  pub plan_formed : (P : Pool) (c : Call) → T (well_formed P) → Formed row P (plan row P c).pool
  unfolding plan report
  plan_formed P sets_up w = record { formed = fresh_formed (rows row P); long = fresh-rows row (rows row P); bounds = λ _ _. all_fresh row (rows row P) }
  plan_formed P (grants n) w = grant_formed P ordinary n (lit≤ tt) (lit≤ tt) w
  plan_formed P (grants_aligned n a) w = grant_aligned_formed P n a w
  plan_formed P (releases o) w = release-plan_formed P o w
  plan_formed P (resizes_in_place o n) w = resize_in_place_formed P o n w
  plan_formed P (moves o n) w = move_formed P o n w
  plan_formed P (measures o) w = measure_formed P o w
  plan_formed P reports w = unchanged row P w
  plan_formed P (grants_list total cap places ns) w = grant_list_formed P total cap places ns w
