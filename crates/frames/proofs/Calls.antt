-- The calls by what the code finds, in any lawful form of the tables: a grant by what is reserved, and the calls on a block by what is located.
use Rattle.mem.proofs.Prelude.{◌∙◌, ◌≡◌, sym, ap, refl, subst, true, Bool, false, Some, None, Option, List, [], ◌∷◌, ◌++◌, ℕ, ◌<◌, ◌≤◌, arith, Ok, Err, Result}
use Rattle.mem.proofs.Prelude.{le-leb, lt-leb, leb-false, lt-ltb, T, eqb, leb, ltb, length, ◌%◌}
use Rattle.mem.specs.Lists.{any, choose}
use Rattle.mem.specs.Bytes.{put}
use Rattle.mem.proofs.Tests.{choose_case, choose-true, choose-false, true-T}
use Rattle.classes.specs.Classes.{size_limit}
use Rattle.classes.specs.Alignments.{ordinary, code_of, enlarged, Askable}
use Rattle.model.specs.declared.Refusal.{Refusal}
use Rattle.model.specs.declared.Refusal.TheVariants.{Unsound, TooLarge, NoSuchBlock, AlreadyFree, Stale, NoRoom, BadAlignment}
use Rattle.model.specs.State.{Pool, Place, is_live, count, align, use_bits, start_of, pool_of}
use Rattle.model.specs.Blocks.{damage, frame, Damage}
use Rattle.model.specs.Answers.{Answer, reply_answer, listed, done, refusal}
use Rattle.model.specs.Plans.{Plan, Call, grants, grants_aligned, releases, resizes_in_place, moves, measures, refused, plan, grant_as, grant_aligned}
use Rattle.model.specs.Plans.{report, totals, reports, grant_at, reserve, enframe, lookup, on_block, by_handle, on_handle, new_size}
use Rattle.model.specs.Plans.{release, release_at, on_handle_for, resize_at, move_to, move_at, fits_in_place, in_place_at, resize_in_place, move, measure, measure_at}
use Rattle.model.specs.Calls.{Outcome, left, Form, FormLaws, call_by, carried_by, applied, damaged, keeps, unsound}
use Rattle.model.proofs.Lookup.{lookup_found}
use Rattle.model.proofs.Formed.{resizable}
use Rattle.model.proofs.Calls as calls
use Rattle.model.proofs.Calls.{Asks, on_live, carried_whole, carried-damaged}
use Rattle.rows.specs.declared.Block.{Block}
use Rattle.rows.specs.Rows.{block_of, owned_at, handle_at}
use Rattle.frames.specs.Blocks.{by_damage, located, located_for, found_for, CarriedOutBy}

-- what is lent passed the check
pub record Checked (row : ℕ) (F : Form) (a : List ℕ) (t : F.Kept) : Type 0 where
  pub laws : FormLaws row F
  pub sound : F.sound (length a) t ≡ true

module _ {row : ℕ} {F : Form} {a : List ℕ} {t : F.Kept} (r : Checked row F a t) where
  pub same_room : F.encode (F.view t) ≡ t
  same_room = calls.same_room row F a t r.sound r.laws

  pub call-sound : (c : Call) → Asks c → call_by row F a t c ≡ carried_by row F a t (plan row (F.view t) c)
  call-sound = calls.call-sound row F a t r.sound

  -- a plan that refuses, carried out on sound tables, keeps every byte
  pub kept : (x : Refusal) → carried_by row F a t (refused x (F.view t)) ≡ keeps (refusal x) a t
  kept x = carried_whole row F a t (refused x (F.view t)) refl ∙ ap (keeps (refusal x) a) same_room

  -- and leaves what is lent
  pub refused_out : (x : Refusal) → CarriedOutBy F a (refused x (F.view t)) (Err x) a t
  refused_out x = record { answer = refl; arena = refl; kept = sym same_room }

  -- ---- grant

  module _ (k n : ℕ) where
    -- the plan of a grant, with an alignment
    abbrev asked : Plan
    asked = grant_as row (F.view t) k n

    abbrev found : Option Place
    found = reserve row (F.view t) k n

    pub grant-too_large : size_limit ≤ enlarged k n → CarriedOutBy F a asked (Err TooLarge) a t
    unfolding grant_as
    grant-too_large h = rw (choose-true (leb size_limit (enlarged k n)) _ _ (le-leb size_limit (enlarged k n) h)) (refused_out TooLarge)

    module _ (small : Askable k n) where
      granting : asked ≡ grant_at row (F.view t) found
      unfolding grant_as
      granting = choose-false (leb size_limit (enlarged k n)) _ _ (lt-leb size_limit (enlarged k n) small.small)

      pub granted-none : found ≡ None → CarriedOutBy F a asked (Err NoRoom) a t
      granted-none q = rw (granting, ap (grant_at row (F.view t)) q) (refused_out NoRoom)

      -- what a grant of a reserved block leaves
      pub granted_at : (q : Place) → found ≡ Some q → (b : Block) → b ≡ block_of row q → (u : F.Kept) → u ≡ F.encode (pool_of q)
          → CarriedOutBy F a asked (Ok (handle_at row b)) (put (owned_at row b) (frame b.class b.slot b.alloc.disp b.alloc.size) a) u
      unfolding enframe
      granted_at q f b e u eu = rw (granting, ap (grant_at row (F.view t)) f, e) (record { answer = refl; arena = refl; kept = eu })

  -- a plan that names no block is what the call does
  pub record Does (c : Call) (p : Plan) : Type 0 where
    pub plans : plan row (F.view t) c ≡ p
    pub unnamed : p.checks ≡ None
    pub asks : Asks c

  pub called : (c : Call) (p : Plan) → Does c p → call_by row F a t c ≡ applied F a p
  called c p d = call-sound c d.asks ∙ ap (carried_by row F a t) d.plans ∙ carried_whole row F a t p (ap (damaged row a) d.unnamed)

  grant_unnamed : (k n : ℕ) → (asked k n).checks ≡ None
  unfolding grant_as
  grant_unnamed k n = choose_case (λ (p : Plan). p.checks ≡ None) (leb size_limit (enlarged k n)) _ _ (λ _. refl) (λ _. at (found k n))
    where
      at : (o : Option Place) → (grant_at row (F.view t) o).checks ≡ None
      at None = refl
      at (Some q) = refl

  pub grant-does : (n : ℕ) → Does (grants n) (asked ordinary n)
  unfolding plan
  grant-does n = record { plans = refl; unnamed = grant_unnamed ordinary n; asks = tt }

  -- an aligned grant: of no alignment, and of one
  pub aligned-none : (n b : ℕ) → code_of b ≡ 0 → Does (grants_aligned n b) (refused BadAlignment (F.view t))
  unfolding plan grant_aligned
  aligned-none n b e = record { plans = choose-false (ltb 0 (code_of b)) _ _ (ap (ltb 0) e); unnamed = refl; asks = tt }

  pub aligned-does : (n b : ℕ) → 0 < code_of b → Does (grants_aligned n b) (asked (code_of b) n)
  unfolding plan grant_aligned
  aligned-does n b h = record { plans = choose-true (ltb 0 (code_of b)) _ _ (lt-ltb 0 (code_of b) h); unnamed = grant_unnamed (code_of b) n; asks = tt }

  -- ---- a call on a block

  module _ (h : ℕ) (k : Place → Plan) (named : (p : Place) → (k p).checks ≡ Some p) where
    -- the pool, and what is done with a place that is looked up
    abbrev P : Pool
    P = F.view t

    abbrev does : Option Place → Plan
    does q = on_block P (by_handle P h k) q

    -- what the call does, by what is located
    data Comes (q : Option Place) : (Result Block Refusal) → Type 0 where
      acts : (p : Place) → q ≡ Some p → T (is_live p.state) → carried_by row F a t (does q) ≡ applied F a (k p) → Comes q (Ok (block_of row p))
      refuses : (x : Refusal) → carried_by row F a t (does q) ≡ keeps (refusal x) a t → Comes q (Err x)

    comes : (q : Option Place) → Comes q (located row a h q)
    comes None = refuses NoSuchBlock (kept NoSuchBlock)
    comes (Some p) = go (is_live p.state) refl
      where
        same_bits : Bool
        same_bits = eqb (h % 16) (use_bits (count p.state))

        judged_by : Result Block Refusal
        judged_by = by_damage row (block_of row p) (damage row a p)

        tested : T (is_live p.state) → carried_by row F a t (does (Some p)) ≡ carried_by row F a t (k p) → (d : Damage) → damage row a p ≡ d
            → Comes (Some p) (by_damage row (block_of row p) d)
        tested l i (Ok tt) e = acts p refl l (i ∙ carried_whole row F a t (k p) (ap (damaged row a) (named p) ∙ e))
        tested l i (Err x) e = refuses x (i ∙ carried-damaged row F a t (k p) x (ap (damaged row a) (named p) ∙ e))

        by_bits : (v : Bool) → same_bits ≡ v → T (is_live p.state) → Comes (Some p) (choose same_bits judged_by (Err Stale))
        by_bits true e l =
            subst (Comes (Some p)) (sym (choose-true same_bits _ _ e))
            (tested l (ap (carried_by row F a t) (on_live P (by_handle P h k) p l ∙ choose-true same_bits _ _ e)) (damage row a p) refl)
        by_bits false e l =
            subst (Comes (Some p)) (sym (choose-false same_bits _ _ e))
            (refuses Stale (ap (carried_by row F a t) (on_live P (by_handle P h k) p l ∙ choose-false same_bits _ _ e) ∙ kept Stale))

        go : (v : Bool) → is_live p.state ≡ v → Comes (Some p) (located row a h (Some p))
        go true e = subst (Comes (Some p)) (sym (choose-true (is_live p.state) _ _ e)) (by_bits same_bits refl (true-T (is_live p.state) e))
        go false e =
            subst (Comes (Some p)) (sym (choose-false (is_live p.state) _ _ e))
            (refuses AlreadyFree (ap (carried_by row F a t) (choose-false (is_live p.state) _ _ e) ∙ kept AlreadyFree))

    -- the block's place, and that the call carries out the plan for it
    pub record Called (b : Block) : Type 0 where
      pub place : Place
      pub looked_up : lookup row P (start_of h) ≡ Some place
      pub block : b ≡ block_of row place
      pub live : T (is_live place.state)
      pub result : carried_by row F a t (on_handle row P h k) ≡ applied F a (k place)

    pub called_at : (b : Block) → Ok b ≡ located row a h (lookup row P (start_of h)) → Called b
    unfolding on_handle
    called_at b e = go (located row a h (lookup row P (start_of h))) (comes (lookup row P (start_of h))) (sym e)
      where
        go : (l : (Result Block Refusal)) → Comes (lookup row P (start_of h)) l → l ≡ Ok b → Called b
        go (Ok c) (acts p f l d) e =
            let g : block_of row p ≡ b = cc in
            record { place = p; looked_up = f; block = sym g; live = l; result = d }
        go (Err x) (refuses y d) e = let z : ◌≡◌ {A = ℕ} 0 1 = cc in absurd (omega arith)

    pub called_refused : (x : Refusal) → Err x ≡ located row a h (lookup row P (start_of h))
        → carried_by row F a t (on_handle row P h k) ≡ keeps (refusal x) a t
    unfolding on_handle
    called_refused x e = go (located row a h (lookup row P (start_of h))) (comes (lookup row P (start_of h))) (sym e)
      where
        go : (l : (Result Block Refusal)) → Comes (lookup row P (start_of h)) l → l ≡ Err x → carried_by row F a t (does (lookup row P (start_of h))) ≡ keeps (refusal x) a t
        go (Ok c) (acts p f l d) e = let z : ◌≡◌ {A = ℕ} 0 1 = cc in absurd (omega arith)
        go (Err y) (refuses z d) e = let g : y ≡ x = cc in d ∙ ap (λ x. keeps (refusal x) a t) g

    -- for a block that is to have n bytes: these can be asked for, and the call carries out the plan for it
    module _ (pos : 0 < row) (n : ℕ) where
      -- the place at the handle's start
      abbrev at_start : Option Place
      at_start = lookup row P (start_of h)

      pub record CalledFor (b : Block) : Type 0 where
        pub block : Called b
        pub askable : Askable b.alloc.align n
        pub result : carried_by row F a t (on_handle_for row P h n k) ≡ applied F a (k block.place)

      pub called_for : (b : Block) → Ok b ≡ located_for row a h n at_start → CalledFor b
      unfolding on_handle_for
      called_for b e = go (leb size_limit (new_size at_start n)) refl
        where
          go : (v : Bool) → leb size_limit (new_size at_start n) ≡ v → CalledFor b
          go true f = let g = e ∙ choose-true (leb size_limit (new_size at_start n)) _ _ f in let z : ◌≡◌ {A = ℕ} 0 1 = cc in absurd (omega arith)
          go false f =
              let d : Called b = called_at b (e ∙ choose-false (leb size_limit (new_size at_start n)) _ _ f) in
              record {
                block = d;
                askable = subst (λ (c : Block). Askable c.alloc.align n) (sym d.block)
                    (resizable row pos P (start_of h) n (r.laws.only (length a) t (true-T (F.sound (length a) t) r.sound)).0.formed d.place
                    d.looked_up (lookup_found row pos P (start_of h) d.place d.looked_up).0 d.live
                    (leb-false size_limit (new_size at_start n) f));
                result = ap (carried_by row F a t) (choose-false (leb size_limit (new_size at_start n)) _ _ f) ∙ d.result;
              }

      pub refused_for : (x : Refusal) → Err x ≡ located_for row a h n at_start → carried_by row F a t (on_handle_for row P h n k) ≡ keeps (refusal x) a t
      unfolding on_handle_for
      refused_for x e = go (leb size_limit (new_size at_start n)) refl
        where
          go : (v : Bool) → leb size_limit (new_size at_start n) ≡ v → carried_by row F a t (on_handle_for row P h n k) ≡ keeps (refusal x) a t
          go true f =
              let g = e ∙ choose-true (leb size_limit (new_size at_start n)) _ _ f in
              let i : TooLarge ≡ x = cc in
              ap (carried_by row F a t) (choose-true (leb size_limit (new_size at_start n)) _ _ f) ∙ kept TooLarge ∙ ap (λ x. keeps (refusal x) a t) i
          go false f =
              ap (carried_by row F a t) (choose-false (leb size_limit (new_size at_start n)) _ _ f)
              ∙ called_refused x (e ∙ choose-false (leb size_limit (new_size at_start n)) _ _ f)

  -- each call on a block, as what is done with it

  pub releasing : (h : ℕ) → call_by row F a t (releases h) ≡ carried_by row F a t (on_handle row (F.view t) h (release_at row))
  unfolding plan release
  releasing h = call-sound (releases h) tt

  pub measuring : (h : ℕ) → call_by row F a t (measures h) ≡ carried_by row F a t (on_handle row (F.view t) h (measure_at row (F.view t)))
  unfolding plan measure
  measuring h = call-sound (measures h) tt

-- ---- the block that a plan names

pub release_names : (row : ℕ) (p : Place) → (release_at row p).checks ≡ Some p
unfolding release_at
release_names row p = choose_case (λ (r : Plan). r.checks ≡ Some p) (any is_live (p.lower ++ p.upper)) _ _ (λ e. refl) (λ e. refl)

pub release-done : (row : ℕ) (p : Place) → (release_at row p).answer ≡ done (0 ∷ [])
unfolding release_at
release-done row p = choose_case (λ (r : Plan). r.answer ≡ done (0 ∷ [])) (any is_live (p.lower ++ p.upper)) _ _ (λ e. refl) (λ e. refl)

-- ---- what a call leaves, as one equation

module _ {R : Type 0} where
  -- an outcome by its parts
  pub whole : {x : Answer} {a : List ℕ} {t : R} {o : Outcome R} → x ≡ o.answer → a ≡ o.arena → t ≡ o.kept → left x a t ≡ o
  whole {x} {a} {t} {o} e f g = ap (λ x. left x a t) e ∙ ap (λ a. left o.answer a t) f ∙ ap (left o.answer o.arena) g

module _ {F : Form} {a : List ℕ} {p : Plan} {w : (Result ℕ Refusal)} {x : List ℕ} {u : F.Kept} {r : Outcome F.Kept} where
  -- what a call leaves that carries a plan out
  pub carried_as : CarriedOutBy F a p w x u → r ≡ applied F a p → left (reply_answer w) x u ≡ r
  carried_as d e = whole d.answer d.arena d.kept ∙ sym e

module _ {row : ℕ} {F : Form} {a : List ℕ} {t : F.Kept} (r : Checked row F a t) where
  -- a call that writes nothing and keeps the state of sound tables: all stays, but for the answer
  pub kept_as : {x y : Answer} {o : Outcome F.Kept} → x ≡ y → o ≡ left y a (F.encode (F.view t)) → left x a t ≡ o
  kept_as e h = whole e refl (sym (same_room r)) ∙ sym h

  -- report, by what is counted
  pub reporting : {x : Answer} → x ≡ done (listed (totals row (F.view t))) → left x a t ≡ call_by row F a t reports
  unfolding plan report
  reporting e = kept_as e (call-sound r reports tt ∙ carried_whole row F a t (report row (F.view t)) refl)

-- ---- a call for another size, by what is found for it

-- a call that does f with the block of a handle that is to have n bytes
pub record GivesSize (row : ℕ) (P : Pool) (h n : ℕ) (f : Pool → ℕ → Place → Plan) (c : Call) : Type 0 where
  pub plans : plan row P c ≡ on_handle_for row P h n (f P n)
  pub names : (p : Place) → (f P n p).checks ≡ Some p
  pub asks : Asks c
  pub one_value : unsound c ≡ refusal Unsound

module _ (row : ℕ) (P : Pool) (h n : ℕ) where
  pub in_place-size : GivesSize row P h n (in_place_at row) (resizes_in_place h n)
  unfolding plan resize_in_place in_place_at resize_at
  in_place-size = record {
    plans = refl;
    names = λ p. choose_case (λ (r : Plan). r.checks ≡ Some p) (fits_in_place p n) _ _ (λ e. refl) (λ e. refl);
    asks = tt;
    one_value = refl;
  }

  pub move-size : GivesSize row P h n (move_at row) (moves h n)
  unfolding plan move move_at
  move-size = record { plans = refl; names = λ p. go p (reserve row P (align p.state) n); asks = tt; one_value = refl }
    where
      go : (p : Place) (o : Option Place) → (move_to row P p n o).checks ≡ Some p
      go p None = refl
      go p (Some q) = refl

module _ {row : ℕ} (F : Form) (a : List ℕ) (t : F.Kept) {h n : ℕ} {f : Pool → ℕ → Place → Plan} {c : Call} (s : GivesSize row (F.view t) h n f c) where
  -- a block is found in sound tables
  pub found_sound : {b : Block} → Ok b ≡ found_for row F a t h n
      → (F.sound (length a) t ≡ true) × (Ok b ≡ located_for row a h n (lookup row (F.view t) (start_of h)))
  found_sound {b} e = go (F.sound (length a) t) refl
    where
      go : (v : Bool) → F.sound (length a) t ≡ v → (F.sound (length a) t ≡ true) × (Ok b ≡ located_for row a h n (lookup row (F.view t) (start_of h)))
      go true g = (g, e ∙ choose-true (F.sound (length a) t) _ _ g)
      go false g = let i = e ∙ choose-false (F.sound (length a) t) _ _ g in let z : ◌≡◌ {A = ℕ} 0 1 = cc in absurd (omega arith)

  -- what the call leaves where its plan for the block is carried out
  pub size-given : (r : Checked row F a t) (pos : 0 < row) {b : Block} (d : CalledFor r h (f (F.view t) n) s.names pos n b) {w : (Result ℕ Refusal)} {x : List ℕ}
      {u : F.Kept} → CarriedOutBy F a (f (F.view t) n d.block.place) w x u → left (reply_answer w) x u ≡ call_by row F a t c
  size-given r pos d o = carried_as o (call-sound r c s.asks ∙ ap (carried_by row F a t) s.plans ∙ d.result)

  -- and where none is found
  pub size-refused : FormLaws row F → 0 < row → (x : Refusal) → Err x ≡ found_for row F a t h n → keeps (refusal x) a t ≡ call_by row F a t c
  size-refused L pos x e = go (F.sound (length a) t) refl
    where
      go : (v : Bool) → F.sound (length a) t ≡ v → keeps (refusal x) a t ≡ call_by row F a t c
      go true g =
          let r : Checked row F a t = record { laws = L; sound = g } in
          sym (call-sound r c s.asks ∙ ap (carried_by row F a t) s.plans
          ∙ refused_for r h (f (F.view t) n) s.names pos n x (e ∙ choose-true (F.sound (length a) t) _ _ g))
      go false g =
          let i = e ∙ choose-false (F.sound (length a) t) _ _ g in
          let j : x ≡ Unsound = cc in
          ap (λ x. keeps (refusal x) a t) j ∙ ap (λ z. keeps z a t) (sym s.one_value) ∙ sym (calls.call-unsound row F a t c s.asks g)
