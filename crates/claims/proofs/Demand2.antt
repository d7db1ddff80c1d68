-- Demand 2: release, measure and grant accept exactly what document 01 says, a granted block is where and what it says, and live blocks
-- never share a byte.
use Rattle.mem.proofs.Prelude.{◌∙◌, ◌≡◌, sym, ap, refl, ap₂, subst, true, Bool, false, not, ⊎_elim, inl, inr, ◌⊎◌, Some, None, Option, List, [], ◌∷◌, ◌++◌, ℕ, Ok, Err}
use Rattle.mem.proofs.Prelude.{◌<◌, ◌≤◌, ◌+◌, ◌*◌, ◌-◌, ◌%◌, ◌&&◌, arith, le-leb, leb, leb-true, leb-false, T, T_not, eqb, eq-eqb, eqb→eq, lit≤, length}
use Rattle.mem.proofs.Prelude.{length-map, map, get_or}
use mathlib.Core.Logic.{◌↔◌}
use lib.ListN.{get_or-map}
use Rattle.mem.specs.Lists.{choose, any, first}
use Rattle.mem.specs.Bytes.{put}
use Rattle.mem.proofs.Tests.{T_true, and_left, and_right, eq→eqb, none_any, choose-true, choose-false}
use Rattle.mem.proofs.Laws.{zeros-length}
use Rattle.classes.specs.Classes.{slot_bytes, class_of, rows_of, size_limit}
use Rattle.classes.specs.Alignments.{ordinary, align_of, enlarged, Askable}
use Rattle.model.specs.declared.Slot.{Slot}
use Rattle.model.specs.declared.Slot.TheVariants.{Fresh, Idle, Live}
use Rattle.model.specs.declared.Refusal.TheVariants.{TooLarge, NotInPlace}
use Rattle.model.specs.State.{Pool, Place, group, is_live, is_ready, count, disp, size, align, well_formed, use_bits, start_of, pool_of, slot_number, rows}
use Rattle.model.specs.State.{beginning, owned, start, handle}
use Rattle.model.specs.Blocks.{frame, damage_in, Damage}
use Rattle.model.specs.Answers.{number_of, refusal}
use Rattle.model.specs.Plans.{Plan, Site, fresh_pool, AllLive, NoPlace, plan, reserve, turn_ready, refill, displaced, grant_slot, enframe}
use Rattle.model.specs.Plans.{Call, sets_up, grants, grants_aligned, releases, resizes_in_place, moves, measures, reports, grants_list}
use Rattle.model.specs.Plans.{grant_at, grant_in, lookup}
use Rattle.model.specs.Calls.{Form, FormLaws, Outcome, Stands, applied, keeps, damaged, set_up_right_by, call_by, carried_by, checked_by, unless}
use Rattle.model.proofs.Fresh.{whole_units, set_up-done, set_up-sound}
use Rattle.model.proofs.Forms.{step, call_step, Standing, step_stands}
use Rattle.model.proofs.Calls.{Asks, call-sound}
use Rattle.model.proofs.Lookup.{Fits, fits, disp_inside, owned_inside, Owns, owned_unique}
use Rattle.model.proofs.Reserve.{Served, served, Granted, reserve_formed}
use Rattle.model.proofs.Moves.{live-granted}
use Rattle.model.proofs.Lowest.{site-lowest, first-lowest}
use Rattle.claims.specs.Demand1.{Reason, when, FirstDue, Near, StaysInPlace, StartsAt, LiveAt, header_due, guard_due, block_reasons, TooLargeAt}
use Rattle.claims.specs.Demand1.{NotServed, new_size_reasons, unsound_reason, reasons}
use Rattle.claims.specs.Demand2 as demand2
use Rattle.claims.specs.Demand2.{ReleasesExactly, MeasuresExactly, GrantsExactly, TurnsReady, Refilled, LaidOut, GrantedBy, GrantsAsSaid, InBlock}
use Rattle.claims.specs.Demand2.{Outgrows, InPlaceExactly, NeverShared, LeavesSound}
use Rattle.model.proofs.Handles.{stepped_bits, start_cleared, by_bits}
use Rattle.claims.proofs.Cases.{refuses, by_call, on_grant, reserve-live}
use Rattle.claims.proofs.Demand1.{starts_found, none-starts, starts-same, starts_alike, found_starts, demand1}
use Rattle.claims.proofs.Frames.{laid_out, laid_header, laid_guard}

-- what is not refuted passes the test
unrefuted : (b : Bool) → (T (not b) → ⊥) → T b
unrefuted true f = tt
unrefuted false f = absurd (f tt)

-- two numbers that do not differ
same_number : (m n : ℕ) → ((m ≡ n → ⊥) → ⊥) → m ≡ n
same_number m n f = eqb→eq m n (unrefuted (eqb m n) (λ d. f (λ e. T_not (eqb m n) d (eq→eqb m n e))))

-- no reason of a list is due
abbrev pub NoneDue : List Reason → Type 0
NoneDue [] = Unit {0}
NoneDue (r ∷ rs) = (r.due → ⊥) × NoneDue rs

-- a call's number is 0 exactly if no reason that it tests is due
pub none-due : (rs : List Reason) (k : ℕ) → FirstDue rs k → k ≡ 0 → NoneDue rs
none-due [] k d z = tt
none-due (r ∷ rs) k (inl (e, _)) z = absurd (refuses r.refusal (sym e ∙ z))
none-due (r ∷ rs) k (inr (n, d)) z = (n, none-due rs k d z)

due-none : (rs : List Reason) (k : ℕ) → FirstDue rs k → NoneDue rs → k ≡ 0
due-none [] k d n = d
due-none (r ∷ rs) k (inl (_, x)) n = absurd (n.0 x)
due-none (r ∷ rs) k (inr (_, d)) n = due-none rs k d n.1

-- a call's number is that of the last reason, which none before it has, exactly if that is the first due
abbrev others : List Reason → ℕ → Bool
others [] k = true
others (r ∷ rs) k = not (eqb (number_of r.refusal) k) && others rs k

due_last : (rs : List Reason) (r : Reason) (k : ℕ) → FirstDue (rs ++ (r ∷ [])) k → k ≡ number_of r.refusal → T (others rs (number_of r.refusal))
    → NoneDue rs × r.due
due_last [] r k (inl (_, x)) e o = (tt, x)
due_last [] r k (inr (_, z)) e o = absurd (refuses r.refusal (sym e ∙ z))
due_last (d ∷ rs) r k (inl (f, _)) e o =
    let same : Bool = eqb (number_of d.refusal) (number_of r.refusal) in
    absurd (T_not same (and_left (not same) (others rs (number_of r.refusal)) o) (eq→eqb (number_of d.refusal) (number_of r.refusal) (sym f ∙ e)))
due_last (d ∷ rs) r k (inr (n, g)) e o =
    let same : Bool = eqb (number_of d.refusal) (number_of r.refusal) in
    let (m, x) = due_last rs r k g e (and_right (not same) (others rs (number_of r.refusal)) o) in ((n, m), x)

last_due : (rs : List Reason) (r : Reason) (k : ℕ) → FirstDue (rs ++ (r ∷ [])) k → NoneDue rs → r.due → k ≡ number_of r.refusal
last_due [] r k (inl (e, _)) n x = e
last_due [] r k (inr (m, _)) n x = absurd (m x)
last_due (d ∷ rs) r k (inl (_, y)) n x = absurd (n.0 y)
last_due (d ∷ rs) r k (inr (_, g)) n x = last_due rs r k g n.1 x

-- ---- accepted calls

module _ (row : ℕ) (pos : 0 < row) (F : Form) (L : FormLaws row F) (a : List ℕ) (t : F.Kept) where
  -- an accepted call but set up: its plan is carried out on sound tables
  pub record Accepted (c : Call) : Type 0 where
    pub sound-tables : T (F.sound (length a) t)
    pub left : call_by row F a t c ≡ applied F a (plan row (F.view t) c)

  pub accepted : (c : Call) → Asks c → (call_by row F a t c).answer.number ≡ 0 → Accepted c
  unfolding carried_by unless
  accepted c k z =
      let s : T (F.sound (length a) t) = asked-sound c k (none-due (reasons row F a t c) _ (demand1 row pos F L a t c).number z) in
      record { sound-tables = s; left = intact (damaged row a p.checks) (call-sound row F a t (T_true (F.sound (length a) t) s) c k) }
    where
      p : Plan
      p = plan row (F.view t) c

      asked-sound : (c : Call) → Asks c → NoneDue (reasons row F a t c) → T (F.sound (length a) t)
      asked-sound sets_up k n = absurd k
      asked-sound (grants m) k n = unrefuted (F.sound (length a) t) n.0
      asked-sound (grants_aligned m b) k n = unrefuted (F.sound (length a) t) n.0
      asked-sound (releases h) k n = unrefuted (F.sound (length a) t) n.0
      asked-sound (resizes_in_place h m) k n = unrefuted (F.sound (length a) t) n.0
      asked-sound (moves h m) k n = unrefuted (F.sound (length a) t) n.0
      asked-sound (measures h) k n = unrefuted (F.sound (length a) t) n.0
      asked-sound reports k n = unrefuted (F.sound (length a) t) n.0
      asked-sound (grants_list total cap places ns) k n = unrefuted (F.sound (length a) t) n.0

      intact : (d : Damage) → call_by row F a t c ≡ unless d (applied F a p) (λ r. keeps (refusal r) a t) → call_by row F a t c ≡ applied F a p
      intact (Ok tt) e = e
      intact (Err r) e = absurd (refuses r (ap (λ r. r.answer.number) (sym e) ∙ z))

  pub set_up_accepted : (call_by row F a t sets_up).answer.number ≡ 0 → T (set_up_right_by row F a t)
  set_up_accepted z = unrefuted (set_up_right_by row F a t) (none-due (reasons row F a t sets_up) _ (demand1 row pos F L a t sets_up).number z).0

  -- its tables are sound for the arena that it was given, and it leaves one of the same length
  pub record Leaves (r : Outcome F.Kept) : Type 0 where
    pub tables : T (F.sound (length a) r.kept)
    pub long : length r.arena ≡ length a

  -- on sound tables, whether it is accepted or not
  pub sound-leaves : T (F.sound (length a) t) → (c : Call) → Leaves (call_by row F a t c)
  sound-leaves h c =
      let P : Pool = F.view t in
      let (s, e) = L.only (length a) t h in
      let k : Standing row pos (length a) a refl P s (step row a P c) = step_stands row pos (length a) a refl P s c in
      subst Leaves (sym (ap (λ u. call_by row F a u c) e ∙ call_step row F L a P s c))
      (record { tables = L.right (length a) (step row a P c).kept k.stands; long = k.long })

  leaves : (c : Call) → (call_by row F a t c).answer.number ≡ 0 → Leaves (call_by row F a t c)
  unfolding call_by
  leaves =
      by_call (λ c. (call_by row F a t c).answer.number ≡ 0 → Leaves (call_by row F a t c))
      (λ z.
      let h : T (set_up_right_by row F a t) = set_up_accepted z in
      subst Leaves (sym (set_up-done row F a t h)) (record { tables = set_up-sound row F a t h L; long = zeros-length (length a) }))
      (λ c k z. sound-leaves (accepted c k z).sound-tables c)

pub leaves-sound : (row : ℕ) → 0 < row → (F : Form) → FormLaws row F → LeavesSound row F
leaves-sound row pos F L a t c z =
    let l : Leaves row pos F L a t (call_by row F a t c) = leaves row pos F L a t c z in
    subst (λ n. T (F.sound n (call_by row F a t c).kept)) (sym l.long) l.tables

-- ---- the blocks that release and measure accept

module _ (row : ℕ) (pos : 0 < row) (F : Form) (L : FormLaws row F) (a : List ℕ) (t : F.Kept) (s : T (F.sound (length a) t)) where
  abbrev P : Pool
  P = F.view t

  w : T (well_formed P)
  w = (L.only (length a) t s).0.formed

  -- where no reason of the block of a handle is due, it is live and intact, and the handle is its present one
  pub found_intact : (h : ℕ) (rs : List Reason) → NoneDue (block_reasons row a P h rs) → (p : Place) × demand2.Intact row a P h p
  found_intact h rs n = whole (lookup row P o) refl n
    where
      o : ℕ
      o = start_of h

      whole : (r : Option Place) → lookup row P o ≡ r → NoneDue (block_reasons row a P h rs) → (p : Place) × demand2.Intact row a P h p
      whole None e (n₄, _) = absurd (n₄ (λ p i. none-starts row pos P o p w e i))
      whole (Some p) e (_, (n₅, (n₁₀, (n₆, (n₇, _))))) =
          let i : StartsAt row P o p = found_starts row pos P o p e in
          let l : LiveAt row P o p = record { here = i; live = unrefuted (is_live p.state) (λ d. n₅ (p, i, d)) } in
          let m : T (header_due row a p) = unrefuted (header_due row a p) (λ d. n₆ (p, l, d)) in (
            p,
            record {
              live = l;
              present = same_number (handle row p) h (λ d. n₁₀ (p, l, d));
              header = m;
              guard = unrefuted (guard_due row a p) (λ d. n₇ (p, l, m, d));
            },
          )

  -- and of such a block none is due
  intact_none : (h : ℕ) (p : Place) → demand2.Intact row a P h p → NoneDue (block_reasons row a P h [])
  intact_none h p i =
      let o : ℕ = start_of h in
      let alike : (M : Place → Bool) (q : Place) → StartsAt row P o q → T (M p) → T (M q) = λ M q g. starts_alike row pos P o M p q w i.live.here g in (
        λ d. d p i.live.here,
        (
          λ (q, g, d). T_not (is_live q.state) d (alike (λ z. is_live z.state) q g i.live.live),
          (
            λ (q, l, d). d (subst (λ z. handle row z ≡ h) (starts-same row pos P o p q w i.live.here l.here) i.present),
            (
              λ (q, l, d). T_not (header_due row a q) d (alike (header_due row a) q l.here i.header),
              (λ (q, l, _, d). T_not (guard_due row a q) d (alike (guard_due row a) q l.here i.guard), tt),
            ),
          ),
        ),
      )

  -- the number of a call on the block of a handle is 0 exactly if it is the present one of a live, intact block
  exactly : (h k : ℕ) → FirstDue (unsound_reason row F a t ∷ block_reasons row a P h []) k → (k ≡ 0) ↔ ((p : Place) × demand2.Intact row a P h p)
  exactly h k d =
      let all : List Reason = unsound_reason row F a t ∷ block_reasons row a P h [] in
      (λ z. found_intact h [] (none-due all k d z).1, λ (p, i). due-none all k d (λ d. T_not (F.sound (length a) t) d s, intact_none h p i))

  -- that of a resize in place is 11 exactly if moreover the block's slot does not serve the size
  in_place_eleven : (h n k : ℕ) → FirstDue (unsound_reason row F a t ∷ new_size_reasons row a P h n (when NotInPlace (NotServed row P h n))) k
      → (k ≡ 11) ↔ ((p : Place) × demand2.Intact row a P h p × Outgrows p n)
  in_place_eleven h n k d = (
    λ e.
        let ((n₂, (n₃, m)), (q, l, x)) = due_last before r k d e tt in
        let (p, i) = found_intact h [] m in
        let y : q ≡ p = starts-same row pos P o q p w l.here i.live.here in (
          p,
          i,
          record {
            small = not_large (sized p) (λ g. n₃ (inr (p, i.live, g)));
            fails = subst (λ (q : Place). (room q < n) ⊎ (Near q.cls (sized q) → ⊥)) y (by_size q x (leb n (room q)) refl);
          },
        ),
    λ (p, i, v). last_due before r k d (
      λ d. T_not (F.sound (length a) t) d s,
      (
        ⊎_elim (λ g. omega (arith, g, v.small))
            (λ (q, l, g). omega (arith, subst (λ (q : Place). size_limit ≤ sized q) (starts-same row pos P o q p w l.here i.live.here) g, v.small)),
        intact_none h p i,
      ),
    ) (p, i.live, λ u. ⊎_elim (λ g. omega (arith, g, u.fits)) (λ g. g u.near) v.fails),
  )
    where
      o : ℕ
      o = start_of h

      before : List Reason
      before = unsound_reason row F a t ∷ when TooLarge (TooLargeAt row P h n) ∷ block_reasons row a P h []

      r : Reason
      r = when NotInPlace (NotServed row P h n)

      room : Place → ℕ
      room q = slot_bytes q.cls - 4 - 16 * disp q.state

      sized : Place → ℕ
      sized q = n + (align_of (align q.state) - 16)

      not_large : (x : ℕ) → (size_limit ≤ x → ⊥) → x < size_limit
      not_large x f = omega (arith, f)

      by_size : (q : Place) → (StaysInPlace q n → ⊥) → (b : Bool) → leb n (room q) ≡ b → (room q < n) ⊎ (Near q.cls (sized q) → ⊥)
      by_size q x true e = inr (λ u. x (record { fits = leb-true n (room q) e; near = u }))
      by_size q x false e = inl (leb-false n (room q) e)

  -- the size of an intact block
  measured : (h : ℕ) (p : Place) → demand2.Intact row a P h p → (call_by row F a t (measures h)).answer.values ≡ size p.state ∷ []
  unfolding call_by checked_by carried_by unless plan damage_in choose
  measured h p i =
      rw (
        T_true (F.sound (length a) t) s,
        starts_found row pos P (start_of h) p w i.live.here,
        T_true (is_live p.state) i.live.live,
        eq-eqb (h % 16) (use_bits (count p.state)) ((by_bits row p h i.live.here.starts).0 i.present),
        T_true (header_due row a p) i.header,
        T_true (guard_due row a p) i.guard,
      )

pub releases_exactly : (row : ℕ) → 0 < row → (F : Form) → FormLaws row F → ReleasesExactly row F
releases_exactly row pos F L a t h s = exactly row pos F L a t s h _ (demand1 row pos F L a t (releases h)).number

pub measures_exactly : (row : ℕ) → 0 < row → (F : Form) → FormLaws row F → MeasuresExactly row F
measures_exactly row pos F L a t h s =
    (exactly row pos F L a t s h _ (demand1 row pos F L a t (measures h)).number, λ p i. measured row pos F L a t s h p i)

pub in_place_exactly : (row : ℕ) → 0 < row → (F : Form) → FormLaws row F → InPlaceExactly row F
in_place_exactly row pos F L a t h n s = in_place_eleven row pos F L a t s h n _ (demand1 row pos F L a t (resizes_in_place h n)).number

-- ---- what a grant refuses, and what it gives

pub grants_exactly : (row : ℕ) → 0 < row → (F : Form) → FormLaws row F → GrantsExactly row F
grants_exactly row pos F L a t n = (
  why d,
  λ x e. let (n₂, (n₃, (n₈, _))) = none-due (reasons row F a t (grants n)) k d e in ⊎_elim n₃ (⊎_elim n₂ n₈) x,
)
  where
    k : ℕ
    k = (call_by row F a t (grants n)).answer.number

    d : FirstDue (reasons row F a t (grants n)) k
    d = (demand1 row pos F L a t (grants n)).number

    why : FirstDue (reasons row F a t (grants n)) k → (k ≡ 0 → ⊥)
        → (size_limit ≤ n) ⊎ (T (not (F.sound (length a) t)) ⊎ NoPlace row (F.view t) (class_of n))
    why (inl (_, x)) z = inr (inl x)
    why (inr (_, inl (_, x))) z = inl x
    why (inr (_, inr (_, inl (_, x)))) z = inr (inr x)
    why (inr (_, inr (_, inr (_, e)))) z = absurd (z e)

-- ---- a refill is document 01's

turns_ready : (x : Slot) → TurnsReady x (turn_ready x)
turns_ready Fresh = record { waits = λ w. absurd w; stays = λ _. refl }
turns_ready (Idle true k d) = record { waits = λ w. absurd w; stays = λ _. refl }
turns_ready (Idle false k d) = record { waits = λ _. refl; stays = λ s. absurd s }
turns_ready (Live a) = record { waits = λ w. absurd w; stays = λ _. refl }

refilled : (ss : List Slot) → Refilled ss (refill ss)
unfolding refill
refilled ss = record {
  some_ready = λ t. choose-true (any is_ready ss) ss (map turn_ready ss) (T_true (any is_ready ss) t);
  none_ready = λ t.
      let e : refill ss ≡ map turn_ready ss = choose-false (any is_ready ss) ss (map turn_ready ss) (none_any is_ready ss t) in (
        ap length e ∙ length-map ss turn_ready,
        λ i. subst (TurnsReady (get_or ss i Fresh)) (sym (ap (λ l. get_or l i Fresh) e ∙ get_or-map turn_ready ss i Fresh)) (turns_ready (get_or ss i Fresh)),
      );
}

-- ---- what a grant leaves

-- a block that a call grants with the code k is where and what document 01 says
module _ (row : ℕ) (pos : 0 < row) (F : Form) (L : FormLaws row F) (a : List ℕ) (t : F.Kept) (asks : Call) (k n : ℕ) where
  abbrev S : Pool
  S = F.view t

  abbrev c : ℕ
  c = class_of (enlarged k n)

  pub granted_by : Stands row (length a) S → (q : Place) → Askable k n → reserve row S k n ≡ Some q
      → call_by row F a t asks ≡ applied F a (grant_at row S (Some q)) → GrantedBy row F a t asks k n c q
  unfolding grant_in grant_slot enframe
  granted_by y q h e l =
      let w : T (well_formed S) = y.formed in
      let v : Served row S k n q = served row S k n q w e in
      let s : Site = v.at in
      let b : q.before ≡ s.before = ap (λ p. p.before) v.place in
      let f : q.after ≡ s.after = ap (λ p. p.after) v.place in
      let x : disp q.state ≡ displaced c k n (beginning row q) (count v.taken.old) = ap disp v.taken.state in
      let live : T (is_live q.state) = reserve-live row S k n q v in
      let made : Granted row S k n q = reserve_formed row S k n q w h e in
      let long : length a ≡ row * rows row (pool_of q) = y.long ∙ ap (λ j. row * j) (sym made.long) in
      let z : (call_by row F a t asks).arena ≡ put (owned row q) (frame q.cls (slot_number q) (disp q.state) (size q.state)) a = ap (λ r. r.arena) l in
      record {
        slots = s.slots;
        served =
            ⊎_elim (λ o. inl (record {
              there = o.there.split ∙ ap₂ (λ X Y. X ++ (group c s.slots ∷ Y)) (sym b) (sym f);
              not_live = o.there.room;
              lowest = subst (λ X. AllLive X c) (sym b) o.lowest;
            }))
            (λ o. inr (record {
              none = o.full;
              there = o.there.split ∙ ap₂ (λ X Y. X ++ (fresh_pool (rows_of row c) ++ Y)) (sym b) (sym f);
              fresh = o.there.slots;
              lowest = λ W Z e. subst (λ X. rows row X ≤ rows row W) (sym b) (o.lowest W Z e);
            }))
            (site-lowest row S c s v.found);
        old = v.taken.old;
        refilled = subst (Refilled s.slots) v.taken.slots (refilled s.slots);
        ready = v.taken.ready;
        lowest = first-lowest q.lower v.taken.old q.upper (v.taken.number ∙ ap (first is_ready) v.taken.slots);
        cls = ap (λ p. p.cls) v.place;
        state = v.taken.state ∙ ap (λ d. Live (record { count = (count v.taken.old + 1) % 256; disp = d; size = n; align = k })) (sym x);
        displaced = λ z. x ∙ choose-true (leb k ordinary) _ _ (le-leb k ordinary (omega (arith, z)));
        value = ap (λ r. r.answer.values) l;
        bits = ap (λ i. start row q + use_bits i) (ap count v.taken.state) ∙ ap (λ i. start row q + i) (stepped_bits (count v.taken.old));
        due = record {
          live = record {
            here = record {
              slotted = record {
                pool = sym (ap (λ r. F.view r.kept) l ∙ L.says (pool_of q) made.formed);
                granted_once = live-granted q.state live;
              };
              starts = sym (start_cleared row (whole_units row (length a) y.lawful) q);
            };
            live = live;
          };
          present = refl;
          header = subst (λ b. T (header_due row b q)) (sym z) (laid_header row pos a q made.formed long);
          guard = subst (λ b. T (guard_due row b q)) (sym z) (laid_guard row pos a q made.formed long);
        };
        bytes = subst (λ b. LaidOut row a b q) (sym z) (laid_out row pos a q made.formed long);
      }

pub grants_as_said : (row : ℕ) → 0 < row → (F : Form) → FormLaws row F → GrantsAsSaid row F
unfolding plan
grants_as_said row pos F L a t n z =
    let y : Accepted row pos F L a t (grants n) = accepted row pos F L a t (grants n) tt z in
    on_grant row pos (F.view t)
    (λ p. p.answer.number ≡ 0 → call_by row F a t (grants n) ≡ applied F a p → (q : Place) × GrantedBy row F a t (grants n) ordinary n (class_of n) q)
    (λ r z. absurd (refuses r z)) ordinary n (lit≤ tt) (lit≤ tt)
    (λ q h e _ l. (q, granted_by row pos F L a t (grants n) ordinary n (L.only (length a) t y.sound-tables).0 q h e l))
    (ap (λ (r : Outcome F.Kept). r.answer.number) (sym y.left) ∙ z) y.left

-- ---- live blocks never share a byte

module _ (row : ℕ) (pos : 0 < row) where
  -- a byte of a block is one that its slot owns
  in_slot : (p : Place) (i : ℕ) → InBlock row p i → Owns row p i
  in_slot p i b = record { from = omega (arith, b.from); to = b.to }

  pub never_shared : (F : Form) → FormLaws row F → NeverShared row F
  never_shared F L n t h = record {
    shared = λ p q i e f _ _ b d. owned_unique row pos q p i (of q f) (e ∙ sym f) (in_slot q i d) (in_slot p i b);
    inside = λ p i e _ b.
        omega (arith, b.to, owned_inside row pos p (of p e), ap (λ P. row * rows row P) e);
    whole = λ p i e _ l u. record {
      from = omega arith;
      to = let f : Fits p = fits p (of p e) in omega (arith, disp_inside p.cls p.state f.class f.state);
    };
  }
    where
      of : (p : Place) → pool_of p ≡ F.view t → T (well_formed (pool_of p))
      of p e = subst (λ P. T (well_formed P)) (sym e) (L.only n t h).0.formed
