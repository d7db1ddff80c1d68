-- Gather lists: the planner's proposals are accepted, and a list is its grants, all of them or none.
use Rattle.mem.proofs.Prelude.{◌∙◌, ◌≡◌, sym, ap, refl, subst, true, Bool, false, ◌&&◌, ◌||◌, Some, None, Option, List, [], ◌∷◌, map, ℕ, ◌<◌, ◌≤◌, ◌*◌}
use Rattle.mem.proofs.Prelude.{arith, T, eqb, leb, eqb→eq, leb→le, ltb→lt, lt-leb, le→leb, lt→ltb, length, get_or}
use mathlib.Core.Logic.{◌↔◌}
use Rattle.mem.specs.Lists.{any, every, sum}
use Rattle.mem.proofs.Tests.{T_true, true-T, and_left, and_right, and_both, eq→eqb, every_in, every_by, choose-true, choose-false, choose_case}
use Rattle.mem.proofs.Laws.{put-length}
use Rattle.classes.specs.Classes.{size_limit}
use Rattle.classes.specs.Alignments.{ordinary}
use Rattle.model.specs.declared.Refusal.TheVariants.{NoRoom, TooLong}
use Rattle.model.specs.State.{Pool, Place, disp, size, pool_of, slot_number, rows, owned, handle}
use Rattle.model.specs.Blocks.{frame}
use Rattle.model.specs.Answers.{Answer, done, list_done, refusal}
use Rattle.model.specs.Proposals.{entries, cap_right, size_right, accepts, plannable, full_caps, planned}
use Rattle.model.specs.Plans.{Plan, reserve, enframe, grant_at, grant_as, placed, placed_by, reserve_all, pool_after, grant_all_at, grant_list}
use Rattle.model.specs.Plans.{grants, grants_list, plan}
use Rattle.model.specs.Tables.{arena_right}
use Rattle.model.specs.Calls.{Form, FormLaws, Outcome, applied, carried_by, call_by, write, written}
use Rattle.model.proofs.Fresh.{whole_units}
use Rattle.model.proofs.Reserve.{plain, Granted, reserve_formed}
use Rattle.model.proofs.Calls.{call-sound, same_room, carried_whole}
use Rattle.model.proofs.Lists.{small, small-first, small_rest, accepts-small, places-counted, on_list}
use Rattle.model.proofs.Proposals.{planned_accepted, accepts-plannable, planned_fewest}
use Rattle.claims.specs.Lists.{Plannable, Proposal, ChecksExactly, PlansAsSaid, granting, AsGrants, ListsAsGrants, ListsExactly}
use Rattle.claims.proofs.Cases.{refuses}
use Rattle.claims.proofs.Demand2.{Accepted, accepted}

-- ---- the check

-- "a cap from 1 to 131,051", and back
cap_range : (cap : ℕ) → T (cap_right cap) ↔ ((1 ≤ cap) × (cap ≤ 131051))
unfolding cap_right size_limit
cap_range cap = (
  λ t. (leb→le 1 cap (and_left (leb 1 cap) _ t), let l : cap < 131052 = ltb→lt cap 131052 (and_right (leb 1 cap) _ t) in omega arith),
  λ (l, m). and_both (leb 1 cap) _ (le→leb 1 cap l) (lt→ltb cap 131052 (omega arith)),
)

pub checks_exactly : ChecksExactly
unfolding accepts size_right entries
checks_exactly total cap ns = (there, back)
  where
    there : T (accepts total cap ns) → Proposal total cap ns
    there t =
        let (l, m) = (cap_range cap).0 (and_left (cap_right cap) _ t) in
        let each : T (every (size_right cap) ns) = search (and_left, and_right) in
        record {
          least = l;
          most = m;
          few = leb→le (length ns) 17 (search (and_left, and_right));
          sizes = λ i h.
              let k : T (size_right cap (get_or ns i 0)) = every_in (size_right cap) ns 0 each i h in
              (leb→le 1 (get_or ns i 0) (and_left (leb 1 (get_or ns i 0)) _ k), leb→le (get_or ns i 0) cap (and_right (leb 1 (get_or ns i 0)) _ k));
          adds_up = eqb→eq (sum (λ n. n) ns) total (search (and_left, and_right));
        }

    back : Proposal total cap ns → T (accepts total cap ns)
    back r =
        let c : T (cap_right cap) = (cap_range cap).1 (r.least, r.most) in
        let f : T (leb (length ns) 17) = le→leb (length ns) 17 r.few in
        let s : T (every (size_right cap) ns) =
        every_by (size_right cap) ns 0
        (λ i h. let (l, m) = r.sizes i h in and_both (leb 1 (get_or ns i 0)) _ (le→leb 1 (get_or ns i 0) l) (le→leb (get_or ns i 0) cap m)) in
        let e : T (eqb (sum (λ n. n) ns) total) = eq→eqb (sum (λ n. n) ns) total r.adds_up in
        search and_both

-- ---- the planner

plannable_exactly : (total cap : ℕ) → T (plannable total cap) ↔ Plannable total cap
unfolding plannable entries
plannable_exactly total cap = (
  λ t.
      let (l, m) = (cap_range cap).0 (and_left (cap_right cap) _ t) in
      record { least = l; most = m; within = leb→le total (17 * cap) (and_right (cap_right cap) _ t) },
  λ r. and_both (cap_right cap) _ ((cap_range cap).1 (r.least, r.most)) (le→leb total (17 * cap) r.within),
)

pub plans_as_said : PlansAsSaid
unfolding planned
plans_as_said total cap = record {
  found = λ p. ap (λ (r : Answer). r.number) (can (exactly.1 p));
  accepted = λ p. subst (λ (r : Answer). T (accepts total cap r.lent)) (sym (can (exactly.1 p))) (planned_accepted total cap (exactly.1 p));
  too_long = λ n. let e = cannot (plannable total cap) refl (λ t. n (exactly.0 t)) in (ap (λ (r : Answer). r.number) e, ap (λ (r : Answer). r.lent) e);
  counted = choose_case (λ (r : Answer). r.values ≡ length r.lent ∷ []) (plannable total cap) (list_done (full_caps entries total cap))
      (refusal TooLong) (λ _. refl) (λ _. refl);
  fewest = λ ns t. subst (λ (r : Answer). length r.lent ≤ length ns) (sym (can (accepts-plannable total cap ns t))) (planned_fewest total cap ns t);
  only-plannable = λ ns t. exactly.0 (accepts-plannable total cap ns t);
}
  where
    exactly : T (plannable total cap) ↔ Plannable total cap
    exactly = plannable_exactly total cap

    can : T (plannable total cap) → planned total cap ≡ list_done (full_caps entries total cap)
    can t = choose-true (plannable total cap) _ _ (T_true (plannable total cap) t)

    cannot : (b : Bool) → plannable total cap ≡ b → (T (plannable total cap) → ⊥) → planned total cap ≡ refusal TooLong
    cannot true e n = absurd (n (true-T (plannable total cap) e))
    cannot false e n = choose-false (plannable total cap) _ _ e

-- ---- the list as grants

-- whether an answer is 8
abbrev eight : Answer → Bool
eight r = eqb r.number 8

none-eight : (vs : List ℕ) → T (any eight (map (λ h. done (h ∷ [])) vs)) → ⊥
none-eight [] t = t
none-eight (v ∷ vs) t = none-eight vs t

module _ (row : ℕ) (F : Form) where
  -- what grants one after the other come to from a pool P, by the places that they take
  abbrev Granting : Pool → List ℕ → F.Kept → List ℕ → Option (List Place) → Type 0
  Granting P a t ns None = T (any eight (granting row F a t ns).answers)
  Granting P a t ns (Some qs) =
      ((granting row F a t ns).answers ≡ map (λ h. done (h ∷ [])) (map (handle row) qs))
      × ((granting row F a t ns).arena ≡ written a (map (enframe row) qs)) × ((granting row F a t ns).kept ≡ F.encode (pool_after P qs))

  module _ (a : List ℕ) (t : F.Kept) (n : ℕ) (s : F.sound (length a) t ≡ true) (h : n < size_limit) where
    granted-call : (o : Option Place) → reserve row (F.view t) ordinary n ≡ o
        → call_by row F a t (grants n) ≡ carried_by row F a t (grant_at row (F.view t) o)
    unfolding plan grant_as
    granted-call o e =
        call-sound row F a t s (grants n) tt
        ∙ ap (carried_by row F a t) (choose-false (leb size_limit n) _ _ (lt-leb size_limit n h) ∙ ap (grant_at row (F.view t)) e)

    taken-call : (q : Place) → reserve row (F.view t) ordinary n ≡ Some q
        → call_by row F a t (grants n) ≡ applied F a (grant_at row (F.view t) (Some q))
    taken-call q e = granted-call (Some q) e ∙ carried_whole row F a t (grant_at row (F.view t) (Some q)) refl

    full_call : reserve row (F.view t) ordinary n ≡ None → (call_by row F a t (grants n)).answer ≡ refusal NoRoom
    full_call e = ap (λ (r : Outcome F.Kept). r.answer) (granted-call None e ∙ carried_whole row F a t (grant_at row (F.view t) None) refl)

  module _ (pos : 0 < row) (L : FormLaws row F) where
    grantings : (P : Pool) (a : List ℕ) (t : F.Kept) (ns : List ℕ) → F.view t ≡ P → F.sound (length a) t ≡ true → T (small ns)
        → Granting P a t ns (reserve_all row P ns)
    unfolding granting reserve_all enframe
    grantings P a t [] v s h = (refl, refl, sym (same_room row F a t s L) ∙ ap F.encode v)
    grantings P a t (n ∷ ns) v s h = go (reserve row P ordinary n) refl (λ Q b u. grantings Q b u ns)
      where
        small_n : n < size_limit
        small_n = small-first n ns h

        Later : Type 0
        Later = (Q : Pool) (b : List ℕ) (u : F.Kept) → F.view u ≡ Q → F.sound (length b) u ≡ true → T (small ns)
            → Granting Q b u ns (reserve_all row Q ns)

        lift : (q : Place) → call_by row F a t (grants n) ≡ applied F a (grant_at row (F.view t) (Some q))
            → (o : Option (List Place)) → Granting (pool_of q) (write a (enframe row q)) (F.encode (pool_of q)) ns o
            → Granting P a t (n ∷ ns) (placed q o)
        lift q c None k =
            subst (λ (r : Outcome F.Kept). T (eight r.answer || any eight (granting row F r.arena r.kept ns).answers)) (sym c) k
        lift q c (Some qs) k = (
          ap (λ (r : Outcome F.Kept). r.answer ∷ (granting row F r.arena r.kept ns).answers) c ∙ ap (λ l. done (handle row q ∷ []) ∷ l) k.0,
          ap (λ (r : Outcome F.Kept). (granting row F r.arena r.kept ns).arena) c ∙ k.1,
          ap (λ (r : Outcome F.Kept). (granting row F r.arena r.kept ns).kept) c ∙ k.2,
        )

        next : (q : Place) → reserve row P ordinary n ≡ Some q → Later → Granting P a t (n ∷ ns) (placed q (reserve_all row (pool_of q) ns))
        next q e k =
            let f = (L.only (length a) t (true-T (F.sound (length a) t) s)).0 in
            let r : reserve row (F.view t) ordinary n ≡ Some q = ap (λ P. reserve row P ordinary n) v ∙ e in
            let g : Granted row (F.view t) ordinary n q = reserve_formed row (F.view t) ordinary n q f.formed (plain small_n) r in
            let b : List ℕ = write a (enframe row q) in
            let l : length b ≡ length a = put-length (owned row q) (frame q.cls (slot_number q) (disp q.state) (size q.state)) a in
            let m : length b ≡ row * rows row (pool_of q) = l ∙ f.long ∙ ap (λ k. row * k) (sym g.long) in
            let u : T (F.sound (length b) (F.encode (pool_of q))) =
            L.right (length b) (pool_of q)
            (record {
              lawful = subst (λ k. T (arena_right row k)) (sym l) f.lawful;
              long = m;
              formed = g.formed;
              bounds = g.bounds (whole_units row (length a) f.lawful) f.bounds;
            }) in
            lift q (taken-call a t n s small_n q r) (reserve_all row (pool_of q) ns)
            (k (pool_of q) b (F.encode (pool_of q)) (L.says (pool_of q) g.formed) (T_true _ u) (small_rest n ns h))

        go : (o : Option Place) → reserve row P ordinary n ≡ o → Later → Granting P a t (n ∷ ns) (placed_by o (λ q. reserve_all row (pool_of q) ns))
        go None e k =
            let o : Outcome F.Kept = call_by row F a t (grants n) in
            subst (λ (r : Answer). T (eight r || any eight (granting row F o.arena o.kept ns).answers))
            (sym (full_call a t n s small_n (ap (λ P. reserve row P ordinary n) v ∙ e))) tt
        go (Some q) e k = next q e k

    pub lists_as_grants : ListsAsGrants row F
    unfolding plan
    lists_as_grants a t total cap places ns z =
        let c = grants_list total cap places ns in
        let y : Accepted row pos F L a t c = accepted row pos F L a t c tt z in
        let M : Plan → Type 0 = λ p. p.answer.number ≡ 0 → AsGrants row F ns (applied F a p) (granting row F a t ns) in
        subst (λ (r : Outcome F.Kept). AsGrants row F ns r (granting row F a t ns)) (sym y.left)
        (on_list row M (F.view t) total cap places ns (λ r e. absurd (refuses r e))
        (λ qs h e _.
        let s = T_true (F.sound (length a) t) y.sound-tables in
        let g = subst (Granting (F.view t) a t ns) e (grantings (F.view t) a t ns refl s h) in
        let w = (L.only (length a) t y.sound-tables).0.formed in
        record {
          entries = ap (λ k. k ∷ []) (places-counted row (F.view t) ns qs w h e);
          handles = g.0;
          arena = sym g.1;
          kept = sym g.2;
        })
        (ap (λ (r : Outcome F.Kept). r.answer.number) (sym y.left) ∙ z))

    pub lists_exactly : ListsExactly row F
    unfolding plan grant_list entries
    lists_exactly a t total cap places ns s l k = by_places (reserve_all row P ns) refl
      where
        P : Pool
        P = F.view t

        whole : (o : Option (List Place)) → reserve_all row P ns ≡ o
            → call_by row F a t (grants_list total cap places ns) ≡ carried_by row F a t (grant_all_at row P o)
        whole o e =
            call-sound row F a t (T_true (F.sound (length a) t) s) (grants_list total cap places ns) tt
            ∙ ap (carried_by row F a t)
            (choose-true (plannable total cap && leb entries places) _ _
            (T_true _ (and_both (plannable total cap) (leb entries places) (accepts-plannable total cap ns k) (le→leb entries places l)))
            ∙ choose-true (accepts total cap ns) _ _ (T_true (accepts total cap ns) k) ∙ ap (grant_all_at row P) e)

        by_places : (o : Option (List Place)) → reserve_all row P ns ≡ o
            → ((call_by row F a t (grants_list total cap places ns)).answer.number ≡ 8) ↔ T (any eight (granting row F a t ns).answers)
        by_places None e =
            let n = ap (λ (r : Outcome F.Kept). r.answer.number) (whole None e ∙ carried_whole row F a t (grant_all_at row P None) refl) in
            let g = subst (Granting P a t ns) e (grantings P a t ns refl (T_true (F.sound (length a) t) s) (accepts-small total cap ns k)) in
            ((λ _. g), λ _. n)
        by_places (Some qs) e =
            let n = ap (λ (r : Outcome F.Kept). r.answer.number) (whole (Some qs) e ∙ carried_whole row F a t (grant_all_at row P (Some qs)) refl) in
            let g = subst (Granting P a t ns) e (grantings P a t ns refl (T_true (F.sound (length a) t) s) (accepts-small total cap ns k)) in
            ((λ x. absurd (omega (arith, n, x))), λ x. absurd (none-eight (map (handle row) qs) (subst (λ l. T (any eight l)) g.0 x)))
