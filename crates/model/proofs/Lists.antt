-- A list that is granted is its grants, one after the other; the sizes of an accepted one are small.
use Rattle.mem.proofs.Prelude.{◌≡◌, ap, refl, subst, Bool, ◌&&◌, Some, None, Option, List, [], ◌∷◌, map, ℕ, ◌<◌, arith, T, eqb, leb, ltb, leb→le, ltb→lt, is_some}
use Rattle.mem.proofs.Prelude.{◌+◌, ◌≤◌, suc, true, add-one, lt→ltb, length, get_or, drop, drop-cons}
use lib.ListN.{drop_of_length-le}
use Rattle.mem.specs.Lists.{every, sum}
use Rattle.mem.proofs.Tests.{and_left, and_right, and_both, true-T, every_in, choose_case}
use Rattle.classes.specs.Classes.{size_limit}
use Rattle.classes.specs.Alignments.{ordinary}
use Rattle.model.specs.declared.Refusal.{Refusal}
use Rattle.model.specs.declared.Refusal.TheVariants.{NoRoom, TooLong, BadProposal}
use Rattle.model.specs.State.{Pool, Place, well_formed, pool_of, handle}
use Rattle.model.specs.Proposals.{entries, cap_right, size_right, accepts, plannable}
use Rattle.model.specs.Plans.{Plan, refused, reserve, placed, placed_by, reserve_all, grant_all_at, grant_list}
use Rattle.model.proofs.Reserve.{plain, reserve_formed}

-- sizes that a grant does not refuse with answer 3
abbrev pub small : List ℕ → Bool
small ns = every (λ n. ltb n size_limit) ns

pub small-first : (n : ℕ) (ns : List ℕ) → T (small (n ∷ ns)) → n < size_limit
small-first n ns h = ltb→lt n size_limit (and_left (ltb n size_limit) (small ns) h)

pub small_rest : (n : ℕ) (ns : List ℕ) → T (small (n ∷ ns)) → T (small ns)
small_rest n ns h = and_right (ltb n size_limit) (small ns) h

pub small_at : (ns : List ℕ) (i : ℕ) → small ns ≡ true → i < length ns → get_or ns i 0 < size_limit
small_at ns i e h = ltb→lt (get_or ns i 0) size_limit (every_in (λ n. ltb n size_limit) ns 0 (true-T (small ns) e) i h)

-- the sizes of an accepted proposal are small
pub accepts-small : (total cap : ℕ) (ns : List ℕ) → T (accepts total cap ns) → T (small ns)
unfolding accepts cap_right size_right
accepts-small total cap ns t =
    let c : T (cap_right cap) = and_left (cap_right cap) _ t in
    let h : cap < size_limit = ltb→lt cap size_limit (and_right (leb 1 cap) (ltb cap size_limit) c) in
    let u : T (every (size_right cap) ns && eqb (sum (λ n. n) ns) total) = and_right (leb (length ns) entries) _ (and_right (cap_right cap) _ t) in
    all h ns (and_left (every (size_right cap) ns) _ u)
  where
    all : cap < size_limit → (ns : List ℕ) → T (every (size_right cap) ns) → T (small ns)
    all h [] t = tt
    all h (n ∷ ns) t =
        let l : n < size_limit = omega (arith, h, leb→le n cap (and_right (leb 1 n) (leb n cap) (and_left (size_right cap n) (every (size_right cap) ns) t))) in
        and_both (ltb n size_limit) (small ns) (lt→ltb n size_limit l) (all h ns (and_right (size_right cap n) (every (size_right cap) ns) t))

-- and they are few
pub accepts_few : (total cap : ℕ) (ns : List ℕ) → T (accepts total cap ns) → length ns ≤ entries
unfolding accepts
accepts_few total cap ns t = leb→le (length ns) entries (and_left (leb (length ns) entries) _ (and_right (cap_right cap) _ t))

pub some-placed : (q : Place) (o : Option (List Place)) → is_some (placed q o) ≡ is_some o
some-placed q None = refl
some-placed q (Some qs) = refl

-- sizes from a place on: none are left, or one and those after it
module _ (row : ℕ) (P : Pool) (ns : List ℕ) (i : ℕ) where
  pub all_placed : length ns ≤ i → reserve_all row P (drop i ns) ≡ Some []
  unfolding reserve_all
  all_placed h = rw (drop_of_length-le ns h)

  pub next-placed : i < length ns
      → reserve_all row P (drop i ns) ≡ placed_by (reserve row P ordinary (get_or ns i 0)) (λ q. reserve_all row (pool_of q) (drop (i + 1) ns))
  unfolding reserve_all
  next-placed h = rw (add-one, drop-cons ns i 0 h)

module _ (row : ℕ) where
  -- a list that is granted, by its grants
  pub by_grants : (M : Pool → List ℕ → List Place → Type 0) → ((P : Pool) → M P [] [])
      → ((P : Pool) (n : ℕ) (ns : List ℕ) (q : Place) (qs : List Place) → T (well_formed P) → n < size_limit → reserve row P ordinary n ≡ Some q
      → M (pool_of q) ns qs
      → M P (n ∷ ns) (q ∷ qs))
      → (P : Pool) (ns : List ℕ) (qs : List Place) → T (well_formed P) → T (small ns) → reserve_all row P ns ≡ Some qs → M P ns qs
  unfolding reserve_all
  by_grants M nil step P [] [] w h e = nil P
  by_grants M nil step P [] (q ∷ qs) w h e = let z : ◌≡◌ {A = ℕ} 0 1 = cc in absurd (omega arith)
  by_grants M nil step P (n ∷ ns) qs w h e = first (reserve row P ordinary n) refl e (λ Q rs. by_grants M nil step Q ns rs)
    where
      Later : Type 0
      Later = (Q : Pool) (rs : List Place) → T (well_formed Q) → T (small ns) → reserve_all row Q ns ≡ Some rs → M Q ns rs

      rest : (q : Place) → reserve row P ordinary n ≡ Some q → (o : Option (List Place)) → reserve_all row (pool_of q) ns ≡ o → placed q o ≡ Some qs → Later
          → M P (n ∷ ns) qs
      rest q r None f e k = let z : ◌≡◌ {A = ℕ} 0 1 = cc in absurd (omega arith)
      rest q r (Some rs) f e k =
          let z : q ∷ rs ≡ qs = cc in
          let s : n < size_limit = small-first n ns h in
          subst (M P (n ∷ ns)) z (step P n ns q rs w s r (k (pool_of q) rs (reserve_formed row P ordinary n q w (plain s) r).formed (small_rest n ns h) f))

      first : (o : Option Place) → reserve row P ordinary n ≡ o → placed_by o (λ q. reserve_all row (pool_of q) ns) ≡ Some qs → Later → M P (n ∷ ns) qs
      first None r e k = let z : ◌≡◌ {A = ℕ} 0 1 = cc in absurd (omega arith)
      first (Some q) r e k = rest q r (reserve_all row (pool_of q) ns) refl e k

  -- a place for each size
  pub places-counted : (P : Pool) (ns : List ℕ) (qs : List Place) → T (well_formed P) → T (small ns) → reserve_all row P ns ≡ Some qs
      → length (map (handle row) qs) ≡ length ns
  places-counted = by_grants (λ P ns qs. length (map (handle row) qs) ≡ length ns) (λ P. refl) (λ P n ns q qs w h r k. ap suc k)

  -- what a list call does: it is refused, or all its sizes are granted
  pub on_list : (M : Plan → Type 0) (P : Pool) (total cap places : ℕ) (ns : List ℕ) → ((r : Refusal) → M (refused r P))
      → ((qs : List Place) → T (small ns) → reserve_all row P ns ≡ Some qs → M (grant_all_at row P (Some qs))) → M (grant_list row P total cap places ns)
  unfolding grant_list
  on_list M P total cap places ns refuse grant =
      choose_case M (plannable total cap && leb entries places) _ (refused TooLong P)
      (λ _. choose_case M (accepts total cap ns) (grant_all_at row P (reserve_all row P ns)) (refused BadProposal P)
      (λ e. go (accepts-small total cap ns (true-T (accepts total cap ns) e)) (reserve_all row P ns) refl) (λ _. refuse BadProposal))
      (λ _. refuse TooLong)
    where
      go : T (small ns) → (o : Option (List Place)) → reserve_all row P ns ≡ o → M (grant_all_at row P o)
      go h None e = refuse NoRoom
      go h (Some qs) e = grant qs h e
