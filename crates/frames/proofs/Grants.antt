-- The grants of a list, one after the other, in any layout.
use Rattle.mem.proofs.Prelude.{◌∙◌, ◌≡◌, sym, ap, refl, true, false, Some, None, Option, List, [], ◌∷◌, map, ◌+◌, ℕ, ◌<◌, ◌≤◌, suc, add-one, arith, is_some}
use Rattle.mem.proofs.Prelude.{length, drop, get_or, set}
use Rattle.mem.specs.Bytes.{put}
use Rattle.mem.proofs.Laws.{put-nil, put-cons}
use Rattle.classes.specs.Alignments.{ordinary}
use Rattle.model.specs.State.{Pool, Place, pool_of, handle}
use Rattle.model.specs.Plans.{reserve, enframe, placed, placed_by, reserve_all, pool_after}
use Rattle.model.specs.Tables.{Layout, encode_by, view_by}
use Rattle.model.specs.Calls.{written}
use Rattle.model.proofs.Tables.{view-encode}
use Rattle.model.proofs.Reserve.{plain, reserve_formed}
use Rattle.model.proofs.Lists.{small, small_at, all_placed, next-placed}
use Rattle.rows.specs.Rows.{Lent}
use Rattle.rows.proofs.Rooms.{facts}
use Rattle.frames.specs.Blocks.{next_room_by}
use Rattle.frames.specs.Grants.{granted, handle_of, next_arena}
use Rattle.frames.proofs.Moves.{reserve-leaves}

-- the places of a list that fits
granted-next : (q : Place) (o w : Option (List Place)) → placed q o ≡ w → is_some w ≡ true → (granted w ≡ q ∷ granted o) × (is_some o ≡ true)
granted-next q None w e h = let z : false ≡ true = ap is_some e ∙ h in let y : ◌≡◌ {A = ℕ} 0 1 = cc in absurd (omega arith)
granted-next q (Some qs) w e h = (sym (ap granted e), refl)

module _ (L : Layout) (row : ℕ) (ns A : List ℕ) (Q : Pool) (M : List ℕ) where
  -- what is left to do: from arena a, room t and list l on, the sizes from place i on make arena A, pool Q and list M
  pub record ToGo (i : ℕ) (a t l : List ℕ) : Type 0 where
    pub lent : Lent L row (length a) t
    pub fits : is_some (reserve_all row (view_by L row t) (drop i ns)) ≡ true
    pub arena : written a (map (enframe row) (granted (reserve_all row (view_by L row t) (drop i ns)))) ≡ A
    pub pool : pool_after (view_by L row t) (granted (reserve_all row (view_by L row t) (drop i ns))) ≡ Q
    pub list : put i (map (handle row) (granted (reserve_all row (view_by L row t) (drop i ns)))) l ≡ M

  -- nothing is left
  pub all_done : (i : ℕ) (a t l : List ℕ) → length ns ≤ i → ToGo i a t l → (a ≡ A) × (t ≡ encode_by L row Q) × (l ≡ M) × (view_by L row t ≡ Q)
  all_done i a t l h g =
      let e : reserve_all row (view_by L row t) (drop i ns) ≡ Some [] = all_placed row (view_by L row t) ns i h in
      let v : view_by L row t ≡ Q = sym (ap (λ o. pool_after (view_by L row t) (granted o)) e) ∙ g.pool in (
        sym (ap (λ o. written a (map (enframe row) (granted o))) e) ∙ g.arena,
        (facts g.lent).form ∙ ap (encode_by L row) v,
        sym (put-nil i l) ∙ sym (ap (λ o. put i (map (handle row) (granted o)) l) e) ∙ g.list,
        v,
      )

  -- one grant further, and its place
  pub record Further (i : ℕ) (t b u l : List ℕ) : Type 0 where
    pub place : Place
    pub found : reserve row (view_by L row t) ordinary (get_or ns i 0) ≡ Some place
    pub says : view_by L row u ≡ pool_of place
    pub rest : ToGo (i + 1) b u l

  -- the handle of a place that was found
  granted_handle : (k : ℕ) (q : Place) → Some k ≡ Some (handle row q) → k ≡ handle row q
  granted_handle k q e = cc

  module _ (i : ℕ) (a t l : List ℕ) (h : i < length ns) (g : ToGo i a t l) where
    whole : (o : Option Place) → reserve row (view_by L row t) ordinary (get_or ns i 0) ≡ o
        → placed_by o (λ q. reserve_all row (pool_of q) (drop (i + 1) ns)) ≡ reserve_all row (view_by L row t) (drop i ns)
    whole o r = sym (next-placed row (view_by L row t) ns i h ∙ ap (λ o. placed_by o (λ q. reserve_all row (pool_of q) (drop (i + 1) ns))) r)

    -- the next size has a place
    pub one_placed : (q : Place) × (reserve row (view_by L row t) ordinary (get_or ns i 0) ≡ Some q)
    one_placed = go (reserve row (view_by L row t) ordinary (get_or ns i 0)) refl
      where
        go : (o : Option Place) → reserve row (view_by L row t) ordinary (get_or ns i 0) ≡ o → (q : Place) × (reserve row (view_by L row t) ordinary (get_or ns i 0) ≡ Some q)
        go (Some q) r = (q, r)
        go None r =
            let z : false ≡ true = ap is_some (whole None r) ∙ g.fits in
            let y : ◌≡◌ {A = ℕ} 0 1 = cc in absurd (omega arith)

  pub one_further : small ns ≡ true → (i : ℕ) (a t l : List ℕ) → i < length ns → ToGo i a t l → (b u : List ℕ) (k : ℕ)
      → Some k ≡ handle_of row (reserve row (view_by L row t) ordinary (get_or ns i 0)) → b ≡ next_arena row a (reserve row (view_by L row t) ordinary (get_or ns i 0))
      → u ≡ next_room_by L row t (reserve row (view_by L row t) ordinary (get_or ns i 0)) → length b ≡ length a
      → Further i t b u (set l i k)
  one_further s i a t l h g b u k ek eb eu el = next (one_placed i a t l h g).0 (one_placed i a t l h g).1
    where
      n : ℕ
      n = get_or ns i 0

      next : (q : Place) → reserve row (view_by L row t) ordinary n ≡ Some q → Further i t b u (set l i k)
      next q r =
          let e : u ≡ encode_by L row (pool_of q) = eu ∙ ap (next_room_by L row t) r in
          let w = reserve_formed row (view_by L row t) ordinary n q (facts g.lent).formed (plain (small_at ns i s h)) r in
          let says : view_by L row u ≡ pool_of q = ap (view_by L row) e ∙ view-encode g.lent.laws row g.lent.pos (pool_of q) w.formed in
          let qs : List Place = granted (reserve_all row (pool_of q) (drop (i + 1) ns)) in
          let m : (granted (reserve_all row (view_by L row t) (drop i ns)) ≡ q ∷ qs) × (is_some (reserve_all row (pool_of q) (drop (i + 1) ns)) ≡ true) =
          granted-next q (reserve_all row (pool_of q) (drop (i + 1) ns)) (reserve_all row (view_by L row t) (drop i ns)) (whole i a t l h g (Some q) r) g.fits in
          record {
            place = q;
            found = r;
            says = says;
            rest = record {
              lent = rw (e, el) (reserve-leaves g.lent ordinary n (plain (small_at ns i s h)) q r).room;
              fits = rw says m.1;
              arena =
                  rw says
                  (ap (λ z. written z (map (enframe row) qs)) (eb ∙ ap (next_arena row a) r)
                  ∙ sym (ap (λ z. written a (map (enframe row) z)) m.0) ∙ g.arena);
              pool = rw says (sym (ap (λ z. pool_after (view_by L row t) z) m.0) ∙ g.pool);
              list =
                  rw says
                  (ap (λ z. put z (map (handle row) qs) (set l i k)) (add-one i)
                  ∙ ap (λ z. put (suc i) (map (handle row) qs) (set l i z)) (granted_handle k q (ek ∙ ap (handle_of row) r))
                  ∙ sym (put-cons i (handle row q) (map (handle row) qs) l) ∙ sym (ap (λ z. put i (map (handle row) z) l) m.0) ∙ g.list);
            };
          }
