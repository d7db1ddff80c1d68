-- What a release and a resize in place do to the totals.
use Rattle.mem.proofs.Prelude.{◌∙◌, ◌≡◌, sym, ap, refl, subst, true, false, Bool, List, ◌++◌, ◌∷◌, ℕ, ◌<◌, arith}
use Rattle.mem.specs.Lists.{choose, any, sum}
use Rattle.mem.specs.Bytes.{bit}
use Rattle.classes.specs.Classes.{rows_of, size_limit}
use Rattle.model.specs.declared.Totals.{Totals}
use Rattle.model.specs.State.{Place, group, is_ready, is_waiting, is_live, count, disp, size, align, pool_of}
use Rattle.model.specs.Plans.{release_at, resize_at, totals}
use Rattle.model.specs.Tables.{masks_layout, view}
use Rattle.model.proofs.Tables.{masks_laws, view-encode}
use Rattle.model.proofs.Rooms.{rows_append}
use Rattle.model.proofs.Counts.{Few, totals_few}
use Rattle.rows.specs.declared.Block.{Block}
use Rattle.rows.specs.Rows.{Holds}
use Rattle.totals.specs.Changes.{Small, Gives, Drops, Sizes}
use Rattle.totals.proofs.Laws.{given-small, dropped-small, sized-small, given-totals, dropped-totals, sized-totals}
use Rattle.changes.specs.declared.Left.TheVariants.{Kept, Dropped}
use Rattle.changes.specs.Changes.{left_as}

-- what is left of the group says whether another slot is live, and else what went with it
abbrev ready_in : Place → ℕ
ready_in p = sum (λ x. bit (is_ready x)) (p.lower ++ (p.state ∷ p.upper))

abbrev waiting_in : Place → ℕ
waiting_in p = sum (λ x. bit (is_waiting x)) (p.lower ++ (p.state ∷ p.upper))

pub kept_live : (p : Place) → Kept ≡ left_as p → any is_live (p.lower ++ p.upper) ≡ true
unfolding choose
kept_live p = go (any is_live (p.lower ++ p.upper))
  where
    go : (v : Bool) → Kept ≡ choose v Kept (Dropped (ready_in p) (waiting_in p)) → v ≡ true
    go true e = refl
    go false e = let z : ◌≡◌ {A = ℕ} 0 1 = cc in absurd (omega arith)

pub dropped-none : (p : Place) (r w : ℕ) → Dropped r w ≡ left_as p
    → (any is_live (p.lower ++ p.upper) ≡ false) × (r ≡ ready_in p) × (w ≡ waiting_in p)
unfolding choose
dropped-none p r w = go (any is_live (p.lower ++ p.upper))
  where
    go : (v : Bool) → Dropped r w ≡ choose v Kept (Dropped (ready_in p) (waiting_in p)) → (v ≡ false) × (r ≡ ready_in p) × (w ≡ waiting_in p)
    go true e = let z : ◌≡◌ {A = ℕ} 0 1 = cc in absurd (omega arith)
    go false e = let a : r ≡ ready_in p = cc in let b : w ≡ waiting_in p = cc in (refl, a, b)

module _ {row : ℕ} {t : List ℕ} {b : Block} {p : Place} (h : Holds masks_layout row t b p) (s : Totals) (e : s ≡ totals row (view row t)) where
  there : s ≡ totals row (pool_of p)
  there = e ∙ ap (totals row) (ap (view row) h.bytes ∙ view-encode masks_laws row h.pos (pool_of p) h.formed)

  few : Few s
  few = subst Few (sym there) (totals_few row h.pos (pool_of p) h.formed h.few)

  wide : b.alloc.size ≡ size p.state
  wide = ap (λ b. b.alloc.size) h.block

  class : b.class ≡ p.cls
  class = ap (λ b. b.class) h.block

  -- the slot waits
  pub given_counts : Kept ≡ left_as p → Gives b.alloc.size s (totals row (release_at row p).pool) × Small (totals row (release_at row p).pool)
  unfolding release_at choose
  given_counts k =
      let d : Gives b.alloc.size s (totals row (release_at row p).pool) =
      rw (kept_live p k, there, wide) (given-totals row p h.live) in
      (d, given-small b.alloc.size s (totals row (release_at row p).pool) d few)

  -- the group goes
  pub dropped_counts : (r w : ℕ) → Dropped r w ≡ left_as p
      → Drops b.alloc.size (rows_of row b.class) r w s (totals row (release_at row p).pool) × Small (totals row (release_at row p).pool)
  unfolding release_at choose
  dropped_counts r w k =
      let (n, er, ew) = dropped-none p r w k in
      let held = p.lower ++ (p.state ∷ p.upper) in
      let d : Drops b.alloc.size (rows_of row b.class) r w s (totals row (release_at row p).pool) =
      rw (n, there, wide, class, er, ew) (dropped-totals row p h.live n) in
      let l = rows_append row p.before (group p.cls held ∷ p.after) in (
        d,
        dropped-small b.alloc.size (rows_of row b.class) r w s (totals row (release_at row p).pool) d few
            (omega (arith, l, h.few, ap (rows_of row) class)),
      )

  -- the block gets another size
  pub sized_counts : (n : ℕ) → n < size_limit → Sizes b.alloc.size n s (totals row (resize_at row p n).pool)
      × Small (totals row (resize_at row p n).pool)
  unfolding resize_at size_limit
  sized_counts n l =
      let d : Sizes b.alloc.size n s (totals row (resize_at row p n).pool) =
      rw (there, wide) (sized-totals row p h.live (record { count = count p.state; disp = disp p.state; size = n; align = align p.state })) in
      (d, sized-small b.alloc.size n s (totals row (resize_at row p n).pool) d few (omega arith))
