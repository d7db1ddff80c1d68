-- A slot reserved in the first engine's tables, with the totals: the steps are those of any layout.
use Rattle.mem.proofs.Prelude.{◌∙◌, ◌≡◌, sym, ap, subst, not, Some, None, List, [], ◌∷◌, ◌++◌, ℕ, ◌<◌, arith, T, length}
use Rattle.mem.proofs.Prelude.{replicate}
use Rattle.mem.specs.Lists.{any}
use Rattle.mem.specs.Bytes.{put}
use Rattle.classes.specs.Classes.{class_of, slots_of, rows_of}
use Rattle.classes.specs.Alignments.{enlarged, Askable}
use Rattle.classes.proofs.Laws.{slots_small}
use Rattle.model.specs.declared.Slot.TheVariants.{Fresh}
use Rattle.model.specs.declared.Totals.{Totals}
use Rattle.model.specs.State.{group, is_live, pool_of}
use Rattle.model.specs.Plans.{Site, open_from, run_from, site_or, site, reserve_in, reserve, grant_in, totals}
use Rattle.model.specs.Tables.{row_at, masks_layout, encode, view, span_records}
use Rattle.model.proofs.Reserve.{open_found, New, run_found_lem, reserve_formed}
use Rattle.model.proofs.Counts.{totals_few}
use Rattle.rows.specs.declared.Block.{Block}
use Rattle.rows.specs.Rows.{Lent, site_found, block_of, Offers}
use Rattle.rows.proofs.Rooms.{facts, few_rows}
use Rattle.frames.proofs.Sites.{site_at, site_nowhere, site-run, run_inside}
use Rattle.frames.proofs.Sites as any
use Rattle.totals.specs.Changes.{refills, Small, Makes, Takes}
use Rattle.totals.proofs.Laws.{totals-small, made-small, made-totals, taken-totals}
use Rattle.frames.specs.Blocks.{reserved_as}
use Rattle.reserving.specs.Reserves.{site_room, site_totals, next_room, next_totals}

module _ {row len : ℕ} {t : List ℕ} (r : Lent masks_layout row len t) (c : ℕ) (s₀ : Totals) (e₀ : s₀ ≡ totals row (view row t)) where
  -- a group that can serve
  pub site_open : (i : ℕ) → Some i ≡ site_found row (open_from [] c (view row t))
      → (Some i ≡ site_found row (site row (view row t) c)) × (t ≡ site_room row c t (site row (view row t) c))
      × (s₀ ≡ site_totals row c s₀ (site row (view row t) c))
  unfolding site
  site_open i e =
      let (g, f, k) = site_at row (open_from [] c (view row t)) i (sym e) in
      let s : site row (view row t) c ≡ Some g = ap (λ o. site_or o (run_from row [] c (view row t))) f in
      let a = any.site_open r c i e in
      (a.found, a.room, e₀ ∙ ap (totals row) (open_found [] (view row t) c g f).split ∙ ap (site_totals row c s₀) (sym s))

  module _ (shut : None ≡ site_found row (open_from [] c (view row t))) where
    -- no group, and no run of free rows
    pub site-none : None ≡ site_found row (run_from row [] c (view row t))
        → (None ≡ site_found row (site row (view row t) c)) × (t ≡ site_room row c t (site row (view row t) c))
        × (s₀ ≡ site_totals row c s₀ (site row (view row t) c))
    site-none e =
        let a = any.site-none r c shut e in
        (a.found, a.room, ap (site_totals row c s₀) (sym (site_nowhere row (site row (view row t) c) (sym a.found))))

    -- a run of free rows, which are in the room, and the room with a new group there
    module _ (i : ℕ) (e : Some i ≡ site_found row (run_from row [] c (view row t))) where
      -- what the new group does to the totals
      pub site_counts : (s : Totals) × Makes (rows_of row c) (slots_of c) s₀ s × Small s × (s ≡ site_totals row c s₀ (site row (view row t) c))
      site_counts =
          let (g, f, k) = site_at row (run_from row [] c (view row t)) i (sym e) in
          let m : New row (view row t) c g = run_found_lem row [] (view row t) c g f in
          let P = g.before ++ (group c g.slots ∷ g.after) in
          let d : Makes (rows_of row c) (slots_of c) (totals row (view row t)) (totals row P) =
          rw (ap (totals row) m.split, m.slots) (made-totals row g.before c g.after) in (
            totals row P,
            subst (λ z. Makes (rows_of row c) (slots_of c) z (totals row P)) (sym e₀) d,
            made-small (rows_of row c) (slots_of c) (totals row (view row t)) (totals row P) d
                (totals_few row r.pos (view row t) (facts r).formed (few_rows r)) (omega (arith, (run_inside r c shut i e).0)) (slots_small c),
            ap (site_totals row c s₀) (sym (site-run r c shut ∙ f)),
          )

      pub site-made : (u : List ℕ) → u ≡ put (row_at i) (span_records row (group c (replicate (slots_of c) Fresh))) t
          → (Some i ≡ site_found row (site row (view row t) c)) × (u ≡ site_room row c t (site row (view row t) c))
      site-made u eu = let a = any.site-made r c shut i e u eu in (a.found, a.room)

-- at a site a slot can be taken
pub site_offers : {row len : ℕ} {t : List ℕ} (r : Lent masks_layout row len t) (c i : ℕ) (s₀ s : Totals) (u : List ℕ) → c < 48 → length u ≡ length t
    → Some i ≡ site_found row (site row (view row t) c) → u ≡ site_room row c t (site row (view row t) c)
    → s ≡ site_totals row c s₀ (site row (view row t) c)
    → (g : Site) × (site row (view row t) c ≡ Some g) × Offers masks_layout row u i c g × (s ≡ totals row (g.before ++ (group c g.slots ∷ g.after)))
site_offers {row} r c i s₀ s u h l e eu es =
    let (g, f, o) = any.site_offers r c i u h l (record { found = e; room = eu }) in
    (g, f, o, es ∙ ap (site_totals row c s₀) f)

-- ---- what is reserved, by the site of the size's class

module _ (row : ℕ) (t : List ℕ) (v n c : ℕ) (class : c ≡ class_of (enlarged v n)) where
  reserve-site : reserve row (view row t) v n ≡ reserve_in row c v n (site row (view row t) c)
  unfolding reserve
  reserve-site = ap (λ c. reserve_in row c v n (site row (view row t) c)) (sym class)

  pub reserved_nothing : (u : List ℕ) (s₀ z : Totals) → None ≡ site_found row (site row (view row t) c) → u ≡ site_room row c t (site row (view row t) c)
      → z ≡ site_totals row c s₀ (site row (view row t) c)
      → (None ≡ reserved_as row (reserve row (view row t) v n)) × (u ≡ next_room row t (reserve row (view row t) v n))
      × (z ≡ next_totals row s₀ (reserve row (view row t) v n))
  reserved_nothing u s₀ z e eu ez =
      let s : site row (view row t) c ≡ None = site_nowhere row (site row (view row t) c) (sym e) in
      let q : reserve row (view row t) v n ≡ None = reserve-site ∙ ap (reserve_in row c v n) s in (
        ap (reserved_as row) (sym q),
        eu ∙ ap (site_room row c t) s ∙ ap (next_room row t) (sym q),
        ez ∙ ap (site_totals row c s₀) s ∙ ap (next_totals row s₀) (sym q),
      )

  module _ (g : Site) (s : site row (view row t) c ≡ Some g) where
    served : reserve row (view row t) v n ≡ Some (grant_in row c v n g)
    served = reserve-site ∙ ap (reserve_in row c v n) s

    -- what the taken slot does to the totals
    pub reserved_counts : {len : ℕ} → Lent masks_layout row len t → Askable v n → T (any (λ x. not (is_live x)) g.slots)
        → Takes n (refills g.slots) (totals row (g.before ++ (group c g.slots ∷ g.after))) (totals row (pool_of (grant_in row c v n g)))
        × Small (totals row (pool_of (grant_in row c v n g)))
    reserved_counts r h spare =
        let w = reserve_formed row (view row t) v n (grant_in row c v n g) (facts r).formed h served in
        (taken-totals row c v n g spare, totals-small row r.pos (pool_of (grant_in row c v n g)) w.formed (omega (arith, w.long, few_rows r)))

    pub reserved_slot : (b : Block) (u : List ℕ) (s₀ z : Totals) → b ≡ block_of row (grant_in row c v n g) → u ≡ encode row (pool_of (grant_in row c v n g))
        → z ≡ totals row (pool_of (grant_in row c v n g))
        → (Some b ≡ reserved_as row (reserve row (view row t) v n)) × (u ≡ next_room row t (reserve row (view row t) v n))
        × (z ≡ next_totals row s₀ (reserve row (view row t) v n))
    reserved_slot b u s₀ z eb eu ez =
        (ap Some eb ∙ ap (reserved_as row) (sym served), eu ∙ ap (next_room row t) (sym served), ez ∙ ap (next_totals row s₀) (sym served))
