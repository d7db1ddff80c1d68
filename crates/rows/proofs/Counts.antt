-- Laws of what is counted, in any layout: the rows' totals are those of their spans.
use Rattle.mem.proofs.Prelude.{◌∙◌, ◌≡◌, sym, ap, ap₂, refl, subst, true, false, Bool, ◌&&◌, List, [], ◌∷◌, ◌++◌, append_assoc, Option, Some, None}
use Rattle.mem.proofs.Prelude.{ℕ, ◌+◌, ◌*◌, ◌-◌, ◌/◌, ◌<◌, ◌≤◌, add-zero, zero-add, add_assoc, mul-add, sub-zero, arith, T, leb, length, drop}
use Rattle.mem.proofs.Prelude.{length-drop, drop-drop, and-false, and-true, ltb, ltb→lt}
use borrow.Author.Tests.{ltb-false}
use native.Mathlib.Nat.{mul-zero}
use lib.ListN.{drop_of_length-le}
use Rattle.mem.specs.Lists.{choose, starts}
use Rattle.mem.specs.Bytes.{zeros}
use Rattle.mem.proofs.Tests.{and_left, and_right, true-T, choose-false}
use Rattle.mem.proofs.Laws.{sum_below}
use Rattle.classes.specs.Classes.{rows_of}
use Rattle.classes.proofs.Laws.{rows_pos}
use Rattle.model.specs.declared.Slot.{Slot}
use Rattle.model.specs.declared.Holder.{Holder}
use Rattle.model.specs.declared.Holder.TheVariants.{Free, First, Later}
use Rattle.model.specs.declared.Totals.{Totals}
use Rattle.model.specs.State.{Span, Pool, free, group, size, slot_sound, span_sound, rows_in}
use Rattle.model.specs.Plans.{totals}
use Rattle.model.specs.Tables.{Layout, LayoutLaws, row_at, later_records, view_holder, view_rows_by, row_record_bytes, row_record, span_records_by}
use Rattle.model.specs.Tables.{view_by, sound_by}
use Rattle.model.proofs.Tables.{group_few, holder_free, view_span, size_small}
use Rattle.model.proofs.Counts.{held_free, three_sets}
use Rattle.rows.specs.declared.Frame.{Frame}
use Rattle.rows.specs.Checks.{frame_held, frame_in, group_checked, held_checked, tile, span_checked, rows_checked}
use Rattle.rows.specs.Counts.{all_rows, PerRow, plus, count_if, group_totals, span_held, frame_counted, tile_counted}
use Rattle.rows.specs.Counts.{span_counted, rows_counted}
use Rattle.rows.proofs.Checks.{no_class, span_begins, rows_pass, rows_fail}

-- ---- one span

tile_if : (b : Bool) (k : ℕ) (s : Totals) → tile_counted (choose b (Some k) None) s ≡ count_if b s
unfolding choose
tile_if true k s = refl
tile_if false k s = refl

-- what a test says of what is counted
pub counted_if : (b : Bool) (s u : Totals) → count_if b s ≡ Some u → (b ≡ true) × (s ≡ u)
unfolding choose
counted_if true s u e = (refl, cc)
counted_if false s u e = let z : ◌≡◌ {A = ℕ} 0 1 = cc in absurd (omega arith)

pub not-counted : (b : Bool) (s : Totals) → count_if b s ≡ None → b ≡ false
unfolding choose
not-counted true s e = let z : ◌≡◌ {A = ℕ} 0 1 = cc in absurd (omega arith)
not-counted false s e = refl

group_totals_lem : (row c : ℕ) (ss : List Slot) → totals row (group c ss ∷ []) ≡ group_totals (rows_of row c) ss
unfolding totals
group_totals_lem row c ss = simp add-zero

-- of the tests of a group's rows and of its slots, each comes as the code makes it
group_if : (a n g l : Bool) (k c : ℕ) (s : Totals) (f : ℕ → ℕ → (Option Totals)) → (a ≡ false → g ≡ false) → f c k ≡ count_if g s
    → tile_counted (choose (n && g && l) (Some k) None) s ≡ frame_counted (choose (a && n && l) (Some (Frame.Group c k)) None) f
unfolding choose
group_if a n g l k c s f h e = tile_if (n && g && l) k s ∙ go a n g l h e
  where
    go : (a n g l : Bool) → (a ≡ false → g ≡ false) → f c k ≡ count_if g s
        → count_if (n && g && l) s ≡ frame_counted (choose (a && n && l) (Some (Frame.Group c k)) None) f
    go a false g l h e = rw (and-false a)
    go false true g l h e = rw (h refl)
    go true true g false h e = rw (and-false g)
    go true true g true h e = rw (and-true g) (sym e)

-- what is counted of a span that is a group
abbrev slots_counted : (L : Layout) (at : ℕ) → List ℕ → ℕ → ℕ → Option Totals
slots_counted L at t c k = count_if (group_checked L at c t) (group_totals k (L.slots_in c t))

-- a span, by what begins with its rows
pub frame_counted_lem : (L : Layout) (row at n : ℕ) (t : List ℕ) (f : Option Frame) → frame_in row n t ≡ f
    → span_counted L row at n t ≡ frame_counted f (λ c k. count_if (group_checked L at c t) (group_totals k (L.slots_in c t)))
unfolding span_counted span_checked held_checked frame_in totals choose
frame_counted_lem L row at n t f e = go (view_holder t) ∙ ap (λ g. frame_counted g (slots_counted L at t)) e
  where
    gap : (b : Bool) → tile_counted (choose b (Some 1) None) (totals row (free ∷ []))
        ≡ frame_counted (choose b (Some Frame.Free) None) (slots_counted L at t)
    gap true = refl
    gap false = refl

    go : (h : Holder) → tile_counted (tile L row at n t h) (totals row (span_held L t h ∷ [])) ≡ frame_counted (frame_held row n t h) (slots_counted L at t)
    go Free = gap (starts t (zeros row_record_bytes))
    go (First c) =
        group_if (ltb c 48) (leb (rows_of row c) n) (group_checked L at c t) (starts (drop row_record_bytes t) (later_records (rows_of row c - 1) 1)) (rows_of row c) c
        (totals row (group c (L.slots_in c t) ∷ [])) (slots_counted L at t) (λ e. no_class L at c t (ltb-false c 48 e))
        (ap (count_if (group_checked L at c t)) (sym (group_totals_lem row c (L.slots_in c t))))
    go (Later k) = refl

-- a group is one by its first row
pub frame-group : (row n c k : ℕ) (t : List ℕ) → frame_in row n t ≡ Some (Frame.Group c k) → (c < 48) × (view_holder t ≡ First c)
unfolding frame_in choose
frame-group row n c k t = go (view_holder t)
  where
    none : (b : Bool) → choose b (Some Frame.Free) None ≡ Some (Frame.Group c k) → ⊥
    none true e = let z : ◌≡◌ {A = ℕ} 0 1 = cc in omega arith
    none false e = let z : ◌≡◌ {A = ℕ} 0 1 = cc in omega arith

    some : (j : ℕ) (b : Bool) → b ≡ (ltb j 48 && leb (rows_of row j) n && starts (drop row_record_bytes t) (later_records (rows_of row j - 1) 1))
        → choose b (Some (Frame.Group j (rows_of row j))) None ≡ Some (Frame.Group c k) → (c < 48) × (First j ≡ First c)
    some j true q e =
        let f : j ≡ c = cc in
        let u : T (ltb j 48 && leb (rows_of row j) n && starts (drop row_record_bytes t) (later_records (rows_of row j - 1) 1)) = true-T _ (sym q) in
        let l : j < 48 = ltb→lt j 48 (search (and_left, and_right)) in
        (rw (← f) l, ap First f)
    some j false q e = let z : ◌≡◌ {A = ℕ} 0 1 = cc in absurd (omega arith)

    go : (h : Holder) → frame_held row n t h ≡ Some (Frame.Group c k) → (c < 48) × (h ≡ First c)
    go Free e = absurd (none (starts t (zeros row_record_bytes)) e)
    go (First j) e = some j _ refl e
    go (Later d) e = let z : ◌≡◌ {A = ℕ} 0 1 = cc in absurd (omega arith)

-- ---- all rows

-- a whole room, of n rows by its head
pub room_counted : (L : Layout) (row len n : ℕ) (t : List ℕ) → length t ≡ row_at n → sound_by L row len t ≡ rows_checked L row 0 n (drop 16 t)
    → rows_counted L row 0 n (drop 16 t) ≡ count_if (sound_by L row len t) (totals row (view_by L row t))
unfolding rows_counted view_by
room_counted L row len n t l e = let k : (length t - 16) / row_record_bytes ≡ n = omega arith in rw (e, k)

-- totals of rows passed, and what is counted of those that are left
abbrev more : Totals → (Option Totals) → Option Totals
more s (Some u) = Some (plus s u)
more s None = None

more_if : (s : Totals) (b : Bool) (u : Totals) → more s (count_if b u) ≡ count_if b (plus s u)
unfolding choose
more_if s true u = refl
more_if s false u = refl

more-more : (s u : Totals) (x : (Option Totals)) → more s (more u x) ≡ more (plus s u) x
more-more s u (Some v) = ap Some (simp add_assoc)
more-more s u None = refl

abbrev none : Totals
none = record { blocks = 0; bytes = 0; held = 0; free = 0; ready = 0; waiting = 0 }

none_more : (x : (Option Totals)) → more none x ≡ x
none_more (Some u) = ap Some (simp zero-add)
none_more None = refl

totals-cons : (row : ℕ) (x : Span) (P : Pool) → totals row (x ∷ P) ≡ plus (totals row (x ∷ [])) (totals row P)
unfolding totals
totals-cons row x P = simp add-zero

-- a span's records say it
span_read : {L : Layout} → LayoutLaws L → (row : ℕ) (x : Span) (rest : List ℕ) → T (span_sound x)
    → (let t = span_records_by L row x ++ rest in span_held L t (view_holder t) ≡ x)
unfolding span_records_by
span_read {L} law row free rest h = ap (span_held L (row_record Free [] ++ rest)) (holder_free rest)
span_read {L} law row (group c ss) rest h =
    let X = later_records (rows_of row c - 1) 1 ++ rest in
    rw (append_assoc (L.first_row c ss) (later_records (rows_of row c - 1) 1) rest, law.holder c ss X) (ap (group c) (law.slots c ss X h))

span_rows : (row : ℕ) (x : Span) → all_rows (totals row (x ∷ [])) ≡ rows_in row x
unfolding totals
span_rows row x = omega (arith, held_free row (x ∷ []))

-- a sound span counts at most 31 slots
span_light : (row : ℕ) → 0 < row → (x : Span) → T (span_sound x) → PerRow (totals row (x ∷ []))
unfolding totals span_sound
span_light row pos free h = (omega arith, omega arith, omega arith, omega arith)
span_light row pos (group c ss) h =
    let a = three_sets ss in
    let l = group_few c ss h in
    let r = rows_pos row c pos in
    let b = sum_below size 131051 (slot_sound c) (λ x u. omega (arith, size_small c x u)) ss (search and_right) in
    (omega arith, omega arith, omega arith, omega arith)

module _ (L : Layout) (row : ℕ) where
  -- u is counted of the span that begins here, where n rows are left and the first has the arena's byte at first; the rows behind it are
  -- to be counted
  pub record Begun (at n : ℕ) (t : List ℕ) (u : Totals) : Type 0 where
    pub some : 1 ≤ all_rows u
    pub few : all_rows u ≤ n
    pub light : PerRow u
    pub left : rows_counted L row at n t ≡ more u (rows_counted L row (at + row * all_rows u) (n - all_rows u) (drop (row_record_bytes * all_rows u) t))

  -- s is counted of the first of a room's n rows; the others are to be counted
  pub record Passed (n : ℕ) (room : List ℕ) (s : Totals) : Type 0 where
    pub few : all_rows s ≤ n
    pub light : PerRow s
    pub left : rows_counted L row 0 n (drop 16 room) ≡ more s (rows_counted L row (row * all_rows s) (n - all_rows s) (drop (row_at (all_rows s)) room))

  pub none_passed : (n : ℕ) (room : List ℕ) → Passed n room none
  none_passed n room = record {
    few = omega arith;
    light = (omega arith, omega arith, omega arith, omega arith);
    left = rw (mul-zero row, sub-zero) (sym (none_more (rows_counted L row 0 n (drop 16 room))));
  }

  module _ (n : ℕ) (room : List ℕ) (s : Totals) (p : Passed n room s) where
    pub more-passed : (u : Totals) → Begun (row * all_rows s) (n - all_rows s) (drop (row_at (all_rows s)) room) u → Passed n room (plus s u)
    more-passed u f = record {
      few = omega (arith, p.few, f.few);
      light = let a = p.light in let b = f.light in (omega arith, omega arith, omega arith, omega arith);
      left =
          let i = all_rows s in
          let k = all_rows u in
          let j : n - i - k ≡ n - all_rows (plus s u) = omega arith in
          let q : row_at i + row_record_bytes * k ≡ row_at (all_rows (plus s u)) = omega arith in
          let o : all_rows (plus s u) ≡ i + k = omega arith in
          let b : row * i + row * k ≡ row * all_rows (plus s u) = sym (ap (λ m. row * m) o ∙ mul-add row i k) in
          p.left ∙ ap (more s) f.left ∙ more-more s u (rows_counted L row (row * i + row * k) (n - i - k) (drop (row_record_bytes * k) (drop (row_at i) room)))
          ∙ rw (drop-drop (row_record_bytes * k) (row_at i) room, j, q, b);
    }

    pub all_passed : n ≤ all_rows s → length room ≡ row_at n → rows_counted L row 0 n (drop 16 room) ≡ Some s
    unfolding rows_counted rows_checked view_rows_by totals choose
    all_passed h l =
        let i = all_rows s in
        let z : n - i ≡ 0 = omega arith in
        let d : drop (row_at i) room ≡ [] = drop_of_length-le room {i = row_at i} (omega arith) in
        p.left ∙ rw (z, d) (ap Some (simp add-zero))

module _ {L : Layout} (law : LayoutLaws L) (row : ℕ) (pos : 0 < row) where
  module _ (at n : ℕ) (t : List ℕ) (p : 0 < n) where
    span_begun : (k : ℕ) (e : span_checked L row at n t ≡ Some k) → Begun L row at n t (totals row ((span_begins law row pos at n k t p e).span ∷ []))
    unfolding rows_counted
    span_begun k e =
        let b = span_begins law row pos at n k t p e in
        let r = rows_pass law row pos at n k t p e in
        let x = b.span in
        let s = totals row (x ∷ []) in
        let K : all_rows s ≡ k = span_rows row x ∙ b.long in
        let R = drop (row_record_bytes * k) t in
        let P = view_rows_by L row (n - k) 0 R in
        let m : n ≡ rows_in row x + (n - k) = omega (arith, b.long, b.left) in
        let v : view_rows_by L row n 0 t ≡ x ∷ P =
        ap₂ (λ m l. view_rows_by L row m 0 l) m b.form ∙ view_span law row pos x (n - k) R b.right in
        record {
          some = rw K r.0;
          few = rw K r.1;
          light = span_light row pos x b.right;
          left = rw K (ap₂ count_if r.2 (ap (totals row) v ∙ totals-cons row x P)
              ∙ sym (more_if s (rows_checked L row (at + row * k) (n - k) R) (totals row P)));
        }

    pub span_counts : (u : Totals) → span_counted L row at n t ≡ Some u → Begun L row at n t u
    unfolding span_counted
    span_counts u = go (span_checked L row at n t) refl
      where
        go : (x : (Option ℕ)) → span_checked L row at n t ≡ x → tile_counted x (totals row (span_held L t (view_holder t) ∷ [])) ≡ Some u → Begun L row at n t u
        go (Some k) e q =
            let b = span_begins law row pos at n k t p e in
            let f : span_held L t (view_holder t) ≡ b.span =
            subst (λ l. span_held L l (view_holder l) ≡ b.span) (sym b.form) (span_read law row b.span (drop (row_record_bytes * k) t) b.right) in
            let g : totals row (span_held L t (view_holder t) ∷ []) ≡ u = cc in
            subst (Begun L row at n t) (ap (λ x. totals row (x ∷ [])) (sym f) ∙ g) (span_begun k e)
        go None e q = let z : ◌≡◌ {A = ℕ} 0 1 = cc in absurd (omega arith)

    span_refused : length t ≡ row_record_bytes * n → span_counted L row at n t ≡ None → rows_counted L row at n t ≡ None
    unfolding span_counted rows_counted
    span_refused l = go (span_checked L row at n t) refl
      where
        go : (x : (Option ℕ)) → span_checked L row at n t ≡ x → tile_counted x (totals row (span_held L t (view_holder t) ∷ [])) ≡ None
            → count_if (rows_checked L row at n t) (totals row (view_rows_by L row n 0 t)) ≡ None
        go (Some k) e q = let z : ◌≡◌ {A = ℕ} 0 1 = cc in absurd (omega arith)
        go None e q = choose-false (rows_checked L row at n t) _ None (rows_fail law row pos at n t p l e)

  module _ (n : ℕ) (room : List ℕ) (s : Totals) (p : Passed L row n room s) where
    pub not-passed : all_rows s < n → length room ≡ row_at n → (let t = drop (row_at (all_rows s)) room in
        span_counted L row (row * all_rows s) (n - all_rows s) t ≡ None → rows_counted L row 0 n (drop 16 room) ≡ None)
    not-passed h l e =
        let i = all_rows s in
        p.left ∙ ap (more s) (span_refused (row * i) (n - i) (drop (row_at i) room) (omega arith) (omega (arith, length-drop (row_at i) room)) e)
