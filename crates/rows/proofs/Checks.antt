-- Soundness row by row, in any layout: a span that passes its test is one, and a room whose spans pass is sound.
use Rattle.mem.proofs.Prelude.{◌∙◌, ◌≡◌, sym, ap, refl, ap₂, subst, true, Bool, false, ◌&&◌, and-false, List, [], ◌∷◌, ◌++◌, append_assoc, Some, None}
use Rattle.mem.proofs.Prelude.{◌+◌, ℕ, ◌<◌, ◌≤◌, ◌*◌, ◌-◌, suc, ◌/◌, ◌^◌, ◌%◌, add-zero, le-div_iff_mul-le, add-one, arith, eq-eqb, le-ltb, T, eqb}
use Rattle.mem.proofs.Prelude.{lit≤, ltb, eqb→eq, leb→le, le→leb, length, drop, get_or, length-append, length-drop, take-append-drop, drop-drop}
use Rattle.mem.proofs.Prelude.{get_or-drop, drop_at, eqb-true, eqb-false}
use mathlib.Core.Path.{subst⁻¹}
use native.Mathlib.Nat.{div-add-mod, div-eq_of_eq-mul_right, mul-one}
use Rattle.mem.specs.Lists.{choose, join, starts}
use Rattle.mem.specs.Bytes.{zeros, low, number, same, part}
use Rattle.mem.proofs.Tests.{and_left, and_right, and_both, T_true, true-T, same_test, eq→eqb}
use Rattle.mem.proofs.Laws.{part_length, zeros-length, number-low, low-number, bytes_by, every-part, same→eq, eq→same}
use Rattle.mem.proofs.Starts.{starts_from, starts_two, starts-zeros, starts_split, starts_own}
use Rattle.classes.specs.Classes.{rows_of}
use Rattle.classes.proofs.Laws.{rows_pos}
use Rattle.model.specs.declared.Slot.{Slot}
use Rattle.model.specs.declared.Holder.{Holder}
use Rattle.model.specs.declared.Holder.TheVariants.{Free, First, Later}
use Rattle.model.specs.State.{Span, Pool, free, group, span_sound, well_formed, slots_aligned, aligned_from, aligned, rows, rows_in}
use Rattle.model.specs.Tables.{Layout, LayoutLaws, row_at, holder_bytes, row_record, later_records, room_bytes, arena_right, view_holder, row_record_bytes}
use Rattle.model.specs.Tables.{span_records_by, encode_by, view_rows_by, view_by, sound_by}
use Rattle.model.proofs.Tables.{row_length, later_length, span_length, spans_length, encode-length, view_span, encode-sound, sound_facts}
use Rattle.model.proofs.Tables.{group_few, holder_free, holder_later}
use Rattle.rows.specs.Rows.{arena_rows}
use Rattle.rows.specs.Checks.{room_rows, group_checked, held_checked, tile, span_checked, rows_checked, room_checked}

-- ---- rows that keep no slots

pub row_form : (h : Holder) → row_record h [] ≡ holder_bytes h ++ zeros 262
unfolding row_record zeros
row_form Free = refl
row_form (First c) = refl
row_form (Later k) = refl

pub free_form : row_record Free [] ≡ zeros row_record_bytes
unfolding row_record zeros
free_form = refl

-- who holds a row, by its first two bytes
pub holder_first-bytes : (t : List ℕ) (c : ℕ) → view_holder t ≡ First c → (get_or t 0 0 ≡ 1) × (get_or t 1 0 ≡ c)
unfolding view_holder choose
holder_first-bytes t c e = go (eqb (get_or t 0 0) 1) refl (eqb (get_or t 0 0) 2) e
  where
    go : (a : Bool) → eqb (get_or t 0 0) 1 ≡ a → (b : Bool) → choose a (First (get_or t 1 0)) (choose b (Later (get_or t 1 0)) Free) ≡ First c
        → (get_or t 0 0 ≡ 1) × (get_or t 1 0 ≡ c)
    go true h b q = (eqb→eq (get_or t 0 0) 1 (true-T (eqb (get_or t 0 0) 1) h), cc)
    go false h true q = let z : ◌≡◌ {A = ℕ} 0 1 = cc in absurd (omega arith)
    go false h false q = let z : ◌≡◌ {A = ℕ} 0 1 = cc in absurd (omega arith)

pub holder_later_bytes : (t : List ℕ) (k : ℕ) → view_holder t ≡ Later k → (get_or t 0 0 ≡ 2) × (get_or t 1 0 ≡ k)
unfolding view_holder choose
holder_later_bytes t k e = go (eqb (get_or t 0 0) 1) (eqb (get_or t 0 0) 2) refl e
  where
    go : (a b : Bool) → eqb (get_or t 0 0) 2 ≡ b → choose a (First (get_or t 1 0)) (choose b (Later (get_or t 1 0)) Free) ≡ Later k
        → (get_or t 0 0 ≡ 2) × (get_or t 1 0 ≡ k)
    go true b h q = let z : ◌≡◌ {A = ℕ} 0 1 = cc in absurd (omega arith)
    go false true h q = (eqb→eq (get_or t 0 0) 2 (true-T (eqb (get_or t 0 0) 2) h), cc)
    go false false h q = let z : ◌≡◌ {A = ℕ} 0 1 = cc in absurd (omega arith)

-- a later row, by its holder
pub later_held : (s : List ℕ) (at k : ℕ) → at + row_record_bytes ≤ length s → view_holder (drop at s) ≡ Later k
    → starts (drop at s) (row_record (Later k) []) ≡ same (part (at + 2) 262 s) (zeros 262)
later_held s at k h e =
    let b = holder_later_bytes (drop at s) k e in
    let b₀ : get_or s at 0 ≡ 2 = sym (get_or-drop at s 0 0 ∙ ap (λ i. get_or s i 0) (add-zero at)) ∙ b.0 in
    let b₁ : get_or s (at + 1) 0 ≡ k = sym (get_or-drop at s 1 0) ∙ b.1 in
    rw (row_form (Later k), starts_two s at 2 k (zeros 262) (omega arith), b₀, eq-eqb (get_or s (at + 1) 0) k b₁) (sym (starts-zeros (at + 2) 262 s))

pub later_other : (t : List ℕ) (k : ℕ) → (view_holder t ≡ Later k → ⊥) → starts t (row_record (Later k) []) ≡ false
later_other t k n =
    same_test (starts t (row_record (Later k) [])) false
    (λ u. n (ap view_holder (starts_split t (row_record (Later k) []) row_record_bytes (row_length (Later k) [] (lit≤ tt)) u)
    ∙ holder_later k (drop row_record_bytes t))) (λ u. absurd u)

-- the later rows that are left of m after k of them, the next of which is row i
pub laters_turn : (s : List ℕ) (i m k : ℕ) → k < m
    → starts (drop (row_at i) s) (later_records (m - k) (k + 1))
    ≡ (starts (drop (row_at i) s) (row_record (Later (k + 1)) []) && starts (drop (row_at (i + 1)) s) (later_records (m - (k + 1)) (k + 1 + 1)))
unfolding later_records
laters_turn s i m k h =
    let e : m - k ≡ suc (m - (k + 1)) = omega arith in
    rw (e, add-one (k + 1))
    (starts_from s (row_at i) row_record_bytes (row_at (i + 1)) (row_record (Later (k + 1)) []) (later_records (m - (k + 1)) (suc (k + 1)))
    (row_length (Later (k + 1)) [] (lit≤ tt)) (omega arith))

-- ---- one span

-- there is no such class
pub no_class : (L : Layout) (at c : ℕ) (t : List ℕ) → 48 ≤ c → group_checked L at c t ≡ false
unfolding group_checked span_sound
no_class L at c t h = rw (le-ltb c 48 h) (ap (λ b. b && slots_aligned c (at + 16) (L.slots_in c t)) (and-false (starts t (L.first_row c (L.slots_in c t)))))

same-front : (x r y : List ℕ) → same (x ++ r) (x ++ y) ≡ same r y
same-front [] r y = refl
same-front (a ∷ x) r y = rw (eq-eqb a a refl) (same-front x r y)

module _ {L : Layout} (law : LayoutLaws L) (row : ℕ) (pos : 0 < row) where
  -- a span of k rows that stands first, where n rows are left
  pub record Begins (at n k : ℕ) (t : List ℕ) : Type 0 where
    pub span : Span
    pub right : T (span_sound span)
    pub bounds : (P : Pool) → aligned_from row at (span ∷ P) ≡ aligned_from row (at + row * k) P
    pub long : rows_in row span ≡ k
    pub left : k ≤ n
    pub form : t ≡ span_records_by L row span ++ drop (row_record_bytes * k) t

  pub span_begins : (at n k : ℕ) (t : List ℕ) → 0 < n → span_checked L row at n t ≡ Some k → Begins at n k t
  unfolding span_checked held_checked group_checked choose span_records_by span_sound
  span_begins at n k t p = go (view_holder t)
    where
      free_begins : (a : Bool) → starts t (zeros row_record_bytes) ≡ a → choose a (Some 1) None ≡ Some k → Begins at n k t
      free_begins true e q =
          let l : 1 ≡ k = cc in
          record {
            span = free;
            right = tt;
            bounds = λ P. ap (λ b. aligned_from row b P) (ap (λ r. at + r) (sym (mul-one row) ∙ ap (λ j. row * j) l));
            long = l;
            left = omega arith;
            form = rw (← l, free_form) (starts_split t (zeros row_record_bytes) row_record_bytes (zeros-length row_record_bytes)
                (true-T (starts t (zeros row_record_bytes)) e));
          }
      free_begins false e q = let z : ◌≡◌ {A = ℕ} 0 1 = cc in absurd (omega arith)

      held_begins : (c : ℕ) (b : Bool) → held_checked L row at n c t ≡ b → choose b (Some (rows_of row c)) None ≡ Some k → Begins at n k t
      held_begins c true f q =
          let ss : List Slot = L.slots_in c t in
          let l : rows_of row c ≡ k = cc in
          let u : T (held_checked L row at n c t) = true-T (held_checked L row at n c t) f in
          let h : T (span_sound (group c ss)) = search (and_left, and_right) in
          let o : T (slots_aligned c (at + 16) ss) = search (and_left, and_right) in
          let M = later_records (rows_of row c - 1) 1 in
          let j : row_record_bytes + row_record_bytes * (rows_of row c - 1) ≡ row_record_bytes * k = omega (arith, rows_pos row c pos) in
          let f₁ : t ≡ L.first_row c ss ++ drop row_record_bytes t =
          starts_split t (L.first_row c ss) row_record_bytes (law.long c ss (group_few c ss h)) (search (and_left, and_right)) in
          let f₂ : drop row_record_bytes t ≡ M ++ drop (row_record_bytes * (rows_of row c - 1)) (drop row_record_bytes t) =
          starts_split (drop row_record_bytes t) M (row_record_bytes * (rows_of row c - 1)) (later_length (rows_of row c - 1) 1) (search (and_left, and_right)) in
          record {
            span = group c ss;
            right = h;
            bounds = λ P. rw (T_true (slots_aligned c (at + 16) ss) o) (ap (λ j. aligned_from row (at + row * j) P) l);
            long = l;
            left = omega (arith, leb→le (rows_of row c) n (search (and_left, and_right)));
            form =
                f₁ ∙ ap (λ (r : List ℕ). L.first_row c ss ++ r) (f₂ ∙ rw (drop-drop (row_record_bytes * (rows_of row c - 1)) row_record_bytes t, j))
                ∙ sym (append_assoc (L.first_row c ss) M (drop (row_record_bytes * k) t));
          }
      held_begins c false f q = let z : ◌≡◌ {A = ℕ} 0 1 = cc in absurd (omega arith)

      go : (h : Holder) → tile L row at n t h ≡ Some k → Begins at n k t
      go Free q = free_begins (starts t (zeros row_record_bytes)) refl q
      go (First c) q = held_begins c (held_checked L row at n c t) refl q
      go (Later d) q = let z : ◌≡◌ {A = ℕ} 0 1 = cc in absurd (omega arith)

  held_passes : (at c : ℕ) (ss : List Slot) (n : ℕ) (rest : List ℕ) → T (span_sound (group c ss)) → T (slots_aligned c (at + 16) ss) → rows_of row c ≤ n
      → T (held_checked L row at n c (L.first_row c ss ++ (later_records (rows_of row c - 1) 1 ++ rest)))
  unfolding held_checked group_checked
  held_passes at c ss n rest h o l =
      let M = later_records (rows_of row c - 1) 1 in
      let F = L.first_row c ss in
      let t = F ++ (M ++ rest) in
      rw (law.slots c ss (M ++ rest) h, drop_at F (M ++ rest) row_record_bytes (law.long c ss (group_few c ss h)))
      (search (and_both, le→leb, starts_own))

  -- the records of a sound span pass, whatever stands behind them
  span_passes : (at : ℕ) (s : Span) (n : ℕ) (rest : List ℕ) → T (span_sound s) → T (aligned_from row at (s ∷ [])) → rows_in row s ≤ n
      → span_checked L row at n (span_records_by L row s ++ rest) ≡ Some (rows_in row s)
  unfolding span_checked span_records_by choose
  span_passes at free n rest h o l =
      let t = row_record Free [] ++ rest in
      rw (holder_free rest, T_true (starts t (zeros row_record_bytes)) (subst (λ (x : List ℕ). T (starts t x)) free_form (starts_own (row_record Free []) rest)))
  span_passes at (group c ss) n rest h o l =
      let X = later_records (rows_of row c - 1) 1 ++ rest in
      rw (
        append_assoc (L.first_row c ss) (later_records (rows_of row c - 1) 1) rest,
        law.holder c ss X,
        T_true (held_checked L row at n c (L.first_row c ss ++ X))
            (held_passes at c ss n rest h (and_left (slots_aligned c (at + 16) ss) true o) l),
      )

  -- ---- all rows

  rows_split : (at k : ℕ) (s : Span) (m : ℕ) (rest : List ℕ) → T (span_sound s)
      → ((P : Pool) → aligned_from row at (s ∷ P) ≡ aligned_from row (at + row * k) P)
      → rows_checked L row at (rows_in row s + m) (span_records_by L row s ++ rest) ≡ rows_checked L row (at + row * k) m rest
  unfolding rows_checked
  rows_split at k s m rest h b =
      rw (
        view_span law row pos s m rest h,
        same-front (span_records_by L row s) rest (join (span_records_by L row) (view_rows_by L row m 0 rest)),
        T_true (span_sound s) h,
        b (view_rows_by L row m 0 rest),
      )

  pub rows_pass : (at n k : ℕ) (t : List ℕ) → 0 < n → span_checked L row at n t ≡ Some k
      → (1 ≤ k) × (k ≤ n) × (rows_checked L row at n t ≡ rows_checked L row (at + row * k) (n - k) (drop (row_record_bytes * k) t))
  rows_pass at n k t p e =
      let b = span_begins at n k t p e in
      let m : n ≡ rows_in row b.span + (n - k) = omega (arith, b.long, b.left) in (
        omega (arith, b.long, span_pos b.span),
        b.left,
        ap₂ (rows_checked L row at) m b.form
            ∙ rows_split at k b.span (n - k) (drop (row_record_bytes * k) t) b.right b.bounds,
      )
    where
      span_pos : (s : Span) → 1 ≤ rows_in row s
      span_pos free = lit≤ tt
      span_pos (group c ss) = rows_pos row c pos

  -- a pool's first span is on its boundaries if the pool is
  first-aligned : (at : ℕ) (s : Span) (P : Pool) → T (aligned_from row at (s ∷ P)) → T (aligned_from row at (s ∷ []))
  first-aligned at free P t = tt
  first-aligned at (group c ss) P t =
      and_both (slots_aligned c (at + 16) ss) true (and_left (slots_aligned c (at + 16) ss) (aligned_from row (at + row * rows_of row c) P) t) tt

  pub rows_fail : (at n : ℕ) (t : List ℕ) → 0 < n → length t ≡ row_record_bytes * n → span_checked L row at n t ≡ None
      → rows_checked L row at n t ≡ false
  unfolding rows_checked
  rows_fail at n t p l e = same_test (rows_checked L row at n t) false
      (λ u. go (view_rows_by L row n 0 t) (same→eq t (join (span_records_by L row) (view_rows_by L row n 0 t)) (search (and_left, and_right)))
      (search (and_left, and_right)) (search (and_left, and_right)))
      (λ u. absurd u)
    where
      go : (P : Pool) → t ≡ join (span_records_by L row) P → T (well_formed P) → T (aligned_from row at P) → ⊥
      go [] f h o = omega (arith, ap length f)
      go (s ∷ P) f h o =
          let hs : T (span_sound s) = and_left (span_sound s) (well_formed P) h in
          let few : rows_in row s ≤ n =
          omega (arith, ap length f, length-append (span_records_by L row s) (join (span_records_by L row) P), span_length law row pos s hs) in
          let q : span_checked L row at n t ≡ Some (rows_in row s) =
          ap (span_checked L row at n) f ∙ span_passes at s n (join (span_records_by L row) P) hs (first-aligned at s P o) few in
          let z : ◌≡◌ {A = ℕ} 0 1 = cc in
          omega arith

  -- ---- the room

  module _ (n : ℕ) (t : List ℕ) (lawful : T (arena_right row n)) (small : 512 * row < 256 ^ 4) where
    arena_facts : (n ≤ 512 * row) × (n % row ≡ 0)
    unfolding arena_right
    arena_facts = (leb→le n (512 * row) (search (and_left, and_right)), eqb→eq (n % row) 0 (search (and_left, and_right)))

    sound-passes : T (sound_by L row n t) → T (room_checked L row n t)
    unfolding room_checked rows_checked view_by encode_by room_bytes aligned
    sound-passes u =
        let f = sound_facts L row n t u in
        let P = view_by L row t in
        let J = join (span_records_by L row) P in
        let q : n / row ≡ rows row P = div-eq_of_eq-mul_right pos f.long in
        let l : length t ≡ 16 + row_record_bytes * rows row P = ap length f.form ∙ encode-length law row pos P f.formed in
        let k : (length t - 16) / row_record_bytes ≡ rows row P = omega arith in
        let v : view_rows_by L row (rows row P) 0 (drop 16 t) ≡ P = ap (λ (m : ℕ). view_rows_by L row m 0 (drop 16 t)) (sym k) in
        let fits : row * rows row P < 256 ^ 4 = omega (arith, arena_facts, f.long) in
        let m : number (part 0 4 t) ≡ n = ap (λ (x : List ℕ). number (part 0 4 x)) f.form ∙ number-low 4 (row * rows row P) fits ∙ sym f.long in
        let d : drop 4 t ≡ zeros 12 ++ J = ap (drop 4) f.form in
        let j : drop 16 t ≡ J = sym (drop-drop 12 4 t) ∙ ap (drop 12) d ∙ drop_at (zeros 12) J 12 (zeros-length 12) in
        let w : T (rows_checked L row 0 (rows row P) (drop 16 t)) =
        rw v (and_both (same (drop 16 t) J && well_formed P) (aligned_from row 0 P)
        (and_both (same (drop 16 t) J) (well_formed P) (eq→same (drop 16 t) J j) f.formed) f.bounds) in
        let z : T (same (part 4 12 t) (zeros 12)) = rw (starts-zeros 4 12 t, d) (starts_own (zeros 12) J) in
        rw q
        (search (and_both, eq→eqb))

    passes-sound : ((i : ℕ) → get_or t i 0 < 256) → T (room_checked L row n t) → T (sound_by L row n t)
    unfolding room_checked rows_checked encode_by aligned
    passes-sound B u =
        let P = view_rows_by L row (n / row) 0 (drop 16 t) in
        let J = join (span_records_by L row) P in
        let l : length t ≡ 16 + row_record_bytes * (n / row) = eqb→eq (length t) (16 + row_record_bytes * (n / row)) (search (and_left, and_right)) in
        let m : number (part 0 4 t) ≡ n = eqb→eq (number (part 0 4 t)) n (search (and_left, and_right)) in
        let z : T (same (part 4 12 t) (zeros 12)) = search (and_left, and_right) in
        let j : drop 16 t ≡ J = same→eq (drop 16 t) J (search (and_left, and_right)) in
        let wf : T (well_formed P) = search (and_left, and_right) in
        let on : T (aligned_from row 0 P) = search (and_left, and_right) in
        let k : n / row ≡ rows row P = omega (arith, ap length j, spans_length law row pos P wf, length-drop 16 t) in
        let long : n ≡ row * rows row P = omega (arith, div-add-mod n row, arena_facts, ap (λ (x : ℕ). row * x) k) in
        let h : part 0 4 t ≡ low 4 (row * rows row P) =
        sym (low-number 4 (part 0 4 t) (part_length 0 4 t (omega arith)) (every-part (λ b. ltb b 256) 0 4 t (bytes_by t B))) ∙ ap (low 4) (m ∙ long) in
        let d : drop 4 t ≡ zeros 12 ++ J =
        starts_split (drop 4 t) (zeros 12) 12 (zeros-length 12) (rw starts-zeros at z)
        ∙ ap (λ (x : List ℕ). zeros 12 ++ x) (drop-drop 12 4 t ∙ j) in
        let form : t ≡ encode_by L row P = sym (take-append-drop 4 t) ∙ ap₂ {C = List ℕ} ◌++◌ h d in
        subst⁻¹ (λ (x : List ℕ). T (sound_by L row n x)) form (encode-sound law row pos P n wf on lawful long)

    pub sound_law : ((i : ℕ) → get_or t i 0 < 256) → sound_by L row n t ≡ room_checked L row n t
    sound_law B = same_test (sound_by L row n t) (room_checked L row n t) sound-passes (passes-sound B)

-- ---- the rows of an arena

-- a length outside the rule has none
pub no_rows : (row n : ℕ) → 0 < row → arena_rows row n ≡ 0 → arena_right row n ≡ false
unfolding arena_rows arena_right choose
no_rows row n pos e = go (arena_right row n) refl e
  where
    go : (b : Bool) → arena_right row n ≡ b → choose b (n / row) 0 ≡ 0 → arena_right row n ≡ false
    go true h q =
        let a : T (arena_right row n) = true-T (arena_right row n) h in
        let l : row ≤ n = leb→le row n (search (and_left, and_right)) in
        absurd (omega (arith, (le-div_iff_mul-le {k = row} {x = 1} {y = n} pos).1 (omega arith)))
    go false h q = h

pub some-rows_in : (row n : ℕ) → (arena_rows row n ≡ 0 → ⊥) → T (arena_right row n) × (n / row ≡ arena_rows row n)
unfolding arena_rows choose
some-rows_in row n f = go (arena_right row n) refl f
  where
    go : (b : Bool) → arena_right row n ≡ b → (choose b (n / row) 0 ≡ 0 → ⊥) → T (arena_right row n) × (n / row ≡ choose b (n / row) 0)
    go true h q = (true-T (arena_right row n) h, refl)
    go false h q = absurd (q refl)

-- ---- the head of a room

module _ {L : Layout} (law : LayoutLaws L) (row : ℕ) (pos : 0 < row) (small : 512 * row < 256 ^ 4) (n : ℕ) (t : List ℕ)
    (B : (i : ℕ) → get_or t i 0 < 256) where
  abbrev head_right : Bool
  head_right = eqb (length t) (row_at (arena_rows row n)) && eqb (number (part 0 4 t)) n && same (part 4 12 t) (zeros 12)

  head_law : (arena_rows row n ≡ 0 → ⊥) → sound_by L row n t ≡ (head_right && rows_checked L row 0 (arena_rows row n) (drop 16 t))
  unfolding room_checked
  head_law f = let q = some-rows_in row n f in sound_law law row pos n t q.0 small B ∙ rw q.1

  outside : arena_rows row n ≡ 0 → sound_by L row n t ≡ false
  unfolding sound_by
  outside e = rw (no_rows row n pos e)

  -- a room with no rows is not sound
  pub under_none : room_rows row n t ≡ 0 → sound_by L row n t ≡ false
  unfolding room_rows choose
  under_none = go head_right refl (eqb (arena_rows row n) 0) refl
    where
      go : (b : Bool) → head_right ≡ b → (z : Bool) → eqb (arena_rows row n) 0 ≡ z → choose b (arena_rows row n) 0 ≡ 0 → sound_by L row n t ≡ false
      go true e z f q = outside q
      go false e true f q = outside (eqb-true (arena_rows row n) 0 f)
      go false e false f q = head_law (eqb-false (arena_rows row n) 0 f) ∙ ap (λ b. b && rows_checked L row 0 (arena_rows row n) (drop 16 t)) e

  -- one with rows is, if its rows are
  pub under_some : (room_rows row n t ≡ 0 → ⊥)
      → (length t ≡ row_at (room_rows row n t)) × (sound_by L row n t ≡ rows_checked L row 0 (room_rows row n t) (drop 16 t))
  unfolding room_rows choose
  under_some = go head_right refl
    where
      go : (b : Bool) → head_right ≡ b → (choose b (arena_rows row n) 0 ≡ 0 → ⊥)
          → (length t ≡ row_at (choose b (arena_rows row n) 0)) × (sound_by L row n t ≡ rows_checked L row 0 (choose b (arena_rows row n) 0) (drop 16 t))
      go true e f =
          let u : T head_right = true-T head_right e in (
            eqb→eq (length t) (row_at (arena_rows row n)) (search (and_left, and_right)),
            head_law f ∙ ap (λ b. b && rows_checked L row 0 (arena_rows row n) (drop 16 t)) e,
          )
      go false e f = absurd (f refl)
