-- What the walk notes of one span, and that it has noted all at its end.
use Rattle.mem.proofs.Prelude.{◌∙◌, ◌≡◌, sym, ap, refl, subst, not, List, [], ◌∷◌, ◌++◌, append_assoc, append-nil, ◌+◌, ℕ, ◌<◌, ◌≤◌, ◌*◌}
use Rattle.mem.proofs.Prelude.{◌-◌, ◌/◌, sub-zero, arith, T, eqb, eqb-true, eqb-false, ltb→lt, length, drop, get_or, length-append, set, length-set}
use lib.Seq.{take_at, set_at, get_or-set_same, get_or-set_other}
use Rattle.mem.specs.Lists.{sum, join}
use Rattle.mem.specs.Bytes.{zeros, bit, part}
use Rattle.mem.proofs.Tests.{and_left, and_right, choose_case}
use Rattle.mem.proofs.Laws.{join-append, sum_snoc, zeros-length, zeros-none, zeros-left, zeros-add, zeros_at}
use Rattle.classes.specs.Classes.{rows_of}
use Rattle.model.specs.declared.Slot.{Slot}
use Rattle.model.specs.declared.Slot.TheVariants.{Fresh, Idle, Live}
use Rattle.model.specs.declared.Holder.{Holder}
use Rattle.model.specs.declared.Holder.TheVariants.{First}
use Rattle.model.specs.State.{Span, Pool, free, group, is_live, span_sound, well_formed, rows, rows_in}
use Rattle.model.specs.Tables.{Layout, row_at, view_by, view_holder, row_record_bytes}
use Rattle.model.proofs.Tables.{group_few}
use Rattle.model.proofs.Rooms.{rows_append}
use Rattle.rows.specs.Rows.{Lent}
use Rattle.rows.proofs.Rooms.{holder_of, some-rows, row_count, few_rows, row_inside, facts, before-sound, span_sound_lem, span_rows, span_holder}
use Rattle.serving.specs.Survey.{open_in, open_slots, row_map, map_of, NotesOf}
use Rattle.serving.specs.Walk.{Next, Noted}

-- ---- one span more

open_snoc : (c : ℕ) (X : Pool) (s : Span) → open_slots c (X ++ (s ∷ [])) ≡ open_slots c X + open_in c s
unfolding open_slots
open_snoc c X s = sum_snoc (open_in c) X s

rows_snoc : (row : ℕ) (X : Pool) (s : Span) → rows row (X ++ (s ∷ [])) ≡ rows row X + rows_in row s
rows_snoc row X s = omega (arith, rows_append row X (s ∷ []))

map_snoc : (row : ℕ) (X : Pool) (s : Span) → map_of row (X ++ (s ∷ [])) ≡ map_of row X ++ row_map row s
unfolding map_of
map_snoc row X s = join-append (row_map row) X (s ∷ []) ∙ ap (λ l. join (row_map row) X ++ l) (append-nil (row_map row s))

span_map : (row : ℕ) (s : Span) → length (row_map row s) ≡ rows_in row s
span_map row free = refl
span_map row (group c ss) = zeros-length (rows_of row c)

map-length : (row : ℕ) (X : Pool) → length (map_of row X) ≡ rows row X
unfolding map_of
map-length row [] = refl
map-length row (s ∷ X) = omega (arith, length-append (row_map row s) (join (row_map row) X), span_map row s, map-length row X)

-- ---- the slots of a group that are not live

idle_few : (ss : List Slot) → sum (λ x. bit (not (is_live x))) ss ≤ length ss
idle_few [] = omega arith
idle_few (Fresh ∷ ss) = omega (arith, idle_few ss)
idle_few (Idle r k d ∷ ss) = omega (arith, idle_few ss)
idle_few (Live a ∷ ss) = omega (arith, idle_few ss)

open_few : (c : ℕ) (s : Span) → T (span_sound s) → open_in c s ≤ 31
open_few c free t = omega arith
open_few c (group k ss) t =
    choose_case (λ n. n ≤ 31) (eqb k c) (sum (λ x. bit (not (is_live x))) ss) 0
    (λ _. omega (arith, idle_few ss, group_few k ss t)) (λ _. omega arith)

-- no count is large
counts_few : (row : ℕ) → 0 < row → (c : ℕ) (X : Pool) → T (well_formed X) → open_slots c X ≤ 31 * rows row X
unfolding open_slots
counts_few row pos c [] t = omega arith
counts_few row pos c (s ∷ X) t =
    let f = open_few c s (and_left (span_sound s) (well_formed X) t) in
    omega (arith, some-rows row pos s, counts_few row pos c X (and_right (span_sound s) (well_formed X) t))

-- ---- who holds the first row

-- no first row of a group: a free row
free_held : (s : Span) (h : Holder) → h ≡ holder_of s → ((c : ℕ) → h ≡ First c → ⊥) → s ≡ free
free_held free h e o = refl
free_held (group c ss) h e o = absurd (o c e)

group_held : (s : Span) (k : ℕ) → First k ≡ holder_of s → (ss : List Slot) × (s ≡ group k ss)
group_held free k e = let z : ◌≡◌ {A = ℕ} 0 1 = cc in absurd (omega arith)
group_held (group c ss) k e = let f : c ≡ k = cc in (ss, ap (λ c. group c ss) f)

-- ---- one step of the walk

-- what the code needs to add the slots of a group of class k whose first row is row i
pub record Countable (k : ℕ) (spare : List ℕ) : Type 0 where
  pub class : k < 48
  pub index : k < length spare
  pub count : get_or spare k 0 ≤ 15872

module _ {L : Layout} {row len : ℕ} {t : List ℕ} {i : ℕ} {X : Pool} {s : Span} {Y : Pool} (x : Next L row len t i X s Y) where
  pub span_inside : (i < 512) × (row_at i + row_record_bytes ≤ length t)
  span_inside =
      row_inside x.lent i (omega (arith, x.first, span_rows x.lent X s Y x.split, some-rows row x.lent.pos s))

  span_fits : i + rows_in row s ≤ len / row
  span_fits = omega (arith, x.first, row_count x.lent, span_rows x.lent X s Y x.split)

  holder : view_holder (drop (row_at i) t) ≡ holder_of s
  holder = ap (λ k. view_holder (drop (row_at k) t)) x.first ∙ span_holder x.lent X s Y x.split

  module _ {spare gaps : List ℕ} (n : Noted row (len / row) X spare gaps) where
    pub span_place : i < length gaps
    span_place =
        omega (
          arith,
          ap length n.rows-free,
          length-append (map_of row X) (zeros (len / row - rows row X)),
          map-length row X,
          zeros-length (len / row - rows row X),
          x.first,
          span_fits,
          some-rows row x.lent.pos s,
        )

-- the notes after a span
module _ {L : Layout} {row len : ℕ} {t : List ℕ} {i : ℕ} {X Y : Pool} {spare gaps : List ℕ} (n : Noted row (len / row) X spare gaps) where
  free_noted : Next L row len t i X free Y → Noted row (len / row) (X ++ (free ∷ [])) spare (set gaps i 1)
  free_noted x =
      let m = len / row in
      let e : gaps ≡ map_of row X ++ (0 ∷ zeros (m - (rows row X + 1))) =
      n.rows-free ∙ ap (λ l. map_of row X ++ l) (zeros-left m (rows row X) (omega (arith, x.first, span_fits x))) in
      record {
        classes = n.classes;
        counts = λ c h. omega (arith, n.counts c h, open_snoc c X free);
        rows-free = ap (λ l. set l i 1) e ∙ set_at (map_of row X) 0 (zeros (m - (rows row X + 1))) 1 i (map-length row X ∙ sym x.first)
            ∙ rw (map_snoc row X free, rows_snoc row X free) (sym (append_assoc (map_of row X) (1 ∷ []) (zeros (m - (rows row X + 1)))));
      }

  module _ {k : ℕ} {ss : List Slot} (x : Next L row len t i X (group k ss) Y) where
    group-sound : T (span_sound (group k ss))
    group-sound = span_sound_lem x.lent X (group k ss) Y x.split

    group-class : k < 48
    unfolding span_sound
    group-class = let t : T (span_sound (group k ss)) = group-sound in ltb→lt k 48 (search (and_left, and_right))

    -- the count of one class, when v slots of class k are added
    group_counts : (v : ℕ) → v ≡ sum (λ x. bit (not (is_live x))) ss → (c : ℕ) → c < 48
        → get_or (set spare k (get_or spare k 0 + v)) c 0 ≡ open_slots c X + open_in c (group k ss)
    group_counts v e c h =
        let l = set spare k (get_or spare k 0 + v) in
        choose_case (λ z. get_or l c 0 ≡ open_slots c X + z) (eqb k c) (sum (λ x. bit (not (is_live x))) ss) 0
        (λ q. subst (λ d. get_or l d 0 ≡ open_slots d X + sum (λ x. bit (not (is_live x))) ss) (eqb-true k c q)
        (omega (arith, get_or-set_same spare k (get_or spare k 0 + v) 0 (omega (arith, n.classes, group-class)), n.counts k group-class)))
        (λ q. omega (arith, get_or-set_other spare k c (get_or spare k 0 + v) 0 (λ z. eqb-false k c q (sym z)), n.counts c h))

    group_noted : (v : ℕ) → v ≡ sum (λ x. bit (not (is_live x))) ss → Noted row (len / row) (X ++ (group k ss ∷ [])) (set spare k (get_or spare k 0 + v)) gaps
    group_noted v e =
        let m = len / row in
        let r = rows_of row k in
        let l : m - rows row X ≡ r + (m - (rows row X + r)) = omega (arith, x.first, span_fits x) in
        record {
          classes = length-set spare k (get_or spare k 0 + v) ∙ n.classes;
          counts = λ c h. group_counts v e c h ∙ sym (open_snoc c X (group k ss));
          rows-free = n.rows-free ∙ rw (map_snoc row X (group k ss), rows_snoc row X (group k ss), append_assoc, ← zeros-add, ← l);
        }

    group_countable : Countable k spare
    group_countable = record {
      class = group-class;
      index = omega (arith, n.classes, group-class);
      count = omega (
        arith,
        n.counts k group-class,
        counts_few row x.lent.pos k X (before-sound x.lent X (group k ss) Y x.split),
        few_rows x.lent,
        span_rows x.lent X (group k ss) Y x.split,
      );
    }

-- by who holds the row
module _ {L : Layout} {row len : ℕ} {t : List ℕ} {i : ℕ} {X : Pool} {s : Span} {Y : Pool} (x : Next L row len t i X s Y) (h : Holder)
    (e : h ≡ view_holder (drop (row_at i) t)) where
  pub free_here : ((c : ℕ) → h ≡ First c → ⊥) → s ≡ free
  free_here o = free_held s h (e ∙ holder x) o

  module _ (k : ℕ) (g : h ≡ First k) where
    pub the_group : (ss : List Slot) × (s ≡ group k ss)
    the_group = group_held s k (sym g ∙ e ∙ holder x)

    pub group_here : Next L row len t i X (group k the_group.0) Y
    group_here = subst (λ s. Next L row len t i X s Y) the_group.1 x

    pub idle_slots : sum (λ x. bit (not (is_live x))) the_group.0 ≤ 31
    idle_slots = omega (arith, idle_few the_group.0, group_few k the_group.0 (span_sound_lem x.lent X (group k the_group.0) Y group_here.split))

  module _ {spare gaps : List ℕ} (n : Noted row (len / row) X spare gaps) where
    pub free-next : ((c : ℕ) → h ≡ First c → ⊥) → (1 ≡ rows_in row s) × Noted row (len / row) (X ++ (s ∷ [])) spare (set gaps i 1)
    free-next o =
        let f : s ≡ free = free_here o in
        subst (λ s. (1 ≡ rows_in row s) × Noted row (len / row) (X ++ (s ∷ [])) spare (set gaps i 1)) (sym f)
        (refl, free_noted n (subst (λ s. Next L row len t i X s Y) f x))

    module _ (k : ℕ) (g : h ≡ First k) where
      pub countable : Countable k spare
      countable = group_countable n (group_here k g)

      pub group-next : (v : ℕ) → v ≡ sum (λ x. bit (not (is_live x))) (the_group k g).0
          → (rows_of row k ≡ rows_in row s) × Noted row (len / row) (X ++ (s ∷ [])) (set spare k (get_or spare k 0 + v)) gaps
      group-next v f =
          subst (λ s. (rows_of row k ≡ rows_in row s) × Noted row (len / row) (X ++ (s ∷ [])) (set spare k (get_or spare k 0 + v)) gaps)
          (sym (the_group k g).1) (refl, group_noted n (group_here k g) v f)

-- ---- the walk

-- the walk has come to row i
pub record Passed (L : Layout) (row len : ℕ) (t : List ℕ) (i : ℕ) (spare gaps : List ℕ) : Type 0 where
  pub before : Pool
  pub after : Pool
  pub split : view_by L row t ≡ before ++ after
  pub first : i ≡ rows row before
  pub noted : Noted row (len / row) before spare gaps

-- the walk has passed k rows more
pub record Further (L : Layout) (row len : ℕ) (t : List ℕ) (i k : ℕ) (spare gaps : List ℕ) : Type 0 where
  pub some : 1 ≤ k
  pub inside : i + k ≤ len / row
  pub few : len / row ≤ 512
  pub again : Passed L row len t (i + k) spare gaps

-- at first nothing is noted
pub begin : (L : Layout) (row len : ℕ) (t spare gaps : List ℕ) → spare ≡ zeros 48 → gaps ≡ zeros (len / row) → Passed L row len t 0 spare gaps
unfolding open_slots map_of
begin L row len t spare gaps e f = record {
  before = [];
  after = view_by L row t;
  split = refl;
  first = refl;
  noted = record {
    classes = ap length e ∙ zeros-length 48;
    counts = λ c h. ap (λ l. get_or l c 0) e ∙ zeros_at 48 c;
    rows-free = f ∙ ap zeros (sym (sub-zero (len / row)));
  };
}

module _ {L : Layout} {row len : ℕ} {t : List ℕ} (r : Lent L row len t) {i : ℕ} {spare gaps : List ℕ} where
  -- behind the last row all is noted
  pub end : Passed L row len t i spare gaps → len / row ≤ i → NotesOf row (view_by L row t) spare gaps
  end p h = go p.after p.split
    where
      go : (Y : Pool) → view_by L row t ≡ p.before ++ Y → NotesOf row (view_by L row t) spare gaps
      go [] e =
          let f : p.before ≡ view_by L row t = sym (e ∙ append-nil p.before) in
          let n : Noted row (len / row) (view_by L row t) spare gaps = subst (λ P. Noted row (len / row) P spare gaps) f p.noted in
          let z : len / row - rows row (view_by L row t) ≡ 0 = omega (arith, row_count r) in
          record {
            formed = (facts r).formed;
            few = few_rows r;
            classes = n.classes;
            counts = n.counts;
            rows-free = n.rows-free ∙ rw (z, zeros-none) (append-nil (map_of row (view_by L row t)));
          }
      go (s ∷ Y) e = absurd (omega (arith, row_count r, p.first, span_rows r p.before s Y e, some-rows row r.pos s))

  -- the span at row i
  pub ahead : Passed L row len t i spare gaps → i < len / row
      → (X : Pool) × (s : Span) × (Y : Pool) × Next L row len t i X s Y × Noted row (len / row) X spare gaps
  ahead p h = go p.after p.split
    where
      go : (Y : Pool) → view_by L row t ≡ p.before ++ Y → (X : Pool) × (s : Span) × (Y : Pool) × Next L row len t i X s Y × Noted row (len / row) X spare gaps
      go [] e = absurd (omega (arith, row_count r, p.first, ap (rows row) (e ∙ append-nil p.before)))
      go (s ∷ Y) e = (p.before, s, Y, record { lent = r; split = e; first = p.first }, p.noted)

  -- what holds once it is noted
  pub further : Passed L row len t i spare gaps → i < len / row → {k : ℕ} {spare' map' : List ℕ}
      → ((len : ℕ) (X : Pool) (s : Span) (Y : Pool) → Next L row len t i X s Y → Noted row (len / row) X spare gaps
      → (k ≡ rows_in row s) × Noted row (len / row) (X ++ (s ∷ [])) spare' map')
      → Further L row len t i k spare' map'
  further p h {k} f =
      let a = ahead p h in
      let n = f len a.0 a.1 a.2 a.3 a.4 in
      record {
        some = omega (arith, n.0, some-rows row r.pos a.1);
        inside = omega (arith, n.0, span_fits a.3);
        few = omega (arith, row_count r, few_rows r);
        again = record {
          before = a.0 ++ (a.1 ∷ []);
          after = a.2;
          split = a.3.split ∙ sym (append_assoc a.0 (a.1 ∷ []) a.2);
          first = omega (arith, n.0, a.3.first, rows_snoc row a.0 a.1);
          noted = n.1;
        };
      }

-- the map has a place for each row
pub whole_map : {L : Layout} {row len : ℕ} {t spare gaps : List ℕ} → Lent L row len t → NotesOf row (view_by L row t) spare gaps → length gaps ≡ len / row
whole_map {L} {row} {len} {t} r w = ap length w.rows-free ∙ map-length row (view_by L row t) ∙ sym (row_count r)

-- ---- the rows in use of a map that has more

front-part : (p q : List ℕ) (n : ℕ) → length p ≡ n → part 0 (n - 0) (p ++ q) ≡ p
front-part p q n e = rw sub-zero (take_at p q n e)

pub zeros-front : (n m : ℕ) → n ≤ m → part 0 (n - 0) (zeros m) ≡ zeros n
zeros-front n m h =
    let e : m ≡ n + (m - n) = omega arith in
    rw (e, zeros-add n (m - n)) (front-part (zeros n) (zeros (m - n)) n (zeros-length n))

pub told-front : {row : ℕ} {P : Pool} {spare gaps : List ℕ} (q : List ℕ) (n : ℕ) → length gaps ≡ n → NotesOf row P spare gaps
    → NotesOf row P spare (part 0 (n - 0) (gaps ++ q))
told-front {row} {P} {spare} {gaps} q n e w = rw (front-part gaps q n e) w
