-- Traces are read as they are written, and whole ones are written as they are read.
use Rattle.mem.proofs.Prelude.{◌∙◌, ◌≡◌, sym, ap, refl, ap₂, true, Bool, false, ◌&&◌, ◌⊎◌, inl, inr, List, [], ◌∷◌, ◌++◌, append_assoc, map, ℕ, ◌<◌, ◌≤◌, ◌+◌}
use Rattle.mem.proofs.Prelude.{zero, arith, T, eqb, leb, ltb, ltb→lt, leb→le, length, take, drop, get_or, length-append, length-drop, take-append-drop}
use Rattle.mem.proofs.Prelude.{◌-◌, suc, drop-drop, eqb-true, eqb-false, leb-true, le-leb, drop_at}
use mathlib.Core.Bool.{false≢true}
use lib.Seq.{take_at, take-add, take_all}
use lib.ListN.{drop_of_length-le}
use borrow.Author.Tests.{ltb-false}
use Rattle.mem.specs.Lists.{choose, every, join}
use Rattle.mem.specs.Bytes.{high, big, part}
use Rattle.mem.proofs.Tests.{and_left, and_right, choose_case}
use Rattle.mem.proofs.Laws.{part_length, part-cons, get_d_part, part-part, every-part}
use Rattle.mem.proofs.Big.{high-length, big-high, high-big}
use Rattle.trace.specs.declared.Op.{Op}
use Rattle.trace.specs.declared.Step.{Step}
use Rattle.trace.specs.declared.Step.TheVariants.{Record, Bad, End}
use Rattle.trace.specs.Trace.{Operation, grant, release, resize_in_place, measure, store, report, move, body, encode_record, encode_trace, writable}
use Rattle.trace.specs.Trace.{version, four, fits, op_at, record_at, step_at, operation_of, Item, does, items_by, items_from, items}
use Rattle.trace.specs.Written.{ReadsBack, WritesBack}
use Rattle.trace.proofs.Laws.{fits-none, fits_at, five, nine, record_good, at_end, whole, step_within}

-- ---- one record, read

-- the length of a record can count its bytes
body-small : (x : Operation) → T (writable x) → length (body x) < 65536
unfolding body writable
body-small (grant n) t = omega arith
body-small (release o) t = omega arith
body-small (resize_in_place o n) t = omega arith
body-small (measure o) t = omega arith
body-small (store o bs) t = omega (arith, leb→le (length bs) 65530 (and_right (ltb o 4294967296) (leb (length bs) 65530) t))
body-small report t = omega arith
body-small (move o n) t = omega arith

-- a number that stands i bytes into a record
four-read : (s : List ℕ) (p n i m : ℕ) (X R : List ℕ) → part p n s ≡ X ++ (high 4 m ++ R) → length X ≡ i → i + 4 ≤ n → T (ltb m 4294967296)
    → four s (p + i) ≡ m
four-read s p n i m X R e l h t =
    ap big (sym (part-part p n i 4 s h) ∙ ap (part i 4) e ∙ ap (take 4) (drop_at X (high 4 m ++ R) i l) ∙ take_at (high 4 m) R 4 (high-length 4 m))
    ∙ big-high 4 m (ltb→lt m 4294967296 t)

-- an operation's two numbers
two_read : (s : List ℕ) (p k o n : ℕ) → T (ltb o 4294967296 && ltb n 4294967296) → part p 9 s ≡ k ∷ (high 4 o ++ high 4 n)
    → (four s (p + 1) ≡ o) × (four s (p + 5) ≡ n)
two_read s p k o n t e = (
  four-read s p 9 1 o (k ∷ []) (high 4 n) e refl (omega arith) (and_left (ltb o 4294967296) (ltb n 4294967296) t),
  four-read s p 9 5 n (k ∷ high 4 o) [] e refl (omega arith) (and_right (ltb o 4294967296) (ltb n 4294967296) t),
)

-- the operation stands first
first_read : (s : List ℕ) (p n k : ℕ) (Y : List ℕ) → part p (suc n) s ≡ k ∷ Y → get_or s p 0 ≡ k
first_read s p n k Y e =
    let z : p ≡ p + 0 = omega arith in
    ap (λ i. get_or s i 0) z ∙ sym (get_d_part p (suc n) s 0 0 (omega arith)) ∙ ap (λ l. get_or l 0 0) e

-- where the bytes of a record stand, it is read
read-body : (x : Operation) (s : List ℕ) (p : ℕ) → T (writable x) → part p (length (body x)) s ≡ body x
    → (fits (get_or s p 0) (length (body x)) ≡ true) × (operation_of s (op_at (get_or s p 0) s p (length (body x))) ≡ x)
unfolding body writable fits op_at operation_of choose
read-body (grant n) s p t e = rw (first_read s p 4 1 (high 4 n) e) (refl, ap grant (four-read s p 5 1 n (1 ∷ []) [] e refl (omega arith) t))
read-body (release o) s p t e = rw (first_read s p 4 2 (high 4 o) e) (refl, ap release (four-read s p 5 1 o (2 ∷ []) [] e refl (omega arith) t))
read-body (resize_in_place o n) s p t e =
    let (f, g) = two_read s p 3 o n t e in
    rw (first_read s p 8 3 (high 4 o ++ high 4 n) e) (refl, ap₂ resize_in_place f g)
read-body (measure o) s p t e = rw (first_read s p 4 4 (high 4 o) e) (refl, ap measure (four-read s p 5 1 o (4 ∷ []) [] e refl (omega arith) t))
read-body (store o bs) s p t e =
    let n : ℕ = length (body (store o bs)) in
    let k : ℕ = length bs in
    let l = and_left (ltb o 4294967296) (leb k 65530) t in
    let f : four s (p + 1) ≡ o = four-read s p n 1 o (5 ∷ []) bs e refl (omega arith) l in
    let j : p + n - (p + 5) ≡ k = omega arith in
    let g : part (p + 5) k s ≡ bs = sym (part-part p n 5 k s (omega arith)) ∙ ap (part 5 k) e ∙ take_all k bs (omega arith) in
    rw (first_read s p (length (high 4 o ++ bs)) 5 (high 4 o ++ bs) e) (le-leb 5 n (omega arith), ap₂ store f (ap (λ m. part (p + 5) m s) j ∙ g))
read-body report s p t e = rw (first_read s p 0 6 [] e) (refl, refl)
read-body (move o n) s p t e =
    let (f, g) = two_read s p 7 o n t e in
    rw (first_read s p 8 7 (high 4 o ++ high 4 n) e) (refl, ap₂ move f g)

-- ---- all records, read

-- the step at a place where a written record stands, and behind it R
record Read (s : List ℕ) (p : ℕ) (x : Operation) (R : List ℕ) : Type 0 where
  op : Op
  next : ℕ
  step : Record op next ≡ step_at s p
  act : operation_of s op ≡ x
  rest : drop next s ≡ R

step-read : (s : List ℕ) (p : ℕ) (x : Operation) (R : List ℕ) → T (writable x) → drop p s ≡ encode_record x ++ R → Read s p x R
unfolding encode_record
step-read s p x R t e =
    let n : ℕ = length (body x) in
    let d : drop p s ≡ high 2 n ++ (body x ++ R) = e ∙ append_assoc (high 2 n) (body x) R in
    let b : drop (p + 2) s ≡ body x ++ R = sym (drop-drop 2 p s) ∙ ap (drop 2) d ∙ drop_at (high 2 n) (body x ++ R) 2 (high-length 2 n) in
    let c : big (part p 2 s) ≡ n = ap big (ap (take 2) d ∙ take_at (high 2 n) (body x ++ R) 2 (high-length 2 n)) ∙ big-high 2 n (body-small x t) in
    let h : p + 2 + big (part p 2 s) ≤ length s = omega (arith, length-drop p s, ap length d, length-append (body x) R) in
    let r = read-body x s (p + 2) t (ap (take n) b ∙ take_at (body x) R n refl) in
    record {
      op = op_at (get_or s (p + 2) 0) s (p + 2) n;
      next = p + 2 + n;
      step = record_good s (p + 2) n _ r.0 refl ∙ ap (record_at s (p + 2)) (sym c) ∙ whole s p h;
      act = r.1;
      rest = sym (drop-drop n (p + 2) s) ∙ ap (drop n) b ∙ drop_at (body x) R n refl;
    }

-- from a place on
reads_from : (s : List ℕ) (k p : ℕ) (xs : List Operation) → T (every writable xs) → length xs ≤ k → drop p s ≡ join encode_record xs
    → items_from k s p ≡ map does xs
unfolding items_from
reads_from s zero p [] t h e = refl
reads_from s zero p (x ∷ xs) t h e = absurd (omega arith)
reads_from s (suc k) p [] t h e = ap (items_by s (items_from k s)) (sym (at_end s p (omega (arith, length-drop p s, ap length e))))
reads_from s (suc k) p (x ∷ xs) t h e =
    let r : Read s p x (join encode_record xs) = step-read s p x (join encode_record xs) (and_left (writable x) (every writable xs) t) e in
    ap (items_by s (items_from k s)) (sym r.step)
    ∙ ap₂ (λ y l. does y ∷ l) r.act (reads_from s k r.next xs (and_right (writable x) (every writable xs) t) (omega arith) r.rest)

-- there are fewer records than bytes
join_long : (xs : List Operation) → length xs ≤ length (join encode_record xs)
unfolding encode_record
join_long [] = omega arith
join_long (x ∷ xs) = omega (arith, length-append (body x) (join encode_record xs), join_long xs)

pub reads_back : ReadsBack
unfolding items encode_trace
reads_back xs t = reads_from (encode_trace xs) (length (encode_trace xs)) 1 xs t (omega (arith, join_long xs)) refl

-- ---- one record, written

-- what is none of the others is a report
six : (k n : ℕ) → fits k n ≡ true → (k ≡ 1 → ⊥) → (k ≡ 2 → ⊥) → (k ≡ 3 → ⊥) → (k ≡ 4 → ⊥) → (k ≡ 5 → ⊥) → (k ≡ 7 → ⊥) → k ≡ 6
six k n h a b c d e g = go (eqb k 6) refl
  where
    go : (t : Bool) → eqb k 6 ≡ t → k ≡ 6
    go true f = eqb-true k 6 f
    go false f = absurd (false≢true (fits-none k n a b c d e (eqb-false k 6 f) g ∙ h))

module _ (s : List ℕ) (t : T (every (λ b. ltb b 256) s)) where
  -- the number that stands in k bytes is written as they are
  high_part : (q k : ℕ) → q + k ≤ length s → high k (big (part q k s)) ≡ part q k s
  high_part q k h = high-big k (part q k s) (part_length q k s h) (every-part (λ b. ltb b 256) q k s t)

  -- an operation, its first number and m bytes more
  number-written : (p k m n : ℕ) → get_or s p 0 ≡ k → n ≡ 5 + m → p + n ≤ length s → k ∷ (high 4 (four s (p + 1)) ++ part (p + 5) m s) ≡ part p n s
  number-written p k m n e l h =
      let a : n ≡ suc (4 + m) = omega arith in
      let b : suc p ≡ p + 1 = omega arith in
      let c : p + 1 + 4 ≡ p + 5 = omega arith in
      sym (ap (λ j. part p j s) a ∙ part-cons p (4 + m) s 0 (omega arith)
      ∙ ap₂ (λ x r. x ∷ r) e (ap (λ j. part j (4 + m) s) b ∙ take-add 4 m (drop (p + 1) s)
      ∙ ap₂ (λ x r. x ++ r) (sym (high_part (p + 1) 4 (omega arith))) (ap (take m) (drop-drop 4 (p + 1) s ∙ ap (λ j. drop j s) c))))

  -- a record that fits is written as it stands
  written : (k p n : ℕ) → fits k n ≡ true → get_or s p 0 ≡ k → p + n ≤ length s → body (operation_of s (op_at k s p n)) ≡ part p n s
  unfolding op_at operation_of body fits choose
  written k p n f e h =
      choose_case W (eqb k 1) _ _ (λ a. one (eqb-true k 1 a) (eqb-true n 5))
      (λ a. choose_case W (eqb k 2) _ _ (λ b. one (eqb-true k 2 b) (eqb-true n 5))
      (λ b. choose_case W (eqb k 3) _ _ (λ c. two (eqb-true k 3 c) (inl refl))
      (λ c. choose_case W (eqb k 4) _ _ (λ d. one (eqb-true k 4 d) (eqb-true n 5))
      (λ d. choose_case W (eqb k 5) _ _ (λ g. stored (eqb-true k 5 g))
      (λ g. choose_case W (eqb k 7) _ _ (λ i. two (eqb-true k 7 i) (inr refl))
      (λ i. last (six k n f (eqb-false k 1 a) (eqb-false k 2 b) (eqb-false k 3 c) (eqb-false k 4 d) (eqb-false k 5 g) (eqb-false k 7 i))))))))
    where
      W : Op → Type 0
      W o = body (operation_of s o) ≡ part p n s

      one : {j : ℕ} → k ≡ j → (fits j n ≡ true → n ≡ 5) → j ∷ high 4 (four s (p + 1)) ≡ part p n s
      one {j} a l = number-written p j 0 n (e ∙ a) (l (fits_at k j n a f)) h

      two : {j : ℕ} → k ≡ j → (j ≡ 3) ⊎ (j ≡ 7) → j ∷ (high 4 (four s (p + 1)) ++ high 4 (four s (p + 5))) ≡ part p n s
      two {j} a b =
          let l : n ≡ 9 = nine k j n a b f in
          ap (λ r. j ∷ (high 4 (four s (p + 1)) ++ r)) (high_part (p + 5) 4 (omega arith)) ∙ number-written p j 4 n (e ∙ a) l h

      stored : k ≡ 5 → 5 ∷ (high 4 (four s (p + 1)) ++ part (p + 5) (p + n - (p + 5)) s) ≡ part p n s
      stored a = number-written p 5 (p + n - (p + 5)) n (e ∙ a) (omega (arith, five k 5 n a (omega arith) (omega arith) f)) h

      last : k ≡ 6 → 6 ∷ [] ≡ part p n s
      last a =
          let l : n ≡ 1 = eqb-true n 1 (fits_at k 6 n a f) in
          sym (ap (λ j. part p j s) l ∙ part-cons p 0 s 0 (omega arith) ∙ ap (λ x. x ∷ []) (e ∙ a))

  -- ---- all records, written

  -- what a step takes of the trace is what is written for it
  abbrev Wrote : ℕ → Step → Type 0
  Wrote p (Record op q) = encode_record (operation_of s op) ++ drop q s ≡ drop p s
  Wrote p Bad = Unit {0}
  Wrote p End = length s ≤ p

  -- its length too
  record_wrote : (p n : ℕ) → big (part p 2 s) ≡ n → fits (get_or s (p + 2) 0) n ≡ true → p + 2 + n ≤ length s
      → encode_record (operation_of s (op_at (get_or s (p + 2) 0) s (p + 2) n)) ++ drop (p + 2 + n) s ≡ drop p s
  unfolding encode_record
  record_wrote p n e f h =
      let x : Operation = operation_of s (op_at (get_or s (p + 2) 0) s (p + 2) n) in
      let b : body x ≡ part (p + 2) n s = written (get_or s (p + 2) 0) (p + 2) n f refl h in
      let l : length (body x) ≡ big (part p 2 s) = ap length b ∙ part_length (p + 2) n s h ∙ sym e in
      let a : high 2 (length (body x)) ≡ part p 2 s = ap (high 2) l ∙ high_part p 2 (omega arith) in
      ap₂ (λ u v. (u ++ v) ++ drop (p + 2 + n) s) a b
      ∙ append_assoc (part p 2 s) (part (p + 2) n s) (drop (p + 2 + n) s)
      ∙ ap (λ r. part p 2 s ++ r) (ap (λ r. part (p + 2) n s ++ r) (sym (drop-drop n (p + 2) s)) ∙ take-append-drop n (drop (p + 2) s) ∙ sym (drop-drop 2 p s))
      ∙ take-append-drop 2 (drop p s)

  step_wrote : (p : ℕ) → Wrote p (step_at s p)
  unfolding step_at record_at
  step_wrote p =
      choose_case (Wrote p) (leb (length s) p) _ _ (leb-true (length s) p)
      (λ _. choose_case (Wrote p) (ltb (length s) (p + 2)) _ _ (λ _. tt)
      (λ _. choose_case (Wrote p) (ltb (length s) (p + 2 + big (part p 2 s))) _ _ (λ _. tt)
      (λ e. choose_case (Wrote p) (fits (get_or s (p + 2) 0) (big (part p 2 s))) _ _
      (λ f. record_wrote p (big (part p 2 s)) refl f (ltb-false (length s) (p + 2 + big (part p 2 s)) e)) (λ _. tt))))

  -- what is read of a step and of what stands behind it
  step_back : (p : ℕ) (d : Step) (rest : ℕ → List Item) (xs : List Operation) → Wrote p d
      → ((op : Op) (q : ℕ) → d ≡ Record op q → (ys : List Operation) → rest q ≡ map does ys → join encode_record ys ≡ drop q s)
      → items_by s rest d ≡ map does xs → join encode_record xs ≡ drop p s
  step_back p (Record op q) rest [] w r e = cc
  step_back p (Record op q) rest (x ∷ xs) w r e =
      let a : operation_of s op ≡ x = cc in
      let b : rest q ≡ map does xs = cc in
      ap₂ (λ y l. encode_record y ++ l) (sym a) (r op q refl xs b) ∙ w
  step_back p Bad rest [] w r e = cc
  step_back p Bad rest (x ∷ xs) w r e = cc
  step_back p End rest [] w r e = sym (drop_of_length-le s w)
  step_back p End rest (x ∷ xs) w r e = cc

  -- from a place on, with fuel for every byte that is left
  writes_from : (k p : ℕ) (xs : List Operation) → length s ≤ p + k → items_from k s p ≡ map does xs → join encode_record xs ≡ drop p s
  unfolding items_from
  writes_from zero p [] h e = sym (drop_of_length-le s {i = p} (omega arith))
  writes_from zero p (x ∷ xs) h e = cc
  writes_from (suc k) p xs h e =
      step_back p (step_at s p) (items_from k s) xs (step_wrote p)
      (λ op q d ys. writes_from k q ys (omega (arith, (step_within s p op q (sym d)).0))) e

pub writes-back : WritesBack
unfolding items encode_trace
writes-back bs xs t e = ap (λ l. version ∷ l) (writes_from (version ∷ bs) t (length (version ∷ bs)) 1 xs (omega arith) e)
