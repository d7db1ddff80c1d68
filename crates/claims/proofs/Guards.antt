-- A header and a guard that are due, in bytes of the arena.
use Rattle.mem.proofs.Prelude.{◌∙◌, ◌≡◌, sym, ap, subst, List, [], ◌∷◌, ◌+◌, ℕ, ◌<◌, ◌≤◌, ◌*◌, ◌-◌, arith, leb-true, Bool, T, leb, length, get_or}
use mathlib.Core.Logic.{◌↔◌}
use Rattle.mem.specs.Bytes.{low, part, same}
use Rattle.mem.proofs.Tests.{and_left, and_right, and_both, choose_case}
use Rattle.mem.proofs.Laws.{part-part, part-cons, same→eq, eq→same}
use Rattle.classes.specs.Classes.{slot_bytes}
use Rattle.model.specs.State.{Place, disp, size, well_formed, pool_of, slot_number, rows, owned, start}
use Rattle.model.specs.Blocks.{reserved, header, guard, first_spare, header_right, guard_right, owned_bytes}
use Rattle.model.specs.Calls.{Form, FormLaws}
use Rattle.model.proofs.Blocks.{first_spare_lem, guard-bytes}
use Rattle.model.proofs.Lookup.{Fits, fits, disp_inside, owned_inside}
use Rattle.claims.specs.Demand1.{header_due, guard_due}
use Rattle.claims.specs.AsSaid.{end, GuardBytes, GuardsAsSaid, HeaderBytes, HeadersAsSaid}

module _ (row : ℕ) (pos : 0 < row) (a : List ℕ) (p : Place) (w : T (well_formed (pool_of p))) (l : length a ≡ row * rows row (pool_of p)) where
  abbrev c : ℕ
  c = p.cls

  abbrev d : ℕ
  d = disp p.state

  abbrev n : ℕ
  n = size p.state

  abbrev r : ℕ
  r = reserved c d n

  abbrev bytes : List ℕ
  bytes = owned_bytes row a p

  -- what stands in the slot stands in the arena
  stands : (i : ℕ) (vs : List ℕ) → i + length vs ≤ slot_bytes c → T (same (part i (length vs) bytes) vs) ↔ (part (owned row p + i) (length vs) a ≡ vs)
  stands i vs h =
      let e : part i (length vs) bytes ≡ part (owned row p + i) (length vs) a = part-part (owned row p) (slot_bytes c) i (length vs) a h in
      (λ u. sym e ∙ same→eq _ _ u, λ v. eq→same _ _ (e ∙ v))

  -- the header
  pub header_stands : T (header_due row a p) ↔ HeaderBytes row a p
  unfolding header_right header
  header_stands =
      let e : owned row p + 16 * d ≡ start row p - 4 = omega arith in
      let f : Fits p = fits p w in
      let (to, from) = stands (16 * d) (header c (slot_number p) d n) (omega (arith, disp_inside c p.state f.class f.state)) in
      (λ u. ap (λ j. part j 4 a) (sym e) ∙ to u, λ v. from (ap (λ j. part j 4 a) e ∙ v))

  -- the first spare byte, if the block has one
  past_place : owned row p + (16 * d + 4 + n) ≡ start row p + n
  past_place = omega arith

  past_inside : 1 ≤ r → 16 * d + 4 + n + 1 ≤ slot_bytes c
  past_inside h = omega arith

  past_byte : 1 ≤ r → part (owned row p + (16 * d + 4 + n)) 1 a ≡ get_or a (start row p + n) 0 ∷ []
  past_byte h =
      part-cons (owned row p + (16 * d + 4 + n)) 0 a 0 (omega (arith, past_inside h, l, owned_inside row pos p w)) ∙ ap (λ j. get_or a j 0 ∷ []) past_place

  abbrev first_test : Bool
  first_test = same (part (16 * d + 4 + n) (length (first_spare r)) bytes) (first_spare r)

  first_stands : T first_test ↔ (1 ≤ r → get_or a (start row p + n) 0 ≡ 0)
  unfolding first_spare
  first_stands = (
    λ u h.
        let v : T (same (part (16 * d + 4 + n) 1 bytes) (0 ∷ [])) = subst (λ z. T (same (part (16 * d + 4 + n) (length z) bytes) z)) (first_spare_lem r h) u in
        ap (λ z. get_or z 0 0) (sym (past_byte h) ∙ (stands (16 * d + 4 + n) (0 ∷ []) (past_inside h)).0 v),
    λ v.
        choose_case (λ z. T (same (part (16 * d + 4 + n) (length z) bytes) z)) (leb 1 r) (0 ∷ []) []
        (λ e.
        let h : 1 ≤ r = leb-true 1 r e in
        (stands (16 * d + 4 + n) (0 ∷ []) (past_inside h)).1 (past_byte h ∙ ap (λ y. y ∷ []) (v h))) (λ e. tt),
  )

  -- the guard, if it has one
  guard_inside : 5 ≤ r → slot_bytes c - 5 + 5 ≤ slot_bytes c
  guard_inside h = omega arith

  guard_place : 5 ≤ r → owned row p + (slot_bytes c - 5) ≡ end row p - 5
  guard_place h = omega arith

  abbrev guard_test : Bool
  guard_test = same (part (slot_bytes c - length (guard r)) (length (guard r)) bytes) (guard r)

  guard_stands : T guard_test ↔ (5 ≤ r → part (end row p - 5) 5 a ≡ 0 ∷ low 4 r)
  unfolding guard
  guard_stands = (
    λ u h.
        let v : T (same (part (slot_bytes c - 5) 5 bytes) (0 ∷ low 4 r)) =
        subst (λ g. T (same (part (slot_bytes c - length g) (length g) bytes) g)) (guard-bytes r h) u in
        ap (λ j. part j 5 a) (sym (guard_place h)) ∙ (stands (slot_bytes c - 5) (0 ∷ low 4 r) (guard_inside h)).0 v,
    λ v.
        choose_case (λ g. T (same (part (slot_bytes c - length g) (length g) bytes) g)) (leb 5 r) (0 ∷ low 4 r) []
        (λ e.
        let h : 5 ≤ r = leb-true 5 r e in
        (stands (slot_bytes c - 5) (0 ∷ low 4 r) (guard_inside h)).1 (ap (λ j. part j 5 a) (guard_place h) ∙ v h)) (λ e. tt),
  )

  pub both_stand : T (guard_due row a p) ↔ GuardBytes row a p
  unfolding guard_right
  both_stand = (
    λ u. record { past = first_stands.0 (and_left first_test guard_test u); last = guard_stands.0 (and_right first_test guard_test u) },
    λ g. and_both first_test guard_test (first_stands.1 g.past) (guard_stands.1 g.last),
  )

-- a place in sound tables
module _ (row : ℕ) (F : Form) (L : FormLaws row F) (a : List ℕ) (t : F.Kept) (p : Place) (s : T (F.sound (length a) t)) (e : pool_of p ≡ F.view t) where
  formed : T (well_formed (pool_of p))
  formed = subst (λ P. T (well_formed P)) (sym e) (L.only (length a) t s).0.formed

  long : length a ≡ row * rows row (pool_of p)
  long = (L.only (length a) t s).0.long ∙ ap (λ P. row * rows row P) (sym e)

pub headers_as_said : (row : ℕ) → 0 < row → (F : Form) → FormLaws row F → HeadersAsSaid row F
headers_as_said row pos F L a t p s e = header_stands row pos a p (formed row F L a t p s e) (long row F L a t p s e)

pub guards_as_said : (row : ℕ) → 0 < row → (F : Form) → FormLaws row F → GuardsAsSaid row F
guards_as_said row pos F L a t p s e = both_stand row pos a p (formed row F L a t p s e) (long row F L a t p s e)
