-- A slot's record as two numbers of four bytes, and the loop over the slots that reads it so.
use Rattle.mem.proofs.Prelude.{◌∙◌, ◌≡◌, sym, ap, refl, ap₂, true, Bool, false, ◌&&◌, not, ◌||◌, and-false, and-true, List, ◌+◌, ℕ}
use Rattle.mem.proofs.Prelude.{◌<◌, ◌≤◌, ◌*◌, ◌-◌, suc, ◌/◌, ◌^◌, ◌%◌, add-zero, pow-suc, add-one, add-two, arith, ne_eqb, le-leb, lt-leb, eqb-false}
use Rattle.mem.proofs.Prelude.{eqb-true, eqb, leb, lit≤, ltb, eqb→eq, ltb→lt, lt→ltb, length, drop, get_or, take, drop-drop, get_or-drop}
use native.Mathlib.Nat.{div-div-eq-div-mul}
use Rattle.mem.specs.Bytes.{zeros, number, same, part}
use Rattle.mem.proofs.Tests.{same_test, eq→eqb, and_both, and_left, and_right}
use Rattle.mem.proofs.Laws.{number-part, zeros-add, zeros-length, same-part-low}
use Rattle.classes.specs.Classes.{slot_bytes, size_limit, below2}
use Rattle.classes.proofs.Laws.{bytes-units, units_small}
use Rattle.model.specs.Tables.{sizes_in, view_slot}
use Rattle.mem.specs.Lists.{choose, starts}
use Rattle.mem.proofs.Starts.{starts_from, starts-zeros}
use Rattle.slot_rules.specs.Rules.{record_checked, live_checked, exact_checked}
use Rattle.slot_walks.specs.Slots.{slot_checked, slots_checked, slots_exactly}
use Rattle.slot_walks.proofs.Laws.{fresh_law, ready_law, idle_law, live_law, slots_turn, slots_end, slot_exactly, live_rule, live_rule_lem, live_form}
use Rattle.slot_walks.proofs.Laws.{tag_at, count_at, disp_at_lem, size_at_lem, idle_exact, exact_turn, exact_end}

-- ---- the tests, in the order of the code

or-false : (a : Bool) → (a || false) ≡ a
or-false true = refl
or-false false = refl

live_order : (a b c d e z m : Bool) → (b && e) ≡ m → (b && (a && c && d && e)) ≡ (not false && (a || false) && c && (false || d) && (true || z) && m)
live_order true b true true e z m h = h
live_order true b true false e z m h = and-false b
live_order true b false d e z m h = and-false b
live_order false b c d e z m h = and-false b

idle_order : (most : ℕ) (a : Bool) (d h : ℕ) → (a && eqb h 0 && leb (16 * d) most)
    ≡ (a && leb (16 * d + h % 16777216) most && true && eqb h 0 && ltb h size_limit)
unfolding size_limit
idle_order most a d h = go (eqb h 0) refl
  where
    go : (b : Bool) → eqb h 0 ≡ b → (a && b && leb (16 * d) most) ≡ (a && leb (16 * d + h % 16777216) most && true && b && ltb h size_limit)
    go true e = rw (eqb-true h 0 e) (simp (add-zero, and-true))
    go false e = simp and-false

fresh_order : (most l h : ℕ) → (eqb l 0 && eqb h 0) ≡ (eqb l 0 && leb (16 * (l / 65536) + h % 16777216) most && true && eqb h 0 && ltb h size_limit)
unfolding size_limit
fresh_order most l h = go (eqb l 0) refl (eqb h 0) refl
  where
    go : (a : Bool) → eqb l 0 ≡ a → (b : Bool) → eqb h 0 ≡ b → (a && b)
        ≡ (a && leb (16 * (l / 65536) + h % 16777216) most && true && b && ltb h size_limit)
    go true e true f = rw (eqb-true l 0 e, eqb-true h 0 f, le-leb (16 * (0 / 65536) + 0 % 16777216) most (omega arith))
    go true e false f = simp and-false
    go false e b f = refl

-- four bytes are zero where their number is
pub zeros-quad : (s : List ℕ) → ((i : ℕ) → get_or s i 0 < 256) → (p : ℕ) → p + 4 ≤ length s → starts (drop p s) (zeros 4) ≡ eqb (number (part p 4 s)) 0
unfolding zeros
zeros-quad s B p h = sym (starts-zeros p 4 s) ∙ same-part-low p 4 s 0 h B (lit≤ tt)

module _ (s : List ℕ) (B : (i : ℕ) → get_or s i 0 < 256) (at : ℕ) (fit : at + 8 ≤ length s) where
  abbrev lo : ℕ
  lo = number (part at 4 s)

  abbrev hi : ℕ
  hi = number (part (at + 4) 4 s)

  -- the fields of the record in the two numbers
  low_tag : lo % 256 ≡ get_or s at 0
  low_tag = let e = number-part at 4 s (omega arith) in let b = B at in omega arith

  low-disp : lo / 65536 ≡ number (part (at + 2) 2 s)
  low-disp =
      let e = number-part at 4 s (omega arith) in
      let f = rw add-two at (number-part (at + 2) 2 s (omega arith)) in
      let b = B at in
      let b₁ = B (suc at) in
      rw add-two
      (omega arith)

  size_small : number (part (at + 4) 3 s) < 16777216
  size_small =
      let f = number-part (at + 4) 3 s (omega arith) in
      let b = B (at + 4) in
      let b₁ = B (suc (at + 4)) in
      let b₂ = B (suc (suc (at + 4))) in
      omega arith

  high_split : hi ≡ number (part (at + 4) 3 s) + 16777216 * get_or s (at + 7) 0
  high_split =
      let e = number-part (at + 4) 4 s (omega arith) in
      let f = number-part (at + 4) 3 s (omega arith) in
      let p : at + 7 ≡ suc (suc (suc (at + 4))) = omega arith in
      rw p
      (omega arith)

  high-size : hi % 16777216 ≡ number (part (at + 4) 3 s)
  high-size = omega (arith, high_split, size_small)

  -- a size that can be asked for, and a zero after it
  high_bound : (eqb (get_or s (at + 7) 0) 0 && ltb (number (part (at + 4) 3 s)) size_limit) ≡ ltb hi size_limit
  unfolding size_limit
  high_bound =
      same_test _ (ltb hi 131052)
      (λ t. let e = eqb→eq (get_or s (at + 7) 0) 0 (and_left (eqb (get_or s (at + 7) 0) 0) (ltb (number (part (at + 4) 3 s)) 131052) t) in
      let l = ltb→lt (number (part (at + 4) 3 s)) 131052 (and_right (eqb (get_or s (at + 7) 0) 0) (ltb (number (part (at + 4) 3 s)) 131052) t) in
      lt→ltb hi 131052 (omega (arith, high_split)))
      (λ t. let l = ltb→lt hi 131052 t in
      and_both (eqb (get_or s (at + 7) 0) 0) (ltb (number (part (at + 4) 3 s)) 131052)
      (eq→eqb (get_or s (at + 7) 0) 0 (omega (arith, high_split))) (lt→ltb (number (part (at + 4) 3 s)) 131052 (omega (arith, high_split))))

  zeros-high : same (part (at + 4) 4 s) (zeros 4) ≡ eqb hi 0
  zeros-high = starts-zeros (at + 4) 4 s ∙ zeros-quad s B (at + 4) (omega arith)

  zeros-both : same (part at 8 s) (zeros 8) ≡ (eqb lo 0 && eqb hi 0)
  zeros-both =
      starts-zeros at 8 s
      ∙ rw (zeros-add 4 4) (starts_from s at 4 (at + 4) (zeros 4) (zeros 4) (zeros-length 4) refl)
      ∙ ap₂ ◌&&◌ (zeros-quad s B at (omega arith)) (zeros-quad s B (at + 4) (omega arith))

  module _ (most least : ℕ) where
    waiting_law : slot_checked most least false true (drop at s) ≡ record_checked most least false true lo hi
    unfolding record_checked
    waiting_law =
        idle_law s B at fit most least
        ∙ rw (low_tag, low-disp, zeros-high, or-false (eqb (get_or s at 0) 1))
        (idle_order most (eqb (get_or s at 0) 1) (number (part (at + 2) 2 s)) hi)

    ready_case : (b : Bool) → eqb (get_or s at 0) 0 ≡ b → slot_checked most least true false (drop at s) ≡ record_checked most least true false lo hi
    unfolding record_checked
    ready_case true e =
        let z = eqb-true (get_or s at 0) 0 e in
        fresh_law s B at fit most least z ∙ zeros-both ∙ rw (low_tag, z) (fresh_order most lo hi)
    ready_case false e =
        let f : eqb lo 0 ≡ false = ne_eqb lo 0 (λ q. omega (arith, low_tag, eqb-false (get_or s at 0) 0 e)) in
        ready_law s B at fit most least (eqb-false (get_or s at 0) 0 e)
        ∙ idle_law s B at fit most 0
        ∙ rw (f, low_tag, low-disp, zeros-high, or-false (eqb (get_or s at 0) 1))
        (idle_order most (eqb (get_or s at 0) 1) (number (part (at + 2) 2 s)) hi)

    pub record_law : (r w : Bool) → slot_checked most least r w (drop at s) ≡ record_checked most least r w lo hi
    unfolding record_checked slot_checked
    record_law true true = refl
    record_law true false = ready_case (eqb (get_or s at 0) 0) refl
    record_law false true = waiting_law
    record_law false false =
        live_law s B at fit most least
        ∙ rw (low_tag, low-disp, high-size)
        (live_order (eqb (get_or s at 0) 1) (eqb (get_or s (at + 7) 0) 0) (leb (16 * number (part (at + 2) 2 s) + number (part (at + 4) 3 s)) most)
        (ltb least (number (part (at + 4) 3 s) + 4)) (ltb (number (part (at + 4) 3 s)) size_limit) (eqb hi 0)
        (ltb hi size_limit) high_bound)

  -- a live slot: every rule, of the two numbers
  module _ (c b : ℕ) (h : c < 48) where
    -- a byte after the size that is not 0 makes a size that no slot holds
    zero-after : (z : Bool) → eqb (get_or s (at + 7) 0) 0 ≡ z
        → (z && live_rule (slot_bytes c - 4) (below2 c) b (get_or s at 0) (number (part (at + 2) 2 s)) (number (part (at + 4) 3 s)))
        ≡ live_checked (slot_bytes c - 4) (below2 c) b lo hi
    unfolding live_checked
    zero-after true e =
        let f : hi ≡ number (part (at + 4) 3 s) = omega (arith, high_split, eqb-true (get_or s (at + 7) 0) 0 e) in
        rw (low_tag, low-disp, f)
    zero-after false e =
        let n = eqb-false (get_or s (at + 7) 0) 0 e in
        let l : slot_bytes c - 4 < 16 * (lo / 65536) + hi = omega (arith, high_split, bytes-units c, units_small c) in
        rw (lt-leb (16 * (lo / 65536) + hi) (slot_bytes c - 4) l) (sym (simp and-false))

    live_exact : slot_exactly c b false false (drop at s) ≡ live_checked (slot_bytes c - 4) (below2 c) b lo hi
    unfolding slot_exactly view_slot
    live_exact =
        let x = part at 8 s in
        ap₂ ◌&&◌ (live_form s B at fit)
        (live_rule_lem c b h (get_or x 1 0) (get_or x 0 0) (number (part 2 2 x)) (number (part 4 3 x)) (rw (count_at s B at fit) (B (at + 1))))
        ∙ rw (tag_at s B at fit, disp_at_lem s B at fit, size_at_lem s B at fit) (zero-after (eqb (get_or s (at + 7) 0) 0) refl)

    pub exact_law : (r w : Bool) → slot_exactly c b r w (drop at s) ≡ exact_checked (slot_bytes c - 4) (below2 c) b r w lo hi
    unfolding exact_checked choose
    exact_law true w =
        idle_exact c b true w (drop at s) (λ i. rw (get_or-drop at s i 0) (B (at + i))) refl ∙ record_law (slot_bytes c - 4) (below2 c) true w
    exact_law false true =
        idle_exact c b false true (drop at s) (λ i. rw (get_or-drop at s i 0) (B (at + i))) refl ∙ record_law (slot_bytes c - 4) (below2 c) false true
    exact_law false false = live_exact

-- ---- the loop

half : (m i : ℕ) → m / 2 ^ i / 2 ≡ m / 2 ^ (i + 1)
half m i = div-div-eq-div-mul m (2 ^ i) 2 ∙ ap (λ (p : ℕ). m / p) (sym (rw (add-one i) (pow-suc 2 i)))

module _ (s : List ℕ) (B : (i : ℕ) → get_or s i 0 < 256) (most least at n i ready waiting : ℕ) (left : i < n) (fit : at + 8 * n ≤ length s) where
  abbrev p : ℕ
  p = at + 8 * i

  -- what is left is the next record, and what is left after it
  pub walk_turn : slots_checked most least (n - i) (ready / 2 ^ i) (waiting / 2 ^ i) (drop p s)
      ≡ (record_checked most least (eqb (ready / 2 ^ i % 2) 1) (eqb (waiting / 2 ^ i % 2) 1) (number (part p 4 s)) (number (part (p + 4) 4 s))
      && slots_checked most least (n - (i + 1)) (ready / 2 ^ (i + 1)) (waiting / 2 ^ (i + 1)) (drop (at + 8 * (i + 1)) s))
  walk_turn =
      let e : at + 8 * i + 8 ≡ at + 8 * (i + 1) = omega arith in
      slots_turn most least n i (ready / 2 ^ i) (waiting / 2 ^ i) (drop p s) left
      ∙ rw (record_law s B p (omega arith) most least, half ready i, half waiting i, drop-drop 8 p s, e)

  pub sizes_turn : (bytes : ℕ) → bytes + sizes_in (n - i) (drop p s)
      ≡ bytes + number (part (p + 4) 4 s) % 16777216 + sizes_in (n - (i + 1)) (drop (at + 8 * (i + 1)) s)
  unfolding sizes_in
  sizes_turn bytes =
      let e : n - i ≡ suc (n - (i + 1)) = omega arith in
      let f : at + 8 * i + 8 ≡ at + 8 * (i + 1) = omega arith in
      let g : sizes_in (n - i) (drop p s) ≡ number (part (p + 4) 3 s) + sizes_in (n - (i + 1)) (drop (at + 8 * (i + 1)) s) =
      ap (λ (m : ℕ). sizes_in m (drop p s)) e
      ∙ ap₂ (λ (l r : List ℕ). number (take 3 l) + sizes_in (n - (i + 1)) r) (drop-drop 4 p s) (drop-drop 8 p s ∙ ap (λ (q : ℕ). drop q s) f) in
      omega (arith, high-size s B p (omega arith))

pub walk_end : (most least n i ready waiting : ℕ) (t : List ℕ) → i ≡ n
    → slots_checked most least (n - i) (ready / 2 ^ i) (waiting / 2 ^ i) t ≡ (eqb (ready / 2 ^ n) 0 && eqb (waiting / 2 ^ n) 0)
walk_end most least n i ready waiting t e = rw e (slots_end most least (n - n) (ready / 2 ^ n) (waiting / 2 ^ n) t (omega arith))

-- the same of any blocks: the first slot begins at b
pub exact_walk_turn : (s : List ℕ) → ((i : ℕ) → get_or s i 0 < 256) → (c b at n i ready waiting : ℕ) → c < 48 → i < n → at + 8 * n ≤ length s
    → (let p = at + 8 * i in
    slots_exactly c (b + i * slot_bytes c) (n - i) (ready / 2 ^ i) (waiting / 2 ^ i) (drop p s)
    ≡ (exact_checked (slot_bytes c - 4) (below2 c) (b + i * slot_bytes c) (eqb (ready / 2 ^ i % 2) 1) (eqb (waiting / 2 ^ i % 2) 1)
    (number (part p 4 s)) (number (part (p + 4) 4 s))
    && slots_exactly c (b + (i + 1) * slot_bytes c) (n - (i + 1)) (ready / 2 ^ (i + 1)) (waiting / 2 ^ (i + 1)) (drop (at + 8 * (i + 1)) s)))
exact_walk_turn s B c b at n i ready waiting h left fit =
    let p = at + 8 * i in
    let e : at + 8 * i + 8 ≡ at + 8 * (i + 1) = omega arith in
    exact_turn c b n i (ready / 2 ^ i) (waiting / 2 ^ i) (drop p s) left
    ∙ rw (exact_law s B p (omega arith) c (b + i * slot_bytes c) h, half ready i, half waiting i, drop-drop 8 p s, e)

pub exact_walk_end : (c b n i ready waiting : ℕ) (t : List ℕ) → i ≡ n
    → slots_exactly c b (n - i) (ready / 2 ^ i) (waiting / 2 ^ i) t ≡ (eqb (ready / 2 ^ n) 0 && eqb (waiting / 2 ^ n) 0)
exact_walk_end c b n i ready waiting t e = rw e (exact_end c b (n - n) (ready / 2 ^ n) (waiting / 2 ^ n) t (omega arith))

pub sizes-end : (k : ℕ) (t : List ℕ) → k ≡ 0 → sizes_in k t ≡ 0
unfolding sizes_in
sizes-end k t e = rw e
