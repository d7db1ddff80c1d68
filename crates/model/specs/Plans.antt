-- The calls on the pool's state alone: what each answers, the state after it, and what it writes to the arena. No byte is read.
use Rattle.std.specs.Prelude.{ℕ, zero, suc, ◌+◌, ◌*◌, ◌-◌, ◌/◌, ◌%◌, min, ◌≡◌, Bool, true, false, ◌&&◌, not, T, ltb, get_or, replicate, Option, None, Some}
use mathlib.Core.List.{List, [], ◌∷◌, ◌++◌, map}
use Rattle.std.proofs.Math.Dec.{leb, eqb}
use Rattle.std.proofs.Math.ListN.{take, drop}
use Rattle.mem.specs.Lists.{choose, every, any, first, find, sum}
use Rattle.mem.specs.Bytes.{zeros, bit}
use Rattle.classes.specs.Classes.{slot_bytes, class_of, slots_of, rows_of, size_limit, own_class}
use Rattle.classes.specs.Alignments.{ordinary, align_of, code_of, enlarged, round_up}
use Rattle.model.specs.declared.Slot.{Slot}
use Rattle.model.specs.declared.Slot.TheVariants.{Fresh, Idle, Live}
use Rattle.model.specs.declared.Refusal.{Refusal}
use Rattle.model.specs.declared.Refusal.TheVariants.{TooLarge, NoSuchBlock, AlreadyFree, Stale, NoRoom, NotInPlace, TooLong, BadProposal, BadAlignment}
use Rattle.model.specs.declared.Totals.{Totals}
use Rattle.model.specs.State.{Span, Pool, Place, free, group, is_live, is_ready, is_waiting, count, disp, size, align, use_bits}
use Rattle.model.specs.State.{start_of, pool_of, become, slot_number, places, rows, base, owned, start, handle}
use Rattle.model.specs.Blocks.{reserved, header, spare, frame}
use Rattle.model.specs.Answers.{Answer, done, list_done, refusal, listed}
use Rattle.model.specs.Proposals.{entries, accepts, plannable}

-- bytes written from a place on, or some bytes copied from one place to another
pub data Write : Type 0 where
  writes : (at : ℕ) (bytes : List ℕ) → Write
  copies : (from to count : ℕ) → Write

-- what a call does: the live block whose header and guard must be those due, if it names one; then answer, state and writes
pub record Plan : Type 0 where
  pub checks : Option Place
  pub answer : Answer
  pub pool : Pool
  pub changes : List Write

-- "A refused call leaves the state as it was."
abbrev pub refused : Refusal → Pool → Plan
refused r P = record { checks = None; answer = refusal r; pool = P; changes = [] }

-- one that is tested after 6 and 7: its plan names the block
abbrev pub refused_on : Refusal → Pool → Place → Plan
refused_on r P p = record { checks = Some p; answer = refusal r; pool = P; changes = [] }

-- GRANT

-- a group of class c, the slots it has, and what lies before and after it
pub record Site : Type 0 where
  pub before : Pool
  pub slots : List Slot
  pub after : Pool

abbrev pub slots_in : Span → List Slot
slots_in free = []
slots_in (group c ss) = ss

-- "the groups of n's class with a slot not live"
unfoldable pub opens : ℕ → Span → Bool
opens c free = false
opens c (group k ss) = eqb k c && any (λ x. not (is_live x)) ss

-- "take the one with the lowest first row", X being what was passed by
abbrev pub open_from : Pool → ℕ → Pool → Option Site
open_from X c [] = None
open_from X c (s ∷ Y) =
    let here : Site = record { before = X; slots = slots_in s; after = Y } in
    let next : Option Site = open_from (X ++ (s ∷ [])) c Y in
    choose (opens c s) (Some here) next

-- whether a pool begins with k free rows
abbrev pub run : ℕ → Pool → Bool
run zero P = true
run (suc k) [] = false
run (suc k) (free ∷ P) = run k P
run (suc k) (group c ss ∷ P) = false

-- "If its ready set is empty, all waiting slots become ready first."
abbrev pub turn_ready : Slot → Slot
turn_ready Fresh = Fresh
turn_ready (Idle r k d) = Idle true k d
turn_ready (Live a) = Live a

unfoldable pub refill : List Slot → List Slot
refill ss = let m = map turn_ready ss in choose (any is_ready ss) ss m

-- "Let t be the whole part of (s − 4 − n) / 16; d is the slot's count modulo (t + 1)": the displacement in a slot of class c that begins at
-- b. 02 §6: "the start is the lowest multiple of align at or after the slot's beginning"; "The count .. sets no displacement here."
unfoldable pub displaced : (c code n b uses : ℕ) → ℕ
displaced c k n b j = choose (leb k ordinary) (j % suc ((slot_bytes c - 4 - n) / 16)) ((round_up (align_of k) b - b) / 16)

-- "then the count goes up by one, 255 becoming 0."
unfoldable pub grant_slot : (c code n b : ℕ) → Slot → Slot
unfolding displaced
grant_slot c k n b x = Live (record { count = (count x + 1) % 256; disp = displaced c k n b (count x); size = n; align = k })

-- the first site, or else the second
abbrev pub site_or : Option Site → Option Site → Option Site
site_or None t = t
site_or (Some s) t = Some s

-- the place of a grant, and those of the grants after it: none where one of them has none
abbrev pub placed : Place → Option (List Place) → Option (List Place)
placed q None = None
placed q (Some qs) = Some (q ∷ qs)

abbrev pub placed_by : Option Place → (Place → Option (List Place)) → Option (List Place)
placed_by None f = None
placed_by (Some q) f = placed q (f q)

-- the pool after grants, each place being in the pool that its grant makes
abbrev pub pool_after : Pool → List Place → Pool
pool_after P [] = P
pool_after P (q ∷ qs) = pool_after (pool_of q) qs

-- "The slot becomes waiting"
abbrev pub vacant : Place → Slot
vacant p = Idle false (count p.state) (disp p.state)

-- a call on the block at a start: "no such block: the offset is neither a live start nor covered by 5", "already free: it is the
-- last start of a granted, not live slot of a present group"
abbrev pub on_block : Pool → (Place → Plan) → Option Place → Plan
on_block P f None = refused NoSuchBlock P
on_block P f (Some p) = let l = f p in choose (is_live p.state) l (refused AlreadyFree P)

-- 02 §7: "Answer 10, stale, is given exactly if the start is live and the bits differ."
abbrev pub by_handle : Pool → (handle : ℕ) → (Place → Plan) → Place → Plan
by_handle P h f p = let l = f p in choose (eqb (h % 16) (use_bits (count p.state))) l (refused Stale P)

-- "In place if n is at most s − 4 − 16d and the block's class is at most one above n's class". 02 §6: "if n itself fits as in 01 and the
-- block's class is that of the enlarged size or the next one up"; of an ordinary block, whose n fits, that is the same
unfoldable pub fits_in_place : Place → ℕ → Bool
fits_in_place p n = leb n (slot_bytes p.cls - 4 - 16 * disp p.state) && own_class p.cls (enlarged (align p.state) n)

-- the size that answer 3 goes by where a block gets another size. 02 §6: "answer 3 reads the enlarged new size where the offset starts such a live block"
abbrev pub new_size : Option Place → ℕ → ℕ
new_size None n = n
new_size (Some p) n = enlarged (align p.state) n

-- sums over the slots and the free rows of a pool
abbrev pub slot_sum : (Slot → ℕ) → Span → ℕ
slot_sum f free = 0
slot_sum f (group c ss) = sum f ss

abbrev pub free_row : Span → ℕ
free_row free = 1
free_row (group c ss) = 0

-- a pool with no groups
abbrev pub fresh_pool : ℕ → Pool
fresh_pool n = replicate n free

-- every slot of the groups of class c in a pool is live
abbrev pub AllLive : Pool → ℕ → Type 0
AllLive P c = (X Y : Pool) (ss : List Slot) → P ≡ X ++ (group c ss ∷ Y) → T (every is_live ss)

-- "neither a free slot of its class nor a long enough run of free rows exists"
pub record NoPlace (row : ℕ) (P : Pool) (c : ℕ) : Type 0 where
  pub all_live : AllLive P c
  pub no_run : (X Y : Pool) → P ≡ X ++ (fresh_pool (rows_of row c) ++ Y) → ⊥

module _ (row : ℕ) where
  -- "If there is no such group, make one at the lowest run of R free rows, all slots ready"
  abbrev pub run_from : Pool → ℕ → Pool → Option Site
  run_from X c [] = None
  run_from X c (s ∷ Y) =
      let here : Site = record { before = X; slots = replicate (slots_of c) Fresh; after = drop (rows_of row c) (s ∷ Y) } in
      let next : Option Site = run_from (X ++ (s ∷ [])) c Y in
      choose (run (rows_of row c) (s ∷ Y)) (Some here) next

  unfoldable pub site : Pool → ℕ → Option Site
  site P c = let new = run_from [] c P in site_or (open_from [] c P) new

  -- "Take its lowest ready slot.": the place that a grant takes at a site, in the pool that it makes
  unfoldable pub grant_in : (c code n : ℕ) → Site → Place
  unfolding grant_slot
  grant_in c k n s =
      let ss = refill s.slots in
      let i = first is_ready ss in
      let b = row * rows row s.before + 16 + i * slot_bytes c in
      record { before = s.before; cls = c; lower = take i ss; state = grant_slot c k n b (get_or ss i Fresh); upper = drop (suc i) ss; after = s.after }

  abbrev pub reserve_in : (c code n : ℕ) → Option Site → Option Place
  reserve_in c k n None = None
  reserve_in c k n (Some s) = Some (grant_in c k n s)

  -- the place that a grant of n bytes takes. 02 §6: "the class and slot are those of n + align − 16"
  unfoldable pub reserve : Pool → (code n : ℕ) → Option Place
  unfolding site grant_in
  reserve P k n = reserve_in (class_of (enlarged k n)) k n (site P (class_of (enlarged k n)))

  -- "The slot's s owned bytes become zero, then header and guard are written; no other arena byte changes."
  unfoldable pub enframe : Place → Write
  enframe p = writes (owned row p) (frame p.cls (slot_number p) (disp p.state) (size p.state))

  -- "if there is no such run, answer 8"; "The value is the start.", with the bits of 02 §7
  abbrev pub grant_at : Pool → Option Place → Plan
  grant_at P None = refused NoRoom P
  grant_at P (Some p) = record { checks = None; answer = done (handle row p ∷ []); pool = pool_of p; changes = enframe p ∷ [] }

  -- "too large: n is 131,052 or more". 02 §6: "an enlarged size of 131,052 or more is 3"
  unfoldable pub grant_as : Pool → (code n : ℕ) → Plan
  unfolding reserve enframe
  grant_as P k n = let g = grant_at P (reserve P k n) in choose (leb size_limit (enlarged k n)) (refused TooLarge P) g

  -- GRANT ALIGNED (02 §6): "answer 13, tested between 2 and 3"
  unfoldable pub grant_aligned : Pool → (n align : ℕ) → Plan
  unfolding grant_as code_of
  grant_aligned P n a = let g = grant_as P (code_of a) n in choose (ltb 0 (code_of a)) g (refused BadAlignment P)

  -- GRANT LIST (02 §3)

  -- "grants its sizes in order": the places that the grants take, none where one of them would meet answer 8
  unfoldable pub reserve_all : Pool → List ℕ → Option (List Place)
  unfolding reserve
  reserve_all P [] = Some []
  reserve_all P (n ∷ ns) = placed_by (reserve P ordinary n) (λ q. reserve_all (pool_of q) ns)

  -- "answer 8 exactly if granting the accepted sizes in order would meet it"; "writes the starts to the front of a lent list, keeps its
  -- later places and gives the number of entries"; 02 §7: "List entries .. read handles"
  abbrev pub grant_all_at : Pool → Option (List Place) → Plan
  grant_all_at P None = refused NoRoom P
  grant_all_at P (Some qs) = record { checks = None; answer = list_done (map (handle row) qs); pool = pool_after P qs; changes = map enframe qs }

  -- "Order: 2, 9, 17, 8." The lent list has so many places; "Answer 9 .. or the lent list has fewer than 17 places"
  unfoldable pub grant_list : Pool → (total cap places : ℕ) → List ℕ → Plan
  unfolding reserve_all enframe
  grant_list P total cap places sizes =
      let g = grant_all_at P (reserve_all P sizes) in
      let c = choose (accepts total cap sizes) g (refused BadProposal P) in
      choose (plannable total cap && leb entries places) c (refused TooLong P)

  -- BLOCKS BY THEIR START, AND BY THEIR HANDLE

  -- the granted slot whose last start the offset is
  unfoldable pub lookup : Pool → ℕ → Option Place
  unfolding places
  lookup P o = find (λ p. eqb (start row p) o) (places P)

  -- a call on the block of a handle: 4 and 5 by the start, "whatever the bits", then 10
  unfoldable pub on_handle : Pool → (handle : ℕ) → (Place → Plan) → Plan
  unfolding lookup
  on_handle P h f = on_block P (by_handle P h f) (lookup P (start_of h))

  -- RELEASE

  -- "The slot becomes waiting and its s owned bytes zero. If no slot of the group is live, the group goes, all its rows become
  -- zero and free."
  unfoldable pub release_at : Place → Plan
  release_at p =
      let c = p.cls in
      let stays : Plan = record {
        checks = Some p;
        answer = done (0 ∷ []);
        pool = pool_of (become p (vacant p));
        changes = writes (owned row p) (zeros (slot_bytes c)) ∷ [];
      } in
      let goes : Plan = record {
        checks = Some p;
        answer = done (0 ∷ []);
        pool = p.before ++ (fresh_pool (rows_of row c) ++ p.after);
        changes = writes (base row p) (zeros (row * rows_of row c)) ∷ [];
      } in
      choose (any is_live (p.lower ++ p.upper)) stays goes

  unfoldable pub release : Pool → (handle : ℕ) → Plan
  unfolding on_handle release_at
  release P h = on_handle P h release_at

  -- the block of a place given back, in a pool that has changed elsewhere since it was found: its bits are not asked for again
  unfoldable pub discard : Pool → Place → Plan
  unfolding lookup release_at
  discard P p = on_block P release_at (lookup P (start row p))

  -- RESIZE IN PLACE, AND MOVE (02 §9): "one call that only changes in place ..; another that always moves"

  -- both on the block of a handle, for a new size of n bytes. 02 §7: "§6's answer 3 goes by the start, whatever the bits"
  unfoldable pub on_handle_for : Pool → (handle n : ℕ) → (Place → Plan) → Plan
  unfolding on_handle
  on_handle_for P h n f =
      let r = on_handle P h f in
      choose (leb size_limit (new_size (lookup P (start_of h)) n)) (refused TooLarge P) r

  -- "the first bytes, as many as the lesser of old and new n, stay, all from there to the end become zero, header and guard are
  -- written anew"; "Count and start change only by such a grant." 02 §7: "Resize in place keeps the handle."
  unfoldable pub resize_at : Place → ℕ → Plan
  resize_at p n =
      let c = p.cls in
      let d = disp p.state in
      let kept = min (size p.state) n in
      record {
        checks = Some p;
        answer = done (handle row p ∷ []);
        pool = pool_of (become p (Live (record { count = count p.state; disp = d; size = n; align = align p.state })));
        changes =
            writes (start row p - 4) (header c (slot_number p) d n)
            ∷ writes (start row p + kept) (zeros (n - kept) ++ spare (reserved c d n)) ∷ [];
      }

  -- "a grant of n is made while the old block is live, that many bytes are copied, then the old is released." 02 §6: "Resize of an
  -- aligned block keeps the boundary": the grant has the block's alignment
  abbrev pub move_to : Pool → Place → ℕ → Option Place → Plan
  move_to P p n None = refused_on NoRoom P p
  move_to P p n (Some q) =
      let old = discard (pool_of q) p in
      record {
        checks = Some p;
        answer = done (handle row q ∷ []);
        pool = old.pool;
        changes = enframe q ∷ copies (start row p) (start row q) (min (size p.state) n) ∷ old.changes;
      }

  unfoldable pub move_at : Pool → ℕ → Place → Plan
  unfolding reserve discard enframe
  move_at P n p = move_to P p n (reserve P (align p.state) n)

  -- "refuses with 11 exactly if 01's in-place conditions (or §6's) fail, tested after 7"
  unfoldable pub in_place_at : Pool → ℕ → Place → Plan
  unfolding resize_at
  in_place_at P n p = let r = resize_at p n in choose (fits_in_place p n) r (refused_on NotInPlace P p)

  unfoldable pub resize_in_place : Pool → (handle n : ℕ) → Plan
  unfolding on_handle_for in_place_at
  resize_in_place P h n = on_handle_for P h n (in_place_at P n)

  unfoldable pub move : Pool → (handle n : ℕ) → Plan
  unfolding on_handle_for move_at
  move P h n = on_handle_for P h n (move_at P n)

  -- MEASURE AND REPORT

  abbrev pub measure_at : Pool → Place → Plan
  measure_at P p = record { checks = Some p; answer = done (size p.state ∷ []); pool = P; changes = [] }

  unfoldable pub measure : Pool → (handle : ℕ) → Plan
  unfolding on_handle
  measure P h = on_handle P h (measure_at P)

  abbrev pub held_rows : Span → ℕ
  held_rows free = 0
  held_rows (group c ss) = rows_of row c

  -- "live blocks, their requested bytes, rows held, rows free, ready slots, waiting slots (the last two over present groups)"
  unfoldable pub totals : Pool → Totals
  totals P = record {
    blocks = sum (slot_sum (λ x. bit (is_live x))) P;
    bytes = sum (slot_sum size) P;
    held = sum held_rows P;
    free = sum free_row P;
    ready = sum (slot_sum (λ x. bit (is_ready x))) P;
    waiting = sum (slot_sum (λ x. bit (is_waiting x))) P;
  }

  unfoldable pub report : Pool → Plan
  unfolding totals
  report P = record { checks = None; answer = done (listed (totals P)); pool = P; changes = [] }

  -- "Set up writes zero over the whole arena and makes tables with no groups."
  abbrev pub set_up_again : Pool → Plan
  set_up_again P = record { checks = None; answer = done (0 ∷ []); pool = fresh_pool (rows row P); changes = writes 0 (zeros (row * rows row P)) ∷ [] }

-- THE MODEL OF DEMAND 3

pub data Call : Type 0 where
  sets_up : Call
  grants : (n : ℕ) → Call
  grants_aligned : (n align : ℕ) → Call
  releases : (handle : ℕ) → Call
  resizes_in_place : (handle n : ℕ) → Call
  moves : (handle n : ℕ) → Call
  measures : (handle : ℕ) → Call
  reports : Call
  -- of the list that it is lent, a list call is told the number of places
  grants_list : (total cap places : ℕ) (sizes : List ℕ) → Call

-- set up alone does not ask for sound tables
abbrev pub is_set_up : Call → Bool
is_set_up sets_up = true
is_set_up (grants n) = false
is_set_up (grants_aligned n b) = false
is_set_up (releases h) = false
is_set_up (resizes_in_place h n) = false
is_set_up (moves h n) = false
is_set_up (measures h) = false
is_set_up reports = false
is_set_up (grants_list total cap places sizes) = false

-- how many values a call gives: report "in this order: live blocks, their requested bytes, rows held, rows free, ready slots, waiting slots"
abbrev pub values_of : Call → ℕ
values_of sets_up = 1
values_of (grants n) = 1
values_of (grants_aligned n b) = 1
values_of (releases h) = 1
values_of (resizes_in_place h n) = 1
values_of (moves h n) = 1
values_of (measures h) = 1
values_of reports = 6
values_of (grants_list total cap places sizes) = 1

module _ (row : ℕ) where
  -- "Every call steps on that state and its arguments alone"
  unfoldable pub plan : Pool → Call → Plan
  unfolding grant_as grant_aligned grant_list release resize_in_place move measure report
  plan P sets_up = set_up_again row P
  plan P (grants n) = grant_as row P ordinary n
  plan P (grants_aligned n a) = grant_aligned row P n a
  plan P (releases h) = release row P h
  plan P (resizes_in_place h n) = resize_in_place row P h n
  plan P (moves h n) = move row P h n
  plan P (measures h) = measure row P h
  plan P reports = report row P
  plan P (grants_list total cap places sizes) = grant_list row P total cap places sizes
