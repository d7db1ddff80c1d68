-- What a list call leaves, by the tests of the code in their order, in any lawful form of the tables. A test is what a call said, which the code negates.
use Rattle.mem.proofs.Prelude.{◌∙◌, ◌≡◌, sym, ap, ap₂, Bool, true, false, ◌&&◌, not, not-true, not-false, and-false, List, map, ℕ, ◌<◌, ◌≤◌, leb, le-leb, is_some, Ok, Err}
use Rattle.mem.proofs.Prelude.{lt-leb, length, leb→le, arith}
use Rattle.mem.specs.Bytes.{put}
use Rattle.mem.proofs.Tests.{and_right, true-T, T_true}
use Rattle.model.specs.declared.Refusal.{Refusal}
use Rattle.model.specs.declared.Refusal.TheVariants.{NoRoom, TooLong, BadProposal}
use Rattle.model.specs.State.{handle}
use Rattle.model.specs.Answers.{reply_answer, refusal}
use Rattle.model.specs.Proposals.{entries, accepts, plannable}
use Rattle.model.specs.Plans.{grants_list, reserve_all, enframe, pool_after}
use Rattle.model.specs.Calls.{Form, Outcome, call_by, keeps, written}
use Rattle.model.proofs.Lists.{small, accepts-small, accepts_few}
use Rattle.frames.specs.Grants.{granted}
use Rattle.frames.specs.Listed.{Listed}
use Rattle.frames.proofs.Calls.{Checked}
use Rattle.frames.proofs.Lists.{refused_parts, too_long, bad_proposal, no_room, whole}

-- a list call that is refused
pub refused-list : {R : Type 0} {c : Outcome R} {a : List ℕ} {t : R} (x : Refusal) (l : List ℕ) → c ≡ keeps (refusal x) a t
    → Listed c (reply_answer (Err x)) l l a t
refused-list x l e =
    let p = refused_parts x l e in
    record { number-due = p.0; values-due = p.1.0; list-due = p.1.1.0; arena_due = p.1.1.1.0; kept_due = p.1.1.1.1 }

-- a test that passed
pub passing : {w b : Bool} → w ≡ b → not w ≡ false → b ≡ true
passing {w} e h = sym e ∙ not-false w h

-- a list that is short enough, and has its places, with an accepted proposal
pub record Proposal (total cap : ℕ) (l ns : List ℕ) : Type 0 where
  pub short : (plannable total cap && leb entries (length l)) ≡ true
  pub right : accepts total cap ns ≡ true

-- its sizes are small, and few
pub small-sizes : {total cap : ℕ} {l ns : List ℕ} → Proposal total cap l ns → small ns ≡ true
small-sizes {total} {cap} {l} {ns} p = T_true (small ns) (accepts-small total cap ns (true-T (accepts total cap ns) p.right))

pub few_sizes : {total cap : ℕ} {l ns : List ℕ} → Proposal total cap l ns → length ns ≤ length l
few_sizes {total} {cap} {l} {ns} p =
    let f = accepts_few total cap ns (true-T (accepts total cap ns) p.right) in
    let g = leb→le entries (length l) (and_right (plannable total cap) (leb entries (length l)) (true-T _ p.short)) in
    omega arith

module _ (total cap : ℕ) (l : List ℕ) {w : Bool} (e : w ≡ plannable total cap) (h : not w ≡ false) (n : entries ≤ length l) where
  short_enough : (plannable total cap && leb entries (length l)) ≡ true
  short_enough = ap₂ ◌&&◌ (passing e h) (le-leb entries (length l) n)

  pub proposal : {ns : List ℕ} {v : Bool} → v ≡ accepts total cap ns → not v ≡ false → Proposal total cap l ns
  proposal f k = record { short = short_enough; right = passing f k }

  pub not_accepted : {row : ℕ} {F : Form} {a : List ℕ} {t : F.Kept} (r : Checked row F a t) (ns : List ℕ) {v : Bool} → v ≡ accepts total cap ns → not v ≡ true
      → Listed (call_by row F a t (grants_list total cap (length l) ns)) (reply_answer (Err BadProposal)) l l a t
  not_accepted r ns {v} f k = refused-list BadProposal l (bad_proposal r total cap (length l) ns short_enough (sym f ∙ not-true v k))

module _ {row : ℕ} {F : Form} {a : List ℕ} {t : F.Kept} (r : Checked row F a t) (total cap : ℕ) (l ns : List ℕ) where
  -- what the call does, and that it refuses
  abbrev asked : Outcome F.Kept
  asked = call_by row F a t (grants_list total cap (length l) ns)

  abbrev Refuses : Refusal → Type 0
  Refuses x = Listed asked (reply_answer (Err x)) l l a t

  pub not-plannable : {w : Bool} → w ≡ plannable total cap → not w ≡ true → Refuses TooLong
  not-plannable {w} e h =
      refused-list TooLong l (too_long r total cap (length l) ns (ap (λ b. b && leb entries (length l)) (sym e ∙ not-true w h)))

  pub few_places : length l < entries → Refuses TooLong
  few_places h = refused-list TooLong l (too_long r total cap (length l) ns
      (ap (λ b. plannable total cap && b) (lt-leb entries (length l) h) ∙ and-false (plannable total cap)))

module _ {row : ℕ} {F : Form} {a : List ℕ} {t : F.Kept} (r : Checked row F a t) {total cap : ℕ} {l ns : List ℕ} (p : Proposal total cap l ns)
    {w : Bool} (e : w ≡ is_some (reserve_all row (F.view t) ns)) where
  pub not_fitting : not w ≡ true → Listed (call_by row F a t (grants_list total cap (length l) ns)) (reply_answer (Err NoRoom)) l l a t
  not_fitting h = refused-list NoRoom l (no_room r total cap (length l) ns p.short p.right (sym e ∙ not-true w h))

  -- and one that is granted whole
  pub granted-list : not w ≡ false → {m x : List ℕ} {u : F.Kept} → m ≡ put 0 (map (handle row) (granted (reserve_all row (F.view t) ns))) l
      → x ≡ written a (map (enframe row) (granted (reserve_all row (F.view t) ns)))
      → u ≡ F.encode (pool_after (F.view t) (granted (reserve_all row (F.view t) ns)))
      → Listed (call_by row F a t (grants_list total cap (length l) ns)) (reply_answer (Ok (length ns))) l m x u
  granted-list h em ex eu =
      let w = whole r total cap (length l) ns p.short p.right (passing e h) in
      record {
        number-due = w.number;
        values-due = w.values;
        list-due = em ∙ ap (λ z. put 0 z l) w.lent;
        arena_due = ex ∙ w.arena;
        kept_due = eu ∙ w.kept;
      }
