-- A record of a trace after the other: the text of those that are left, by what stands at a place.
use Rattle.mem.proofs.Prelude.{◌∙◌, ◌≡◌, sym, ap, refl, Option, Some, None, true, false, true≢false, List, [], ◌++◌, append-nil}
use Rattle.mem.proofs.Prelude.{ℕ, suc, ◌+◌, ◌-◌, ◌≤◌, arith, length}
use Rattle.mem.proofs.Tests.{choose-true, choose-false}
use Rattle.classes.specs.Classes.{row_bytes}
use Rattle.model.specs.Answers.{Answer}
use Rattle.model.specs.Plans.{sets_up}
use Rattle.model.specs.Calls.{KeptBytes, call}
use Rattle.trace.specs.declared.Op.{Op}
use Rattle.trace.specs.declared.Step.{Step}
use Rattle.trace.specs.Trace.{Item, step_at, operation_of, items_by, items_from, items, trace_right}
use Rattle.trace.specs.Replay.{Line, Effect, performed, line_then, line_of, go_on, lines_from, replayed_over}
use Rattle.line_text.specs.Lines.{line_text, is_bad}
use Rattle.player.specs.Printed.{lines_text, printed, played_text}

-- the text of the records from a place on, the first of which is record i
abbrev pub Rest : List ℕ → KeptBytes → List ℕ → ℕ → ℕ → List ℕ
Rest a t s i at = lines_text (lines_from row_bytes a t i (items_from (suc (length s) - i) s at))

-- the text behind a record that told x, by what it left of arena, room and record
abbrev pub Behind : Option Answer → List ℕ → KeptBytes → List ℕ → ℕ → ℕ → List ℕ
Behind x a t s i at = lines_text (go_on x (lines_from row_bytes a t i (items_from (suc (length s) - i) s at)))

-- all of them
pub all_left : (a : List ℕ) (t : KeptBytes) (s : List ℕ) → Rest a t s 1 1 ≡ played_text a t s
unfolding played_text items
all_left a t s = let k : suc (length s) - 1 ≡ length s = omega arith in ap (λ n. lines_text (lines_from row_bytes a t 1 (items_from n s 1))) k

-- a bad record is the last, and behind any other one the trace goes on
module _ (a : List ℕ) (t : KeptBytes) (s : List ℕ) (i at : ℕ) where
  pub last_one : (x : Option Answer) → is_bad x ≡ true → Behind x a t s i at ≡ []
  unfolding lines_text
  last_one None e = refl
  last_one (Some r) e = absurd (true≢false (sym e))

  pub goes_on : (x : Option Answer) → is_bad x ≡ false → Behind x a t s i at ≡ Rest a t s i at
  goes_on None e = absurd (true≢false e)
  goes_on (Some r) e = refl

module _ (a : List ℕ) (t : KeptBytes) (s : List ℕ) (i at : ℕ) (h : i ≤ length s) where
  -- there can be one record more
  here : (r : Step) → r ≡ step_at s at → items_from (suc (length s) - i) s at ≡ items_by s (items_from (length s - i) s) r
  unfolding items_from
  here r e =
      let k : suc (length s) - i ≡ suc (length s - i) = omega arith in
      ap (λ n. items_from n s at) k ∙ ap (items_by s (items_from (length s - i) s)) (sym e)

  by : (r : Step) → r ≡ step_at s at → Rest a t s i at ≡ lines_text (lines_from row_bytes a t i (items_by s (items_from (length s - i) s) r))
  by r e = ap (λ (xs : List Item). lines_text (lines_from row_bytes a t i xs)) (here r e)

  pub turn_end : Step.End ≡ step_at s at → Rest a t s i at ≡ []
  unfolding lines_text lines_from
  turn_end e = by Step.End e

  pub turn_bad : Step.Bad ≡ step_at s at → Rest a t s i at ≡ line_text (Line.bad i)
  unfolding lines_text lines_from
  turn_bad e = by Step.Bad e ∙ append-nil (line_text (Line.bad i))

  -- the line of a record, and what is behind it
  module _ (op : Op) (q : ℕ) (e : Step.Record op q ≡ step_at s at) (x : Option Answer) (b : List ℕ) (k : KeptBytes)
      (d : record { tells = x; arena = b; kept = k } ≡ performed row_bytes a t (operation_of s op)) where
    pub turn : Rest a t s i at ≡ line_text (line_of i x) ++ Behind x b k s (i + 1) q
    unfolding lines_text lines_from
    turn =
        let n : length s - i ≡ suc (length s) - (i + 1) = omega arith in
        let j : suc i ≡ i + 1 = omega arith in
        by (Step.Record op q) e
        ∙ ap (λ (f : Effect). lines_text (line_then i f.tells (lines_from row_bytes f.arena f.kept (suc i) (items_from (length s - i) s q)))) (sym d)
        ∙ cc

-- ---- the whole trace

module _ (a : List ℕ) (t : KeptBytes) (s : List ℕ) where
  pub printed-bad : trace_right s ≡ false → printed a t s ≡ line_text (Line.bad 0)
  unfolding printed replayed_over lines_text
  printed-bad e = ap lines_text (choose-false (trace_right s) _ _ e) ∙ append-nil (line_text (Line.bad 0))

  pub printed_played : trace_right s ≡ true → printed a t s ≡ played_text (call row_bytes a t sets_up).arena (call row_bytes a t sets_up).kept s
  unfolding printed replayed_over played_text
  printed_played e = ap lines_text (choose-true (trace_right s) _ _ e)
