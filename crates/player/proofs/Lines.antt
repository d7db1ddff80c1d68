-- The line of a report is short: the numbers of a pool have few digits.
use Rattle.mem.proofs.Prelude.{◌∙◌, ◌≡◌, sym, ap, refl, subst, Bool, true, false, List, ℕ, ◌≤◌, arith, leb→le, lit≤, length, length-append}
use Rattle.mem.specs.Lists.{choose}
use Rattle.mem.proofs.Tests.{true-T, and_left, and_right}
use Rattle.classes.specs.Classes.{row_bytes}
use Rattle.model.specs.declared.Refusal.TheVariants.{Unsound}
use Rattle.model.specs.declared.Totals.{Totals}
use Rattle.model.specs.Answers.{Answer, done, report_refusal, listed}
use Rattle.model.specs.Plans.{reports, plan, report, totals}
use Rattle.model.specs.Tables.{masks_layout, arena_right, sound, view}
use Rattle.model.specs.Calls.{KeptBytes, EngineOutcome, engine, sound_kept, call}
use Rattle.model.proofs.Tables.{sound_facts}
use Rattle.model.proofs.Kept.{kept_sound}
use Rattle.model.proofs.Counts.{Few, totals_few}
use Rattle.model.proofs.Calls.{call-unsound, call-sound, carried_whole}
use Rattle.text.specs.Decimal.{decimal_in, decimal}
use Rattle.text.proofs.Laws.{decimal-short}
use Rattle.trace.specs.Replay.{Line}
use Rattle.line_text.specs.Lines.{field, line_text}

-- five digits each, and ten of the bytes
few_short : (s : Totals) → Few s → length (line_text (Line.told (done (listed s)))) ≤ 45
unfolding line_text field
few_short s f =
    simp length-append
    (omega (
      arith,
      decimal-short 0 0 (omega arith),
      decimal-short 4 s.blocks f.blocks,
      decimal-short 9 s.bytes f.bytes,
      decimal-short 4 s.held f.held,
      decimal-short 4 s.free f.free,
      decimal-short 4 s.ready f.ready,
      decimal-short 4 s.waiting f.waiting,
    ))

abbrev short : Answer → Type 0
short r = length (line_text (Line.told r)) ≤ 45

-- tables that are not sound: the number and six zeros
unsound-short : short (report_refusal Unsound)
unfolding line_text field decimal decimal_in choose
unsound-short = lit≤ tt

module _ (a : List ℕ) (t : KeptBytes) where
  sound-short : sound_kept row_bytes (length a) t ≡ true → short (call row_bytes a t reports).answer
  unfolding plan report row_bytes arena_right
  sound-short e =
      let P = view row_bytes t.tables in
      let q = sound_facts masks_layout row_bytes (length a) t.tables (true-T (sound row_bytes (length a) t.tables) (kept_sound row_bytes (length a) t e)) in
      let n : length a ≤ 262144 = leb→le (length a) 262144 (let l = q.lawful in search (and_left, and_right)) in
      let f = totals_few row_bytes (lit≤ tt) P q.formed (omega (arith, q.long)) in
      subst short
      (sym (ap (λ (r : EngineOutcome). r.answer)
      (call-sound row_bytes (engine row_bytes) a t e reports tt ∙ carried_whole row_bytes (engine row_bytes) a t (report row_bytes P) refl)))
      (few_short (totals row_bytes P) f)

  pub report-short : short (call row_bytes a t reports).answer
  report-short = go (sound_kept row_bytes (length a) t) refl
    where
      go : (b : Bool) → sound_kept row_bytes (length a) t ≡ b → short (call row_bytes a t reports).answer
      go true e = sound-short e
      go false e = subst short (sym (ap (λ (r : EngineOutcome). r.answer) (call-unsound row_bytes (engine row_bytes) a t reports tt e))) unsound-short
