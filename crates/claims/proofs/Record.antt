-- The record beside the tables: soundness has one rule more, every accepted call leaves the totals of the tables that it leaves, and report gives it.
use Rattle.mem.proofs.Prelude.{◌∙◌, sym, ap, subst, ℕ, ◌<◌, T, length}
use Rattle.mem.proofs.Tests.{T_true, true-T}
use Rattle.model.specs.Answers.{done, listed}
use Rattle.model.specs.Tables.{sound}
use Rattle.model.specs.Calls.{KeptBytes, EngineOutcome, engine, sound_kept, set_up, call, call_by}
use Rattle.model.proofs.Fresh.{fresh-totals, set_up-done}
use Rattle.model.proofs.Kept.{kept_right, kept_sound, kept_totals, engine_lawful}
use Rattle.claims.specs.History.{opening, books_after}
use Rattle.claims.specs.Record.{SoundExactly, RecordsFresh, ReportsRecord, HistoryRecorded, KeepsRecord}
use Rattle.claims.proofs.Demand2.{set_up_accepted, leaves-sound}
use Rattle.claims.proofs.AsSaid.{reports_as_said}
use Rattle.claims.proofs.History.{history_sound}

pub sound_exactly : (row : ℕ) → SoundExactly row
sound_exactly row n t = (
  λ h. let e = T_true (sound_kept row n t) h in (true-T (sound row n t.tables) (kept_sound row n t e), kept_totals row n t e),
  λ (s, e). true-T (sound_kept row n t) (kept_right row n t (T_true (sound row n t.tables) s) e),
)

pub records_fresh : (row : ℕ) → 0 < row → RecordsFresh row
unfolding call_by
records_fresh row pos a t z =
    ap (λ (r : EngineOutcome). r.kept.totals) (set_up-done row (engine row) a t (set_up_accepted row pos (engine row) (engine_lawful row pos) a t z))
    ∙ fresh-totals row _

pub reports-record : (row : ℕ) → ReportsRecord row
reports-record row a t s =
    reports_as_said row (engine row) a t s ∙ ap (λ z. done (listed z)) (sym (kept_totals row (length a) t (T_true (sound_kept row (length a) t) s)))

pub history_recorded : (row : ℕ) → 0 < row → HistoryRecorded row
history_recorded row pos a t cs b h e =
    let r : KeptBytes = (books_after row (engine row) opening (set_up row a t).kept cs).kept in
    reports-record row b r (subst (λ n. T (sound_kept row n r)) (sym e) (history_sound row pos (engine row) (engine_lawful row pos) a t cs h))

pub keeps-record : (row : ℕ) → 0 < row → KeepsRecord row
keeps-record row pos a t c z =
    let r : EngineOutcome = call row a t c in
    kept_totals row (length r.arena) r.kept
    (T_true (sound_kept row (length r.arena) r.kept) (leaves-sound row pos (engine row) (engine_lawful row pos) a t c z))
