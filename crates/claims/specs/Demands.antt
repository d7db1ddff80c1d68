-- All that is claimed, at one place. `Demands row_bytes` speaks of the very definitions that the contracts cite, at the card's row size: those of the
-- first engine (crates `pool` and `slotpool`) are equations with `call row_bytes`, which is `call_by row_bytes (engine row_bytes)`, those of the second
-- (`plain` and `slotpool_plain`) with `plain_call row_bytes`, which is `call_by row_bytes (plain_form row_bytes)`. Two claims stand elsewhere: `TextsDue`, the
-- text of a replay's lines (crate `player`), and `FormsAlike` (`Alike.antt`), of every two lawful forms, of which `TwoEngines` is the case of the engines.
use Rattle.std.specs.Prelude.{ℕ, T}
use Rattle.mem.specs.Lists.{every}
use Rattle.classes.specs.Facts.{AllClasses}
use Rattle.model.specs.Tables.{masks_layout}
use Rattle.model.specs.Calls.{Form, engine}
use Rattle.model.specs.Plain.{slots_layout, plain_form}
use Rattle.model.specs.Bench.{sheet, right}
use Rattle.model.specs.PlainBench.{plain_sheet, plain_right}
use Rattle.trace.specs.Sheet.{LinesDue}
use Rattle.trace.specs.Written.{ReadsBack, WritesBack}
use Rattle.claims.specs.Tables.{TableForm}
use Rattle.claims.specs.Bench.{TooLargeAnywhere}
use Rattle.claims.specs.Demand1.{Demand1}
use Rattle.claims.specs.Demand2.{ReleasesExactly, MeasuresExactly, InPlaceExactly, GrantsExactly, AlignedExactly, GrantsAsSaid, AlignedAsSaid}
use Rattle.claims.specs.Demand2.{AlignedOrdinary, NeverShared, LeavesSound}
use Rattle.claims.specs.AsSaid.{ServesOrdinary, NeverAtZero, HeadersAsSaid, GuardsAsSaid, SetsUpAsSaid, ReadsOnly, ReportsAsSaid, ReleasesAsSaid}
use Rattle.claims.specs.AsSaid.{SetsUpAsPlanned, InPlaceAsSaid, MovesAsSaid}
use Rattle.claims.specs.Soundness.{ArenasAsSaid, SetsUpExactly, SoundByRules}
use Rattle.claims.specs.Alignment.{SizesKeepAlignment, OthersStay}
use Rattle.claims.specs.Stale.{StartsCleared, CountsStep, StaleRefused}
use Rattle.claims.specs.Demand3.{SteersNothing, StoresAdmitted, StoresOnly, ModelStands}
use Rattle.claims.specs.Lists.{ChecksExactly, PlansAsSaid, ListsAsGrants, ListsExactly}
use Rattle.claims.specs.History.{History}
use Rattle.claims.specs.Record.{SoundExactly, RecordsFresh, ReportsRecord, HistoryRecorded, KeepsRecord, FlipsRefused}
use Rattle.claims.specs.Alike.{TwoEngines, StoresAnywhere}
use Rattle.claims.specs.Traces.{PastAsksNothing, LinesModelled, StoresSteerNothing, ReplaySteersNothing}

-- what is claimed of an engine, by the form of its tables: the three demands
pub record MeetsDemands (row : ℕ) (F : Form) : Type 0 where
  -- 1: every call ends with the first answer due, and a refusal changes nothing
  pub demand1 : Demand1 row F
  -- 2: every call does what document 01 says
  pub releases_exactly : ReleasesExactly row F
  pub measures_exactly : MeasuresExactly row F
  pub in_place_exactly : InPlaceExactly row F
  pub grants_exactly : GrantsExactly row F
  pub aligned_exactly : AlignedExactly row F
  pub sets_up_as_said : SetsUpAsSaid row F
  pub sets_up_as_planned : SetsUpAsPlanned row F
  pub grants_as_said : GrantsAsSaid row F
  pub aligned_as_said : AlignedAsSaid row F
  pub aligned-ordinary : AlignedOrdinary row F
  pub releases_as_said : ReleasesAsSaid row F
  pub in_place_as_said : InPlaceAsSaid row F
  pub moves_as_said : MovesAsSaid row F
  pub reports_as_said : ReportsAsSaid row F
  pub reads_only : ReadsOnly row F
  pub headers_as_said : HeadersAsSaid row F
  pub guards_as_said : GuardsAsSaid row F
  pub never_shared : NeverShared row F
  pub leaves-sound : LeavesSound row F
  pub too_large_anywhere : TooLargeAnywhere row F
  -- gather lists: a list is its grants, all of them or none
  pub lists_as_grants : ListsAsGrants row F
  pub lists_exactly : ListsExactly row F
  -- calls keep alignments, and leave the blocks that they do not name
  pub sizes_keep_alignment : SizesKeepAlignment row F
  pub others_stay : OthersStay row F
  -- old handles are refused, while their group stays and their slot was granted again fewer than sixteen times
  pub starts_cleared : StartsCleared row F
  pub counts_step : CountsStep row F
  pub stale-refused : StaleRefused row F
  -- 3: packet contents steer nothing
  pub steers_nothing : SteersNothing row F
  -- the history of report
  pub history : History row F

pub record Demands (row : ℕ) : Type 0 where
  -- THE THREE DEMANDS, of both engines
  pub first-engine : MeetsDemands row (engine row)
  pub second_engine : MeetsDemands row (plain_form row)
  -- 02 §8: the same answers and the same arena bytes from both, whatever is called, and whatever is stored in the arena between
  pub two_engines : TwoEngines row
  pub stores_anywhere : StoresAnywhere
  -- the stores that demand 3 admits, and that its model keeps to its arena
  pub stores_admitted : StoresAdmitted row
  pub stores-only : StoresOnly row
  pub model_stands : ModelStands row
  -- the tables of each engine: one byte form, of one size
  pub tables : TableForm row masks_layout
  pub plain_tables : TableForm row slots_layout
  -- which arenas and rooms set up takes, and when tables are sound, rule by rule
  pub arenas_as_said : ArenasAsSaid
  pub sets_up_exactly : SetsUpExactly row (engine row) (λ t. t.tables)
  pub plain_sets_up_exactly : SetsUpExactly row (plain_form row) (λ t. t)
  pub sound_by_rules : SoundByRules row masks_layout
  pub plain_sound_by_rules : SoundByRules row slots_layout
  -- the record beside the first engine's: it is kept up to date and cross-checked, so a flipped bit of what is counted is found
  pub sound_exactly : SoundExactly row
  pub records_fresh : RecordsFresh row
  pub reports-record : ReportsRecord row
  pub history_recorded : HistoryRecorded row
  pub keeps-record : KeepsRecord row
  pub flips_refused : FlipsRefused row
  -- places and classes; what the check accepts, and that the planner's proposals are among it
  pub never_at_zero : NeverAtZero row
  pub serves_ordinary : ServesOrdinary
  pub all_classes : AllClasses
  pub checks_exactly : ChecksExactly
  pub plans_as_said : PlansAsSaid
  -- the bench sheets
  pub bench : T (every right sheet)
  pub plain_bench : T (every plain_right plain_sheet)
  -- replay: traces are read as they are written, their lines are those due, and stored packet bytes steer no line
  pub reads_back : ReadsBack
  pub writes-back : WritesBack
  pub lines_due : LinesDue
  pub past-asks_nothing : PastAsksNothing row
  pub lines_modelled : LinesModelled row
  pub stores_steer_nothing : StoresSteerNothing row
  pub replay_steers_nothing : ReplaySteersNothing
