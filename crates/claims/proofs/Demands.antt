-- All that is claimed holds: of every lawful form what is claimed of an engine, and the rest at the card's row size.
use Rattle.mem.proofs.Prelude.{ℕ, ◌<◌, refl}
use Rattle.classes.specs.Classes.{row_bytes}
use Rattle.classes.proofs.Laws.{all_classes, card_some}
use Rattle.model.specs.Tables.{masks_layout}
use Rattle.model.specs.Calls.{Form, FormLaws, engine}
use Rattle.model.specs.Plain.{slots_layout, plain_form}
use Rattle.model.proofs.Kept.{engine_lawful}
use Rattle.model.proofs.Plain.{plain_lawful}
use Rattle.bench.proofs.Bench.{bench}
use Rattle.bench.proofs.PlainBench.{plain_bench}
use Rattle.bench.proofs.Traces.{lines_due}
use Rattle.trace.proofs.Written.{reads_back, writes-back}
use Rattle.claims.specs.Demands.{MeetsDemands, Demands}
use Rattle.claims.proofs.Tables.{tables, plain_tables}
use Rattle.claims.proofs.Bench.{too_large_anywhere}
use Rattle.claims.proofs.Demand1.{demand1}
use Rattle.claims.proofs.Demand2.{releases_exactly, measures_exactly, in_place_exactly, grants_exactly, grants_as_said, never_shared, leaves-sound}
use Rattle.claims.proofs.AsSaid.{never_at_zero, sets_up_as_said, sets_up_as_planned, reads_only, reports_as_said, releases_as_said}
use Rattle.claims.proofs.StaysInPlace.{serves_ordinary}
use Rattle.claims.proofs.Stays.{others_stay}
use Rattle.claims.proofs.Kept.{sizes_keep_alignment}
use Rattle.claims.proofs.Aligned.{aligned-ordinary, aligned_exactly, aligned_as_said}
use Rattle.claims.proofs.Guards.{headers_as_said, guards_as_said}
use Rattle.claims.proofs.Soundness.{arenas_as_said, sets_up_exactly, sound_by_rules}
use Rattle.claims.proofs.Resizes.{in_place_as_said, moves_as_said}
use Rattle.claims.proofs.Demand3.{steers_nothing, stores_admitted, stores-only, model_stands}
use Rattle.claims.proofs.History.{history}
use Rattle.claims.proofs.Stale.{starts_cleared, counts_step, stale-refused}
use Rattle.claims.proofs.Flips.{flips_refused}
use Rattle.claims.proofs.Record.{sound_exactly, records_fresh, reports-record, history_recorded, keeps-record}
use Rattle.claims.proofs.Lists.{checks_exactly, plans_as_said, lists_as_grants, lists_exactly}
use Rattle.claims.proofs.Alike.{two_engines, stores_anywhere}
use Rattle.claims.proofs.Traces.{past-asks_nothing, lines_modelled, stores_steer_nothing, replay_steers_nothing}

-- an engine whose tables have a lawful form meets the demands
pub meets_demands : (row : ℕ) → 0 < row → (F : Form) → FormLaws row F → MeetsDemands row F
meets_demands row pos F L = record {
  demand1 = demand1 row pos F L;
  releases_exactly = releases_exactly row pos F L;
  measures_exactly = measures_exactly row pos F L;
  in_place_exactly = in_place_exactly row pos F L;
  grants_exactly = grants_exactly row pos F L;
  aligned_exactly = aligned_exactly row pos F L;
  sets_up_as_said = sets_up_as_said row pos F L;
  sets_up_as_planned = sets_up_as_planned row pos F L;
  grants_as_said = grants_as_said row pos F L;
  aligned_as_said = aligned_as_said row pos F L;
  aligned-ordinary = aligned-ordinary row F;
  releases_as_said = releases_as_said row pos F L;
  in_place_as_said = in_place_as_said row pos F L;
  moves_as_said = moves_as_said row pos F L;
  reports_as_said = reports_as_said row F;
  reads_only = reads_only row pos F L;
  headers_as_said = headers_as_said row pos F L;
  guards_as_said = guards_as_said row pos F L;
  never_shared = never_shared row pos F L;
  leaves-sound = leaves-sound row pos F L;
  too_large_anywhere = too_large_anywhere row pos F L;
  lists_as_grants = lists_as_grants row F pos L;
  lists_exactly = lists_exactly row F pos L;
  sizes_keep_alignment = sizes_keep_alignment row pos F L;
  others_stay = others_stay row pos F L;
  starts_cleared = starts_cleared row F L;
  counts_step = counts_step row pos F L;
  stale-refused = stale-refused row pos F L;
  steers_nothing = steers_nothing row pos F L;
  history = history row pos F L;
}

pub demands : Demands row_bytes
demands = record {
  first-engine = meets_demands row_bytes card_some (engine row_bytes) (engine_lawful row_bytes card_some);
  second_engine = meets_demands row_bytes card_some (plain_form row_bytes) (plain_lawful row_bytes card_some);
  two_engines = two_engines row_bytes card_some;
  stores_anywhere = stores_anywhere;
  stores_admitted = stores_admitted row_bytes;
  stores-only = stores-only row_bytes;
  model_stands = model_stands row_bytes card_some;
  tables = tables;
  plain_tables = plain_tables;
  arenas_as_said = arenas_as_said;
  sets_up_exactly = sets_up_exactly row_bytes card_some (engine row_bytes) (engine_lawful row_bytes card_some) (λ t. t.tables) (λ n t. refl);
  plain_sets_up_exactly = sets_up_exactly row_bytes card_some (plain_form row_bytes) (plain_lawful row_bytes card_some) (λ t. t) (λ n t. refl);
  sound_by_rules = sound_by_rules row_bytes masks_layout;
  plain_sound_by_rules = sound_by_rules row_bytes slots_layout;
  sound_exactly = sound_exactly row_bytes;
  records_fresh = records_fresh row_bytes card_some;
  reports-record = reports-record row_bytes;
  history_recorded = history_recorded row_bytes card_some;
  keeps-record = keeps-record row_bytes card_some;
  flips_refused = flips_refused row_bytes card_some;
  never_at_zero = never_at_zero row_bytes;
  serves_ordinary = serves_ordinary;
  all_classes = all_classes;
  checks_exactly = checks_exactly;
  plans_as_said = plans_as_said;
  bench = bench;
  plain_bench = plain_bench;
  reads_back = reads_back;
  writes-back = writes-back;
  lines_due = lines_due;
  past-asks_nothing = past-asks_nothing row_bytes;
  lines_modelled = lines_modelled row_bytes card_some;
  stores_steer_nothing = stores_steer_nothing row_bytes card_some;
  replay_steers_nothing = replay_steers_nothing card_some;
}
