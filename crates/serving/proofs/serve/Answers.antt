-- `serve` meets its contract: a slot of a group that is there, or of a new one at the lowest run of free rows.
use Rattle.mem.proofs.Prelude.{◌∙◌, ◌≡◌, sym, ap, Some, ◌+◌, ◌-◌, ◌≤◌, arith, length, get_or}
use Rattle.classes.specs.Classes.{rows_of}
use Rattle.serving.specs.Survey.{lowest_run}
use Rattle.serving.proofs.MapRuns.{lowest_inside}
use Rattle.serving.proofs.Serving.{serves_open, serves_new, serves_none}
use Rattle.serving.proofs.serve.Goals as goal
use Rattle.serving.proofs.serve.Goals.{After-lowest_run, In-Some}

pub returns-then-k-gt0 : goal.returns-then-k-gt0
returns-then-k-gt0 c P n t e l =
    let a = c.args in
    serves_open a.row.bytes P n a.c a.spare.now a.gaps.now t e l c.if-k-gt0.true

-- what the search for a run finds
searched : (c : After-lowest_run) → (let a = c.args in
    c.lowest_run.result ≡ lowest_run (rows_of a.row.bytes a.c) 0 a.gaps.now)
searched c =
    let a = c.args in
    c.lowest_run.ensures ∙ ap (λ k. lowest_run k 0 a.gaps.now) c.rows-need.ensures.value

pub returns-in_default : goal.returns-in_default
returns-in_default c P n t e l =
    let a = c.args in
    let z : get_or a.spare.now a.c 0 ≡ 0 = omega (arith, c.if-k-gt0.false) in
    serves_none a.row.bytes P n a.c a.spare.now a.gaps.now t e l (omega (arith, c.args.row.lawful)) z
    (sym (sym c.in_default.is ∙ searched (goal.at.returns-in_default c).After-lowest_run))

-- the run that is found
run : (c : In-Some) → (let a = c.args in
    lowest_run (rows_of a.row.bytes a.c) 0 a.gaps.now ≡ Some c.in-Some.i)
run c = sym (searched (goal.at.In-Some c).After-lowest_run) ∙ c.in-Some.is

-- it lies in the map
within : (c : In-Some) → (c.in-Some.i + c.rows-need.result ≤ length c.args.gaps.now)
within c =
    let a = c.args in
    omega (arith, lowest_inside (rows_of a.row.bytes a.c) a.gaps.now c.in-Some.i (run c), c.rows-need.ensures.value)

pub overflow_add-i : goal.overflow_add-i
overflow_add-i c = omega (arith, within (goal.at.overflow_add-i c).In-Some)

pub clear-requires : goal.clear-requires
clear-requires c = (omega arith, within (goal.at.clear-requires c).In-Some)

pub returns : goal.returns
returns c P n t e l =
    let a = c.args in
    let i = c.in-Some.i in
    let need = c.rows-need.result in
    let z : get_or a.spare.now a.c 0 ≡ 0 = omega (arith, c.if-k-gt0.false) in
    let d : i + need - i ≡ rows_of a.row.bytes a.c = omega (arith, c.rows-need.ensures.value) in
    rw (c.slots.ensures.value, c.clear.ensures, d)
    (serves_new a.row.bytes P n a.c a.spare.now a.gaps.now t e l (omega (arith, c.args.row.lawful)) z i (run (goal.at.returns c).In-Some))
