-- A group that can serve, or a new one at a run of free rows.
use Rattle.mem.proofs.Prelude.{◌∙◌, ◌≡◌, sym, [], arith, Some, None}
use Rattle.model.specs.Plans.{open_from, run_from}
use Rattle.model.specs.Tables.{view_by}
use Rattle.model.specs.Plain.{slots_layout}
use Rattle.rows.specs.Rows.{Lent, site_found}
use Rattle.frames.proofs.Sites.{site_open, site-none, run_inside, site-made}
use Rattle.plain_tables.proofs.Rooms.{by_slots}
use Rattle.plain_ops.proofs.site_for.Goals as goal
use Rattle.plain_ops.proofs.site_for.Goals.{In_ok-i, In_default, Start}

room : (s : Start) → Lent slots_layout s.args.row.bytes s.args.len s.args.room.now
room s = by_slots s.requires.room_value s.args.row.lawful

pub lowest_open-requires : goal.lowest_open-requires
lowest_open-requires c = c.requires

pub returns-in-Some : goal.returns-in-Some
returns-in-Some c =
    let a = site_open (room (goal.at.returns-in-Some c).Start) c.args.c c.in-Some.i (sym c.in-Some.is ∙ c.lowest_open.ensures) in
    record { value = a.found; room_after = a.room }

-- no group can serve
shut : (c : In_default) → (let a = c.args in
    None ≡ site_found a.row.bytes (open_from [] a.c (view_by slots_layout a.row.bytes a.room.now)))
shut c = sym c.in_default.is ∙ c.lowest_open.ensures

pub returns-in_err-i : goal.returns-in_err-i
returns-in_err-i c =
    let e : c.from_residual.result ≡ None = grind arith in
    let a = site-none (room (goal.at.returns-in_err-i c).Start) c.args.c (shut (goal.at.returns-in_err-i c).In_default)
    (sym c.in_err-i.was ∙ c.find_run.ensures slots_layout (room (goal.at.returns-in_err-i c).Start)) in
    record { value = e ∙ a.found; room_after = a.room }

-- the run that is found
run : (c : In_ok-i) → (let a = c.args in
    Some c.in_ok-i.i ≡ site_found a.row.bytes (run_from a.row.bytes [] a.c (view_by slots_layout a.row.bytes a.room.now)))
run c =
    sym c.in_ok-i.was ∙ c.find_run.ensures slots_layout (room (goal.at.In_ok-i c).Start)

pub make_group-requires : goal.make_group-requires
make_group-requires c =
    let m = run_inside (room (goal.at.make_group-requires c).Start) c.args.c (shut (goal.at.make_group-requires c).In_default) c.in_ok-i.i (run (goal.at.make_group-requires c).In_ok-i) in
    record { c_bound = (c.requires.c_bound, m.0); c_in_bounds = m.1 }

pub returns : goal.returns
returns c =
    let a = site-made (room (goal.at.returns c).Start) c.args.c (shut (goal.at.returns c).In_default) c.in_ok-i.i (run (goal.at.returns c).In_ok-i) c.make_group.new.room
    c.make_group.ensures in
    record { value = a.found; room_after = a.room }

pub find_run-requires : goal.find_run-requires
find_run-requires c = record { lent = (slots_layout, room (goal.at.find_run-requires c).Start); c_bound = c.requires.c_bound }
