-- A group that can serve, or a new one at a run of free rows.
use Rattle.mem.proofs.Prelude.{◌∙◌, ◌≡◌, sym, [], arith, Some, None}
use Rattle.classes.specs.Classes.{slots_of, rows_of}
use Rattle.model.specs.declared.Totals.{Totals}
use Rattle.model.specs.Plans.{open_from, run_from, site}
use Rattle.model.specs.Tables.{masks_layout, view}
use Rattle.rows.specs.Rows.{Lent, site_found}
use Rattle.rows.proofs.Rooms.{by_masks}
use Rattle.totals.specs.Changes.{Small, Makes}
use Rattle.reserving.specs.Reserves.{site_totals}
use Rattle.frames.proofs.Sites.{run_inside}
use Rattle.reserving.proofs.Reserving.{site_open, site-none, site_counts, site-made}
use Rattle.reserving.proofs.site_for.Goals as goal
use Rattle.reserving.proofs.site_for.Goals.{After-slots, In_ok-i, In_default, Start}

room : (s : Start) → Lent masks_layout s.args.row.bytes s.args.len s.args.room.now
room s = by_masks s.requires.room_value s.args.row.lawful

pub returns-in-Some : goal.returns-in-Some
returns-in-Some c = let told = site_open (room (goal.at.returns-in-Some c).Start) c.args.c c.args.t.now c.requires.c_bound.2 c.in-Some.i
    (sym c.in-Some.is ∙ c.find_open.ensures) in record { value = told.0; room_after = told.1; totals_after = told.2 }

-- no group can serve
shut : (c : In_default) → (let a = c.args in
    None ≡ site_found a.row.bytes (open_from [] a.c (view a.row.bytes a.room.now)))
shut c = sym c.in_default.is ∙ c.find_open.ensures

pub returns-in_err-i : goal.returns-in_err-i
returns-in_err-i c =
    let told = site-none (room (goal.at.returns-in_err-i c).Start) c.args.c c.args.t.now c.requires.c_bound.2 (shut (goal.at.returns-in_err-i c).In_default)
    (sym c.in_err-i.was ∙ c.find_run.ensures masks_layout (room (goal.at.returns-in_err-i c).Start)) in
    let e : c.from_residual.result ≡ None = grind arith in
    record { value = e ∙ told.0; room_after = told.1; totals_after = told.2 }

-- the run that is found
run : (c : In_ok-i) → (let a = c.args in
    Some c.in_ok-i.i ≡ site_found a.row.bytes (run_from a.row.bytes [] a.c (view a.row.bytes a.room.now)))
run c =
    sym c.in_ok-i.was ∙ c.find_run.ensures masks_layout (room (goal.at.In_ok-i c).Start)

pub make_group-requires : goal.make_group-requires
make_group-requires c =
    let m = run_inside (room (goal.at.make_group-requires c).Start) c.args.c (shut (goal.at.make_group-requires c).In_default)
    c.in_ok-i.i
    (run (goal.at.make_group-requires c).In_ok-i) in
    record { c_bound = (c.requires.c_bound.0, m.0); c_in_bounds = m.1 }

-- what the new group does to the totals
counts : (k : In_ok-i) → (let a = k.args in
    (z : Totals) × Makes (rows_of a.row.bytes a.c) (slots_of a.c) a.t.now z × Small z
    × (z ≡ site_totals a.row.bytes a.c a.t.now (site a.row.bytes (view a.row.bytes a.room.now) a.c)))
counts k =
    site_counts (room (goal.at.In_ok-i k).Start) k.args.c k.args.t.now k.requires.c_bound.2 (shut (goal.at.In_ok-i k).In_default) k.in_ok-i.i (run k)

-- over what the calls give of the class
makes : (c : After-slots) → (let a = c.args in
    Makes c.rows.result c.slots.result a.t.now (counts (goal.at.After-slots c).In_ok-i).0)
makes c = rw (c.rows.ensures.value, c.slots.ensures.value) (counts (goal.at.After-slots c).In_ok-i).1

pub made-requires : goal.made-requires
made-requires c = let d = counts (goal.at.made-requires c).In_ok-i in (d.0, makes c, d.2)

pub returns : goal.returns
returns c =
    let d = counts (goal.at.returns c).In_ok-i in
    let g = c.make_group in
    let told = site-made (room (goal.at.returns c).Start) c.args.c c.args.t.now c.requires.c_bound.2 (shut (goal.at.returns c).In_default) c.in_ok-i.i (run (goal.at.returns c).In_ok-i)
    g.new.room g.ensures in
    record { value = told.0; room_after = told.1; totals_after = c.made.ensures d.0 (makes (goal.at.returns c).After-slots) ∙ d.3 }

pub find_run-requires : goal.find_run-requires
find_run-requires c = record { lent = (masks_layout, room (goal.at.find_run-requires c).Start); c_bound = c.requires.c_bound.0 }
