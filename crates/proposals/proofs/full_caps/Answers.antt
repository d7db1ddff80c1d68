-- The invariant: the sizes that are left to write make the plan. A size is at least 1, so that what is left falls.
use Rattle.mem.proofs.Prelude.{◌<◌, arith}
use Rattle.model.specs.Proposals.{entries}
use Rattle.proposals.proofs.Filling.{more-places, filled_more, filled_all, filled_none}
use Rattle.proposals.proofs.full_caps.Goals as goal
use Rattle.proposals.proofs.full_caps.Goals.{After-min-n}

place : (c : After-min-n) → c.loop-left.count < 17
unfolding entries
place c =
    let a = c.args in
    let l = c.loop-left in
    more-places a.total a.cap a.sizes.now l.sizes l.left l.count l.invariant c.loop-left-test.true

pub loop-left-init : goal.loop-left-init
loop-left-init c = filled_none c.args.total c.args.cap c.args.sizes.now c.requires

pub offset_bounds-sizes-count : goal.offset_bounds-sizes-count
offset_bounds-sizes-count c = omega (arith, place c)

pub overflow_add-count : goal.overflow_add-count
overflow_add-count c = omega (arith, place (goal.at.overflow_add-count c).After-min-n)

pub loop-left-preserved : goal.loop-left-preserved
loop-left-preserved c =
    let a = c.args in
    let l = c.loop-left in
    filled_more a.total a.cap a.sizes.now l.sizes l.left l.count l.invariant c.loop-left-test.true c.min-n.result
    c.min-n.ensures

pub returns : goal.returns
returns c =
    let a = c.args in
    let l = c.loop-left in let told = filled_all a.total a.cap a.sizes.now l.sizes l.left l.count l.invariant c.loop-left-test.false in record { value = told.0; sizes_after = told.1 }

pub bounds-sizes-count : goal.bounds-sizes-count
bounds-sizes-count c = place (goal.at.bounds-sizes-count c).After-min-n
