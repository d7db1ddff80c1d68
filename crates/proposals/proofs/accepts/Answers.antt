-- By the cap, the length, and the sizes.
use Rattle.mem.proofs.Prelude.{◌∙◌, sym, arith}
use Rattle.model.specs.Proposals.{entries}
use Rattle.proposals.proofs.Checks.{cap_facts, check_cap, check_long, check_sizes}
use Rattle.proposals.proofs.accepts.Goals as goal

pub returns-then-not-cap_right : goal.returns-then-not-cap_right
returns-then-not-cap_right c =
    let a = c.args in
    check_cap a.total a.cap a.sizes.now (sym c.cap_right.ensures ∙ c.if-not-cap_right.true)

pub returns-then-sizes-gt-ENTRIES : goal.returns-then-sizes-gt-ENTRIES
unfolding entries
returns-then-sizes-gt-ENTRIES c =
    let a = c.args in
    check_long a.total a.cap a.sizes.now
    (sym c.cap_right.ensures ∙ c.if-not-cap_right.false) (omega (arith, c.if-sizes-gt-ENTRIES.true))

pub sizes_right-requires : goal.sizes_right-requires
unfolding entries
sizes_right-requires c = (
  (cap_facts c.args.cap
      (sym c.cap_right.ensures ∙ c.if-not-cap_right.false)).1,
  omega (arith, c.if-sizes-gt-ENTRIES.false),
)

pub returns : goal.returns
unfolding entries
returns c =
    let a = c.args in
    c.sizes_right.ensures
    ∙ check_sizes a.total a.cap a.sizes.now
    (sym c.cap_right.ensures ∙ c.if-not-cap_right.false)
    (omega (arith, c.if-sizes-gt-ENTRIES.false))
