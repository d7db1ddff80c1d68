-- `record_of` meets its contract.
use Rattle.mem.proofs.Prelude.{ap, sym, ◌∙◌, arith, get_or}
use Rattle.trace.specs.Trace.{fits}
use Rattle.trace.proofs.Laws.{fits-zero, record-bad, record_good}
use Rattle.trace.proofs.record_of.Goals as goal

pub returns-then-n-eq0 : goal.returns-then-n-eq0
returns-then-n-eq0 c =
    let a = c.args in
    let k = get_or a.s.now a.at 0 in
    record-bad _ _ _ (ap (fits k) c.if-n-eq0.true ∙ fits-zero k)

pub returns-then-not-fits : goal.returns-then-not-fits
returns-then-not-fits c = record-bad _ _ _ (sym c.fits.ensures ∙ c.if-not-fits.true)

pub op_at-op-requires : goal.op_at-op-requires
op_at-op-requires c = record { n_in_range = (omega arith, c.requires); n_fits = sym c.fits.ensures ∙ c.if-not-fits.false }

pub returns : goal.returns
returns c = record_good _ _ _ _ (sym c.fits.ensures ∙ c.if-not-fits.false) c.op_at-op.ensures
