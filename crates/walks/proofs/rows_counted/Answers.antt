-- `rows_counted` meets its contract. The invariant: what is counted of all rows is what was counted, and what is of those that are left.
use Rattle.mem.proofs.Prelude.{◌∙◌, ◌≡◌, sym, None, ◌*◌, ◌-◌, arith, drop}
use Rattle.model.specs.Tables.{row_at}
use Rattle.model.proofs.SixTotals.{zero_totals}
use Rattle.rows.specs.Counts.{all_rows}
use Rattle.rows.proofs.Counts.{Begun, span_counts, none_passed, more-passed, all_passed, not-passed}
use Rattle.walks.proofs.rows_counted.Given.{Over}
use Rattle.walks.proofs.rows_counted.Goals as goal
use Rattle.walks.proofs.rows_counted.Goals.{In_ok-span_counted}

pub loop-s-init : goal.loop-s-init
loop-s-init g c = let a = c.args in rw (zero_totals c.default-s.result c.default-s.ensures) (none_passed g.K.Keeping.layout a.row.bytes a.n a.room.now)

-- a span is counted
begun : (g : Over) (c : In_ok-span_counted g) → (let a = c.args in
    let i = all_rows c.loop-s.s in
    Begun g.K.Keeping.layout a.row.bytes (a.row.bytes * i) (a.n - i) (drop (row_at i) a.room.now) c.in_ok-span_counted.field-0)
begun g c =
    let a = c.args in
    let i = all_rows c.loop-s.s in
    span_counts g.met.K.Keeping.laws a.row.bytes (omega arith) (a.row.bytes * i) (a.n - i) (drop (row_at i) a.room.now) (omega arith) c.in_ok-span_counted.field-0
    (sym c.span_counted.ensures ∙ c.in_ok-span_counted.was)

pub plus-s-requires : goal.plus-s-requires
plus-s-requires g c =
    record { per_row_a = c.loop-s.invariant.light; per_row_b = (begun g c).light; b_bound = omega (arith, (begun g c).few) }

pub loop-s-smaller : goal.loop-s-smaller
loop-s-smaller g c =
    let b = begun g (goal.at.loop-s-smaller g c).In_ok-span_counted in rw c.plus-s.ensures (omega (arith, b.some, b.few))

pub loop-s-preserved : goal.loop-s-preserved
loop-s-preserved g c =
    let a = c.args in
    rw c.plus-s.ensures
    (more-passed g.K.Keeping.layout a.row.bytes a.n a.room.now c.loop-s.s c.loop-s.invariant c.in_ok-span_counted.field-0 (begun g (goal.at.loop-s-preserved g c).In_ok-span_counted))

pub returns-in_err-span_counted : goal.returns-in_err-span_counted
returns-in_err-span_counted g c =
    let a = c.args in
    let e : c.from_residual.result ≡ None = grind arith in
    e ∙ sym (not-passed g.met.K.Keeping.laws a.row.bytes (omega arith) a.n a.room.now c.loop-s.s c.loop-s.invariant (omega arith) c.requires.n_le_most_rows.1
    (sym c.span_counted.ensures ∙ c.in_err-span_counted.was))

pub returns : goal.returns
returns g c =
    let a = c.args in
    sym (all_passed g.K.Keeping.layout a.row.bytes a.n a.room.now c.loop-s.s c.loop-s.invariant c.loop-s-test.false c.requires.n_le_most_rows.1)
