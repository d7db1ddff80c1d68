-- `put_fields` meets its contract. The invariant: writing the values that are left makes the whole written.
use Rattle.mem.proofs.Prelude.{◌∙◌, ◌≡◌, ap, List, ◌++◌, ℕ, ◌+◌, ◌<◌, add-one, arith, length, drop, get_or, drop-cons}
use lib.ListN.{drop_of_length-le}
use Rattle.mem.specs.Lists.{join}
use Rattle.mem.proofs.Laws.{put-length}
use Rattle.line_text.specs.Lines.{field}
use Rattle.line_text.proofs.Laws.{left_step, left-none}
use Rattle.line_text.proofs.put_fields.Goals as goal

-- the values from the one at i on
rest : (i : ℕ) (vs : List ℕ) → i < length vs → join field (drop i vs) ≡ field (get_or vs i 0) ++ join field (drop (i + 1) vs)
rest i vs h = rw (add-one, drop-cons vs i 0)

pub loop-v-preserved : goal.loop-v-preserved
loop-v-preserved c =
    let l = c.loop-v in
    let a = c.args in
    let e = c.put_field-end.ensures in
    let v = l.invariant in
    let F = field (get_or a.values.now l.v-index 0) in
    let R = join field (drop (l.v-index + 1) a.values.now) in (
      ap length e.out_after ∙ put-length l.end F l.out ∙ v.0,
      omega (arith, e.small),
      left_step a.at (join field a.values.now) a.out.now l.end c.put_field-end.result (join field (drop l.v-index a.values.now)) F R
          l.out _ (rest l.v-index a.values.now (omega arith)) e.value e.out_after v.2,
    )

pub returns : goal.returns
returns c =
    let l = c.loop-v in
    let v = l.invariant in
    let a = c.args in
    let z = ap (join field) (drop_of_length-le a.values.now c.loop-v-test.false) in
    let w = left-none a.at (join field a.values.now) a.out.now l.end (join field (drop l.v-index a.values.now)) l.out z v.2 in
    record { value = w.0; out_after = w.1; small = omega arith }
