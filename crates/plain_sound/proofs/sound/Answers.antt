-- `sound` meets its contract: something is counted where the test passes.
use Rattle.mem.proofs.Prelude.{◌∙◌, ◌≡◌, ap, refl, Bool, true, false}
use Rattle.std.specs.Option.{is_some}
use Rattle.mem.specs.Lists.{choose}
use Rattle.model.specs.declared.Totals.{Totals}
use Rattle.model.specs.Plans.{totals}
use Rattle.model.specs.Tables.{sound_by, view_by}
use Rattle.model.specs.Plain.{slots_layout}
use Rattle.rows.specs.Counts.{count_if}
use Rattle.plain_sound.proofs.sound.Goals as goal

some_if : (b : Bool) (s : Totals) → is_some (count_if b s) ≡ b
unfolding choose
some_if true s = refl
some_if false s = refl

pub returns : goal.returns
returns c =
    let a = c.args in
    c.is_some.ensures ∙ ap is_some c.counted.ensures
    ∙ some_if (sound_by slots_layout a.row.bytes a.len a.room.now) (totals a.row.bytes (view_by slots_layout a.row.bytes a.room.now))
