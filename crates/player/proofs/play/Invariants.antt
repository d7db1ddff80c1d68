-- `play` meets its contract. The invariant: writing the text of the records that are left makes the whole written; a record has three bytes
-- or more and its line at most 45, so there is room for it.
use Rattle.mem.proofs.Prelude.{◌≡◌, ◌*◌, ◌-◌, ◌≤◌, length}
use Rattle.model.specs.Calls.{kept_in}
use Rattle.player.specs.Printed.{played_text}
use Rattle.line_text.proofs.Laws.{Left}
use Rattle.player.proofs.Turns.{Rest}
use Rattle.player.proofs.play.Given as goal

abbrev pub invariant-loop-op : goal.invariant-loop-op
invariant-loop-op l =
    (l.count ≤ l.at) × (l.at ≤ length l.trace) × (l.end ≤ 15 * l.at) × (length l.arena ≡ length l.initial.arena) × (length l.room ≡ length l.initial.room) × (length l.out ≡ length l.initial.out)
    × Left 0 (played_text l.initial.arena (kept_in l.initial.room l.initial.t) l.trace) l.initial.out l.end (Rest l.arena (kept_in l.room l.t) l.trace l.count l.at) l.out

abbrev pub decreases-loop-op : goal.decreases-loop-op
decreases-loop-op l = length l.trace - l.at
