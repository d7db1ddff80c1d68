-- `put_fields` meets its contract. The invariant: writing the values that are left makes the whole written.
use Rattle.mem.proofs.Prelude.{◌≡◌, ◌+◌, ◌*◌, ◌≤◌, length, drop}
use Rattle.mem.specs.Lists.{join}
use Rattle.line_text.specs.Lines.{field}
use Rattle.line_text.proofs.Laws.{Left}
use Rattle.line_text.proofs.put_fields.Given as goal

abbrev pub invariant-loop-v : goal.invariant-loop-v
invariant-loop-v l =
    (length l.out ≡ length l.initial.out) × (l.end ≤ l.at + 21 * l.v-index)
    × Left l.at (join field l.values) l.initial.out l.end (join field (drop l.v-index l.values)) l.out
