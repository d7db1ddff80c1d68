-- `slots_walk` meets its contract. The invariant: the check of all slots is that those passed are sound and the check of those
-- that are left; the sizes are those summed and those that are left.
use Rattle.mem.proofs.Prelude.{◌≡◌, ◌&&◌, ◌+◌, ◌≤◌, ◌*◌, ◌-◌, ◌/◌, ◌^◌}
use Rattle.mem.proofs.Prelude.{drop}
use Rattle.model.specs.Tables.{sizes_in}
use Rattle.slot_walks.specs.Slots.{slots_checked}
use Rattle.slot_walks.proofs.slots_walk.Given as goal

abbrev pub invariant-loop-i : goal.invariant-loop-i
invariant-loop-i l =
    (l.bytes ≤ 16777216 * l.i)
    × (slots_checked l.b.most l.b.least l.g.n l.g.masks.ready l.g.masks.waiting (drop l.g.at l.s)
    ≡ (l.sound && slots_checked l.b.most l.b.least (l.g.n - l.i) (l.g.masks.ready / 2 ^ l.i) (l.g.masks.waiting / 2 ^ l.i) (drop (l.g.at + 8 * l.i) l.s)))
    × (sizes_in l.g.n (drop l.g.at l.s) ≡ l.bytes + sizes_in (l.g.n - l.i) (drop (l.g.at + 8 * l.i) l.s))
