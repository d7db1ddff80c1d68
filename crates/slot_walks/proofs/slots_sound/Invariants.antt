-- `slots_sound` meets its contract. The invariant: the check of all slots is the check of those that are left.
use Rattle.mem.proofs.Prelude.{◌≡◌, ◌+◌, ◌*◌, ◌-◌, ◌/◌, ◌^◌}
use Rattle.mem.proofs.Prelude.{drop}
use Rattle.classes.specs.Classes.{slot_bytes}
use Rattle.slot_walks.specs.Slots.{slots_exactly}
use Rattle.slot_walks.proofs.slots_sound.Given as goal

abbrev pub invariant-loop-i : goal.invariant-loop-i
invariant-loop-i l =
    (slots_exactly l.b.class l.g.begin l.g.n l.g.masks.ready l.g.masks.waiting (drop l.g.at l.s)
    ≡ slots_exactly l.b.class (l.g.begin + l.i * slot_bytes l.b.class) (l.g.n - l.i) (l.g.masks.ready / 2 ^ l.i) (l.g.masks.waiting / 2 ^ l.i) (drop (l.g.at + 8 * l.i) l.s))
