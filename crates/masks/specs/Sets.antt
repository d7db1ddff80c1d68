-- The ready set and the waiting set of a group, as masks.
use Rattle.std.specs.Prelude.{ℕ, ◌+◌, ◌-◌, ◌^◌, eqb}
use Rattle.std.specs.Int.Count.{count_trailing_zeros, ones}
use Rattle.mem.specs.Lists.{choose}
use Rattle.masks.specs.declared.Masks.{Masks}

-- "If its ready set is empty, all waiting slots become ready first."
unfoldable pub refilled : Masks → Masks
refilled m = choose (eqb m.ready 0) (record { ready = m.waiting; waiting = 0 }) m

unfoldable pub to_refill : Masks → ℕ
to_refill m = choose (eqb m.ready 0) (ones m.waiting) 0

-- "Take its lowest ready slot."
unfoldable pub lowest : Masks → ℕ
lowest m = count_trailing_zeros 32 m.ready

unfoldable pub taken : Masks → Masks
unfolding lowest
taken m = record { ready = m.ready - 2 ^ lowest m; waiting = m.waiting }

-- "The slot becomes waiting"
unfoldable pub give_back : Masks → ℕ → Masks
give_back m i = record { ready = m.ready; waiting = m.waiting + 2 ^ i }
