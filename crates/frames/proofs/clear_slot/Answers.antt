-- `clear_slot` meets its contract.
use Rattle.mem.proofs.Prelude.{◌∙◌, ◌≡◌, ap₂, ◌+◌, ◌*◌, ◌-◌, arith}
use Rattle.mem.specs.Bytes.{zeros, put}
use Rattle.classes.specs.Classes.{slot_bytes}
use Rattle.classes.proofs.Laws.{bytes-units}
use Rattle.frames.proofs.clear_slot.Goals as goal

pub owned_of-at-requires : goal.owned_of-at-requires
owned_of-at-requires c = let h = c.requires.standing in record { class_bound = (h.class, h.slot, omega (arith, h.few)) }

pub clear-requires : goal.clear-requires
clear-requires c =
    (omega arith, omega (arith, c.owned_of-at.ensures.value, c.requires.standing.owned, c.units.ensures.value, bytes-units c.args.b.class))

pub returns : goal.returns
returns c =
    let at = c.owned_of-at in
    let a = c.args in
    let e : (at.result + 16 * c.units.result) - at.result ≡ slot_bytes a.b.class = omega (arith, c.units.ensures.value, bytes-units a.b.class) in
    c.clear.ensures ∙ ap₂ (λ p k. put p (zeros k) a.arena.now) at.ensures.value e

pub units-requires : goal.units-requires
units-requires c = c.requires.standing.class
