-- `live_in` meets its contract. The invariant: the group's live slots are those counted, and those of the slots that are left.
use Rattle.mem.proofs.Prelude.{◌∙◌, ap, arith, rules}
use Rattle.mem.specs.Bytes.{bit}
use Rattle.model.specs.State.{is_live}
use Rattle.plain_slots.specs.Slots.{live_in}
use Rattle.plain_slots.proofs.Walks.{slots-begin, slots_turn, slots_end}
use Rattle.plain_slots.proofs.live_in.Goals as goal

pub loop-j-init : goal.loop-j-init
loop-j-init c =
    let a = c.args in
    (search rules, omega (arith, ap live_in (slots-begin c.slots-n.result a.c a.i a.room.now c.slots-n.ensures.value)))

pub loop-j-preserved : goal.loop-j-preserved
loop-j-preserved c =
    let l = c.loop-j in
    let k = c.slots-n in
    let a = c.args in
    let e = ap live_in (slots_turn k.result a.i a.room.now l.j c.loop-j-test.true) in (
      omega (arith, c.one_if_live-live.ensures.small),
      omega (
        arith,
        l.invariant.1,
        e,
        c.one_if_live-live.ensures.value ∙ ap (λ x. bit (is_live x))
            c.slot_at.ensures.value,
      ),
    )

pub returns : goal.returns
returns c =
    let l = c.loop-j in
    let k = c.slots-n in
    let a = c.args in
    omega (arith, l.invariant.1, ap live_in (slots_end k.result a.i a.room.now l.j c.loop-j-test.false))
