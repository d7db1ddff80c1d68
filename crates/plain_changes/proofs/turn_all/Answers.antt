-- `turn_all` meets its contract. The invariant: the walk over all slots is the walk over those that are left.
use Rattle.mem.proofs.Prelude.{◌∙◌, sym, ap, ◌+◌, ◌-◌, arith, rules}
use Rattle.model.specs.Tables.{row_at}
use Rattle.model.specs.Plans.{turn_ready}
use Rattle.plain_slots.specs.Slots.{stored}
use Rattle.plain_changes.specs.Changes.{turned}
use Rattle.plain_changes.proofs.Groups.{turn_small, turned_turn, turned-end}
use Rattle.plain_changes.proofs.turn_all.Goals as goal

pub store-requires-clause-j_lt_most_slots : goal.store-requires-clause-j_lt_most_slots
store-requires-clause-j_lt_most_slots c =
    let x = c.slot_at-x in
    (search rules, rw c.turn_ready.ensures (turn_small x.result x.ensures.small.0))

pub loop-j-preserved : goal.loop-j-preserved
loop-j-preserved c =
    let l = c.loop-j in
    let k = c.slots-n.result in
    let a = c.args in
    let e = c.store.ensures ∙ ap (λ y. stored (row_at a.i) l.j y l.room) (c.turn_ready.ensures ∙ ap turn_ready c.slot_at-x.ensures.value) in
    l.invariant ∙ turned_turn a.i k l.j l.room (omega arith) ∙ ap (turned a.i (k - (l.j + 1)) (l.j + 1)) (sym e)

pub returns : goal.returns
returns c =
    let l = c.loop-j in
    let k = c.slots-n in
    let a = c.args in
    sym (ap (λ m. turned a.i m 0 a.room.now) (sym k.ensures.value) ∙ l.invariant ∙ turned-end a.i k.result l.j l.room c.loop-j-test.false)
