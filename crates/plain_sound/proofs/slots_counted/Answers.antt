-- `slots_counted` meets its contract. The invariant: what is counted of all slots is what was counted, and what is of those that are left.
use Rattle.mem.proofs.Prelude.{◌∙◌, ◌≡◌, sym, ◌+◌, ◌*◌, add_assoc, drop, take}
use Rattle.classes.specs.Classes.{slot_bytes}
use Rattle.model.specs.Tables.{row_at}
use Rattle.model.specs.Plain.{plain_in}
use Rattle.model.proofs.SixTotals.{zero_totals}
use Rattle.plain_sound.proofs.Laws.{one_right, slot_next, none-counted, all_counted, not-counted, one_counted}
use Rattle.plain_sound.proofs.slots_counted.Goals as goal
use Rattle.plain_sound.proofs.slots_counted.Goals.{After-record_sound}

pub loop-j-init : goal.loop-j-init
loop-j-init c =
    let a = c.args in
    rw (zero_totals c.default.result c.default.ensures) (none-counted a.room.now (row_at a.i + 16) a.c a.k a.begin c.slots-n.result)

-- the slot that was read is the next one
next : (e : After-record_sound) → (let a = e.args in
    e.slot_at-x.result ≡ plain_in (take 8 (drop (row_at a.i + 16 + 8 * e.loop-j.j) a.room.now)))
next e =
    let a = e.args in
    e.slot_at-x.ensures.value ∙ slot_next a.i e.loop-j.j a.room.now

right : (e : After-record_sound) → (let a = e.args in
    one_right a.c e.loop-j.place e.slot_at-x.result (drop (row_at a.i + 16 + 8 * e.loop-j.j) a.room.now) ≡ e.record_sound.result)
right e =
    let a = e.args in
    rw (add_assoc (row_at a.i) 16 (8 * e.loop-j.j)) (sym e.record_sound.ensures)

pub returns-then-not-record_sound : goal.returns-then-not-record_sound
returns-then-not-record_sound c =
    let n = c.slots-n in
    let a = c.args in
    let w = not-counted a.room.now (row_at a.i + 16) a.c a.k a.begin n.result c.loop-j.t c.loop-j.place c.loop-j.j c.loop-j.invariant
    c.slot_at-x.result c.loop-j-test.true (next (goal.at.returns-then-not-record_sound c).After-record_sound) (right (goal.at.returns-then-not-record_sound c).After-record_sound ∙ c.if-not-record_sound.true) in
    rw (← n.ensures.value) (sym w)

pub loop-j-preserved : goal.loop-j-preserved
unfolding slot_bytes
loop-j-preserved c =
    let n = c.slots-n in
    let a = c.args in
    let w = one_counted a.room.now (row_at a.i + 16) a.c a.k a.begin n.result c.loop-j.t c.loop-j.place c.loop-j.j c.loop-j.invariant
    c.slot_at-x.result c.loop-j-test.true (next (goal.at.loop-j-preserved c).After-record_sound) (right (goal.at.loop-j-preserved c).After-record_sound ∙ c.if-not-record_sound.false)
    c.slot_at-x.ensures.small in
    rw (c.with_slot-t.ensures, c.units-bytes.ensures.value) w

pub returns : goal.returns
returns c =
    let n = c.slots-n in
    let a = c.args in
    let w = all_counted a.room.now (row_at a.i + 16) a.c a.k a.begin n.result c.loop-j.t c.loop-j.place c.loop-j.j c.loop-j.invariant
    c.loop-j-test.false in
    rw (← n.ensures.value) (sym w)
