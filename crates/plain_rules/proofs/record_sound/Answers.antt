-- `record_sound` meets its contract.
use Rattle.mem.proofs.Prelude.{◌∙◌, ◌≡◌, ◌+◌, ◌*◌, ◌-◌, arith, drop}
use Rattle.mem.specs.Lists.{starts}
use Rattle.mem.proofs.Starts.{starts-part}
use Rattle.model.specs.Tables.{row_at}
use Rattle.model.specs.Plain.{plain_record}
use Rattle.model.proofs.Plain.{plain_length}
use Rattle.plain_rules.proofs.record_sound.Goals as goal
use Rattle.plain_rules.proofs.record_sound.Goals.{After-same_bytes}

-- the record is that of the slot
form : (c : After-same_bytes) → (let a = c.args in
    c.same_bytes.result ≡ starts (drop (row_at a.i + (16 + 8 * a.j)) a.room.now) (plain_record a.x))
form c =
    let p = c.slot_place-at in
    let a = c.args in
    let e : p.result + 8 - p.result ≡ 8 = omega arith in
    c.same_bytes.ensures ∙ rw (e, c.slot_record-record.ensures, p.ensures)
    (starts-part (row_at a.i + (16 + 8 * a.j)) 8 a.room.now (plain_record a.x) (plain_length a.x))

pub returns-then-not-same_bytes : goal.returns-then-not-same_bytes
returns-then-not-same_bytes c = rw (← form (goal.at.returns-then-not-same_bytes c).After-same_bytes, c.if-not-same_bytes.true)

pub returns : goal.returns
returns c =
    rw (← form (goal.at.returns c).After-same_bytes, c.if-not-same_bytes.false) c.slot_sound.ensures
