-- Refused by the room's size, or done: zeros, and tables with no groups.
use Rattle.plain.proofs.Kit.{◌∙◌, sym, refl, row_bytes, slots_layout, plain_form, whole}
use Rattle.fresh.proofs.SetUp.{Fitting, fitting, set_up-refused, set_up-made, formatted, formattable}
use Rattle.plain.proofs.set_up.Goals as goal
use Rattle.plain.proofs.set_up.Goals.{Else-room-size}

pub returns-then-size-eq0 : goal.returns-then-size-eq0
returns-then-size-eq0 c =
    let a = c.args in
    let r = c.room_len-size in
    sym (set_up-refused row_bytes (plain_form row_bytes) a.arena.now a.room.now a.room.now refl (λ h. sym r.ensures ∙ c.if-size-eq0.true))

pub returns-then-room-size : goal.returns-then-room-size
returns-then-room-size c =
    let a = c.args in
    let r = c.room_len-size in
    sym (set_up-refused row_bytes (plain_form row_bytes) a.arena.now a.room.now a.room.now refl
    (λ h. absurd (c.if-room-size.true (h ∙ sym r.ensures))))

-- the room has the size that the arena asks for
fit : (c : Else-room-size) → (let a = c.args in
    Fitting row_bytes (plain_form row_bytes) a.arena.now a.room.now a.room.now refl)
fit c =
    let a = c.args in
    let r = c.room_len-size in
    fitting row_bytes (plain_form row_bytes) a.arena.now a.room.now a.room.now refl (c.if-room-size.false ∙ r.ensures)
    (λ z. c.if-size-eq0.false (r.ensures ∙ z))

pub format-requires : goal.format-requires
format-requires c = formattable (fit (goal.at.format-requires c).Else-room-size)

pub returns : goal.returns
unfolding row_bytes
returns c =
    let a = c.args in
    whole refl c.fill_zero.ensures
    (c.format.ensures ∙ formatted row_bytes (plain_form row_bytes) a.arena.now a.room.now a.room.now refl slots_layout (fit (goal.at.returns c).Else-room-size))
    ∙ sym (set_up-made row_bytes (plain_form row_bytes) a.arena.now a.room.now a.room.now refl (fit (goal.at.returns c).Else-room-size))
