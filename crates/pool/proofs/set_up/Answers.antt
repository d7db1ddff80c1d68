-- Refused by the room's size, or done: zeros, and tables with no groups.
use Rattle.ops.proofs.Kit.{◌∙◌, sym, ap₂, refl, ◌/◌, length, row_bytes, kept_in, engine, whole}
use Rattle.model.specs.Tables.{masks_layout}
use Rattle.model.proofs.Fresh.{fresh-totals}
use Rattle.model.proofs.SixTotals.{zero_totals}
use Rattle.fresh.proofs.SetUp.{Fitting, fitting, set_up-refused, set_up-made, formatted, formattable}
use Rattle.pool.proofs.set_up.Goals as goal
use Rattle.pool.proofs.set_up.Goals.{Else-room-size}

pub returns-then-size-eq0 : goal.returns-then-size-eq0
returns-then-size-eq0 d =
    let a = d.args in
    sym (set_up-refused row_bytes (engine row_bytes) a.arena.now (kept_in a.room.now a.t.now) a.room.now refl
    (λ h. sym d.room_len-size.ensures ∙ d.if-size-eq0.true))

pub returns-then-room-size : goal.returns-then-room-size
returns-then-room-size d =
    let a = d.args in
    sym (set_up-refused row_bytes (engine row_bytes) a.arena.now (kept_in a.room.now a.t.now) a.room.now refl
    (λ h. absurd (d.if-room-size.true (h ∙ sym d.room_len-size.ensures))))

-- the room has the size that the arena asks for
fit : (c : Else-room-size) → (let a = c.args in
    Fitting row_bytes (engine row_bytes) a.arena.now (kept_in a.room.now a.t.now) a.room.now refl)
fit c =
    let e = c.room_len-size.ensures in fitting row_bytes _ _ _ _ refl (c.if-room-size.false ∙ e) (λ z. c.if-size-eq0.false (e ∙ z))

pub format-requires : goal.format-requires
format-requires c = formattable (fit (goal.at.format-requires c).Else-room-size)

pub returns : goal.returns
unfolding row_bytes
returns c =
    let a = c.args in
    let k = kept_in a.room.now a.t.now in
    rw (c.record.ensures, zero_totals c.default.result c.default.ensures)
    (whole refl c.fill_zero.ensures (ap₂ kept_in
    (c.format.ensures ∙ formatted row_bytes (engine row_bytes) a.arena.now k a.room.now refl masks_layout (fit (goal.at.returns c).Else-room-size))
    (sym (fresh-totals row_bytes (length a.arena.now / row_bytes))))
    ∙ sym (set_up-made row_bytes (engine row_bytes) a.arena.now k a.room.now refl (fit (goal.at.returns c).Else-room-size)))
