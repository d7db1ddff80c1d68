-- By what is found for the size.
use Rattle.plain.proofs.Kit.{◌∙◌, ◌≡◌, sym, Ok, Err, arith, row_bytes, card_some, slots_layout, plain_form, view_by, found_for, size-asked, size-given}
use Rattle.model.proofs.Plain.{plain_lawful}
use Rattle.frames.proofs.Calls.{in_place-size, size-refused}
use Rattle.plain.proofs.resize_in_place.Goals as goal
use Rattle.plain.proofs.resize_in_place.Goals.{In_ok-b}

-- the block that is found
found : (c : In_ok-b) → (let a = c.args in
    Ok c.in_ok-b.b ≡ found_for row_bytes (plain_form row_bytes) a.arena.now a.room.now a.handle a.n)
found c = sym c.in_ok-b.was ∙ c.find.ensures

pub resize_in_place-requires : goal.resize_in_place-requires
unfolding row_bytes
resize_in_place-requires c =
    let a = c.args in let told = size-asked a.arena.now a.room.now (in_place-size row_bytes (view_by slots_layout row_bytes a.room.now) a.handle a.n) (found (goal.at.resize_in_place-requires c).In_ok-b) in record { room_value = told.0; holds = told.1.0; askable = told.1.1.0 }

pub returns : goal.returns
unfolding row_bytes
returns c =
    let a = c.args in
    size-given a.arena.now a.room.now (in_place-size row_bytes (view_by slots_layout row_bytes a.room.now) a.handle a.n) (found (goal.at.returns c).In_ok-b)
    c.resize_in_place.ensures

pub returns-in_err-b : goal.returns-in_err-b
returns-in_err-b c =
    let a = c.args in
    let e : c.from_residual.result ≡ Err c.in_err-b.field-0.0 = grind arith in
    rw e
    (size-refused (plain_form row_bytes) a.arena.now a.room.now (in_place-size row_bytes (view_by slots_layout row_bytes a.room.now) a.handle a.n)
    (plain_lawful row_bytes card_some) card_some c.in_err-b.field-0.0 (sym c.in_err-b.was ∙ c.find.ensures))
