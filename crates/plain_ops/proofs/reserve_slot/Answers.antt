-- A slot is taken at the site of the size's class.
use Rattle.mem.proofs.Prelude.{◌∙◌, ◌≡◌, sym, ap, subst, Some, None, ℕ, ◌+◌, ◌≤◌, arith}
use Rattle.classes.specs.Classes.{slot_bytes, class_of}
use Rattle.classes.specs.Alignments.{enlarged}
use Rattle.classes.proofs.Alignments.{enlarged_least}
use Rattle.classes.proofs.Laws.{class_facts}
use Rattle.model.specs.Plans.{Site, site}
use Rattle.model.specs.Tables.{view_by}
use Rattle.model.specs.Plain.{slots_layout}
use Rattle.rows.specs.Rows.{Lent, Offers}
use Rattle.frames.specs.Blocks.{reserved_as, next_room_by}
use Rattle.frames.proofs.Sites.{site_offers, reserved_nothing, reserved_at}
use Rattle.plain_tables.proofs.Rooms.{by_slots}
use Rattle.plain_ops.proofs.reserve_slot.Goals as goal
use Rattle.plain_ops.proofs.reserve_slot.Goals.{After-class_of-c, In_ok-i, Start}

room : (s : Start) → Lent slots_layout s.args.row.bytes s.args.len s.args.room.now
room s = by_slots s.requires.room_value s.args.row.lawful

-- the class is that of the enlarged size
class : (c : After-class_of-c) → (let a = c.args in c.class_of-c.result ≡ class_of (enlarged a.code a.n))
class c = c.class_of-c.ensures.value ∙ ap class_of c.enlarged.ensures.value

pub returns-in_err-i : goal.returns-in_err-i
returns-in_err-i c =
    let a = c.args in
    let q = reserved_nothing (room (goal.at.returns-in_err-i c).Start) c.class_of-c.result a.code a.n (class (goal.at.returns-in_err-i c).After-class_of-c) c.site_for.new.room
    (record { found = sym c.in_err-i.was ∙ c.site_for.ensures.value; room = c.site_for.ensures.room_after }) in
    let e : c.from_residual.result ≡ None = grind arith in
    record { value = e ∙ ap (reserved_as a.row.bytes) (sym q.0); room_after = q.1 ∙ ap (next_room_by slots_layout a.row.bytes a.room.now) (sym q.0) }

-- the site that is found
offer : (c : In_ok-i) → (let a = c.args in
    (g : Site) × (site a.row.bytes (view_by slots_layout a.row.bytes a.room.now) c.class_of-c.result ≡ Some g)
    × Offers slots_layout a.row.bytes c.site_for.new.room c.in_ok-i.i c.class_of-c.result g)
offer c =
    site_offers (room (goal.at.In_ok-i c).Start) c.class_of-c.result c.in_ok-i.i c.site_for.new.room c.class_of-c.ensures.small (omega arith)
    (record { found = sym c.in_ok-i.was ∙ c.site_for.ensures.value; room = c.site_for.ensures.room_after })

pub take_slot-requires : goal.take_slot-requires
take_slot-requires c =
    let (g, f, o) = offer (goal.at.take_slot-requires c).In_ok-i in
    let e : ℕ = enlarged c.args.code c.args.n in
    let l = subst (λ c. e + 4 ≤ slot_bytes c) (sym (class (goal.at.take_slot-requires c).After-class_of-c)) (class_facts e c.requires.askable.small).holds in
    record { offers = (g, o); code_bound = (c.requires.askable.last_code, omega (arith, l, enlarged_least c.args.code c.args.n)) }

pub returns : goal.returns
returns c =
    let a = c.args in
    let (g, f, o) = offer (goal.at.returns c).In_ok-i in
    let e = c.take_slot.ensures g o in
    let q = reserved_at (room (goal.at.returns c).Start) c.class_of-c.result a.code a.n (class (goal.at.returns c).After-class_of-c) g f in
    record { value = ap Some e.0 ∙ ap (reserved_as a.row.bytes) (sym q); room_after = e.1 ∙ ap (next_room_by slots_layout a.row.bytes a.room.now) (sym q) }
