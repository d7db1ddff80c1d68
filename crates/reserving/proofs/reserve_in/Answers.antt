-- A slot is taken at the site of the size's class.
use Rattle.mem.proofs.Prelude.{◌∙◌, ◌≡◌, sym, subst, Some, None, ◌∷◌, ◌++◌, ℕ, ◌+◌, ◌≤◌, arith}
use Rattle.classes.specs.Classes.{slot_bytes}
use Rattle.classes.specs.Alignments.{enlarged}
use Rattle.classes.proofs.Alignments.{enlarged_least}
use Rattle.classes.proofs.Laws.{class_facts}
use Rattle.model.specs.State.{group, pool_of}
use Rattle.model.specs.Plans.{Site, site, grant_in, totals}
use Rattle.model.specs.Tables.{masks_layout, view}
use Rattle.rows.specs.Rows.{Lent, Offers}
use Rattle.rows.proofs.Rooms.{by_masks}
use Rattle.totals.specs.Changes.{Small, Takes}
use Rattle.reserving.proofs.Reserving.{site_offers, reserved_nothing, reserved_counts, reserved_slot}
use Rattle.reserving.proofs.reserve_in.Goals as goal
use Rattle.reserving.proofs.reserve_in.Goals.{After-take_slot-taken, In_ok-i, Start}

room : (s : Start) → Lent masks_layout s.args.row.bytes s.args.len s.args.room.now
room s = by_masks s.requires.room_value s.args.row.lawful

pub returns-in_err-i : goal.returns-in_err-i
returns-in_err-i c =
    let a = c.args in
    let e : c.from_residual.result ≡ None = grind arith in
    let f = c.site_for.ensures in
    let told = reserved_nothing a.row.bytes a.room.now a.code a.n a.c c.requires.c_value.0 c.site_for.new.room a.t.now c.site_for.new.t
    (sym c.in_err-i.was ∙ f.value) f.room_after f.totals_after in
    record { value = e ∙ told.0; room_after = told.1; totals_after = told.2 }

-- the site that is found, with its totals
offer : (c : In_ok-i) → (let a = c.args in
    (g : Site) × (site a.row.bytes (view a.row.bytes a.room.now) a.c ≡ Some g)
    × Offers masks_layout a.row.bytes c.site_for.new.room c.in_ok-i.i a.c g
    × (c.site_for.new.t ≡ totals a.row.bytes (g.before ++ (group a.c g.slots ∷ g.after))))
offer c =
    site_offers (room (goal.at.In_ok-i c).Start) c.args.c c.in_ok-i.i c.args.t.now c.site_for.new.t c.site_for.new.room c.requires.c_value.1 (omega arith)
    (sym c.in_ok-i.was ∙ c.site_for.ensures.value) c.site_for.ensures.room_after c.site_for.ensures.totals_after

pub take_slot-taken-requires : goal.take_slot-taken-requires
take_slot-taken-requires c =
    let (g, f, o, q) = offer (goal.at.take_slot-taken-requires c).In_ok-i in
    let k : ℕ = c.args.code in
    let e : ℕ = enlarged k c.args.n in
    let l = subst (λ c'. e + 4 ≤ slot_bytes c') (sym c.requires.c_value.0) (class_facts e c.requires.askable.small).holds in
    record { offers = (g, o); code_bound = (c.requires.askable.last_code, omega (arith, l, enlarged_least k c.args.n)) }

-- what the taken slot does to the totals
takes : (c : After-take_slot-taken) → (let a = c.args in
    let z = totals a.row.bytes (pool_of (grant_in a.row.bytes a.c a.code a.n (offer (goal.at.After-take_slot-taken c).In_ok-i).0)) in
    Takes a.n c.take_slot-taken.result.refilled c.site_for.new.t z × Small z)
takes c =
    let a = c.args in
    let (g, f, o, q) = offer (goal.at.After-take_slot-taken c).In_ok-i in
    let z = totals a.row.bytes (pool_of (grant_in a.row.bytes a.c a.code a.n g)) in
    let d = reserved_counts a.row.bytes a.room.now a.code a.n a.c c.requires.c_value.0 g f (room (goal.at.After-take_slot-taken c).Start) c.requires.askable o.spare in (
      subst (λ k'. Takes a.n c.take_slot-taken.result.refilled k' z) (sym q)
          (subst (λ k'. Takes a.n k' (totals a.row.bytes (g.before ++ (group a.c g.slots ∷ g.after))) z)
          (sym (c.take_slot-taken.ensures g o).2) d.0),
      d.1,
    )

pub taken-requires : goal.taken-requires
taken-requires c = let d = takes (goal.at.taken-requires c).After-take_slot-taken in (_, d.0, d.1)

pub returns : goal.returns
returns c =
    let a = c.args in
    let (g, f, o, q) = offer (goal.at.returns c).In_ok-i in
    let t = c.take_slot-taken in
    let e = t.ensures g o in
    let told = reserved_slot a.row.bytes a.room.now a.code a.n a.c c.requires.c_value.0 g f t.result.block t.new.room a.t.now c.taken.new.t e.0 e.1
    (c.taken.ensures _ (takes (goal.at.returns c).After-take_slot-taken).0) in
    record { value = told.0; room_after = told.1; totals_after = told.2 }
