-- `note` meets its contract. The invariant: counts and map tell what the spans passed have.
use Rattle.mem.proofs.Prelude.{◌∙◌, sym, ap, ◌/◌, arith, length}
use Rattle.mem.proofs.Laws.{zeros-length}
use Rattle.rows.specs.Rows.{Lent}
use Rattle.rows.proofs.Rooms.{lent_by}
use Rattle.serving.proofs.Notes.{Further, begin, ahead, further, end, whole_map}
use Rattle.walks.proofs.note.Given.{Over}
use Rattle.walks.proofs.note.Goals as goal
use Rattle.walks.proofs.note.Goals.{After-note_span-i, Start}

pub loop-i-init : goal.loop-i-init
loop-i-init g c =
    begin g.K.Keeping.layout c.args.row.bytes c.args.len c.args.room.now c.args.spare.now c.args.gaps.now c.requires.spare_value.0 c.requires.spare_value.1

-- the room as its laws take it
lent : (g : Over) (s : Start g) → Lent g.K.Keeping.layout s.args.row.bytes s.args.len s.args.room.now
lent g s = lent_by g.met.K.Keeping.laws s.requires.room_value s.args.row.lawful

pub note_span-i-requires : goal.note_span-i-requires
note_span-i-requires g c =
    let a = ahead (lent g (goal.at.note_span-i-requires g c).Start) c.loop-i.invariant c.loop-i-test.true in
    record { next_span = (c.args.len, a.0, a.1, a.2, a.3, a.4) }

turn : (g : Over) (c : After-note_span-i g) → (let a = c.args in
    let x = c.note_span-i in
    Further g.K.Keeping.layout a.row.bytes a.len a.room.now c.loop-i.i x.result x.new.spare x.new.gaps)
turn g c =
    further (lent g (goal.at.After-note_span-i g c).Start) c.loop-i.invariant c.loop-i-test.true c.note_span-i.ensures

pub overflow_add-i : goal.overflow_add-i
overflow_add-i g c = omega (arith, turn g (goal.at.overflow_add-i g c).After-note_span-i)

pub loop-i-smaller : goal.loop-i-smaller
loop-i-smaller g c = omega (arith, turn g (goal.at.loop-i-smaller g c).After-note_span-i)

pub loop-i-preserved : goal.loop-i-preserved
loop-i-preserved g c = (turn g (goal.at.loop-i-preserved g c).After-note_span-i).again

pub returns : goal.returns
returns g c = end (lent g (goal.at.returns g c).Start) c.loop-i.invariant c.loop-i-test.false

pub shape_of-spare : goal.shape_of-spare
shape_of-spare g c =
    (returns g c).classes ∙ sym (ap length c.requires.spare_value.0 ∙ zeros-length 48)

pub shape_of-gaps : goal.shape_of-gaps
shape_of-gaps g c =
    whole_map (lent g (goal.at.shape_of-gaps g c).Start) (returns g c) ∙ sym (ap length c.requires.spare_value.1 ∙ zeros-length (c.args.len / c.args.row.bytes))
