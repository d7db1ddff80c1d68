-- `fits` meets its contract: the sizes are served from notes of the tables.
use Rattle.mem.proofs.Prelude.{◌≡◌, ◌/◌, ◌≤◌, arith, refl, length, length-append}
use Rattle.mem.specs.Bytes.{zeros}
use Rattle.model.specs.Tables.{view_by}
use Rattle.rows.specs.Rows.{Lent}
use Rattle.rows.proofs.Rooms.{lent_by, row_count, few_rows}
use Rattle.serving.proofs.Notes.{whole_map, zeros-front, told-front}
use Rattle.walks.proofs.fits.Given.{Over}
use Rattle.walks.proofs.fits.Goals as goal
use Rattle.walks.proofs.fits.Goals.{After-note, Start}

-- the room as its laws take it
lent : (g : Over) (s : Start g) → Lent g.K.Keeping.layout s.args.row.bytes s.args.len s.args.room.now
lent g s = lent_by g.met.K.Keeping.laws s.requires.room_value s.args.row.lawful

few : (g : Over) (s : Start g) → s.args.len / s.args.row.bytes ≤ 512
few g s = omega (arith, row_count (lent g s), few_rows (lent g s))

pub slice_bounds-gaps-end : goal.slice_bounds-gaps-end
slice_bounds-gaps-end g c = omega (arith, few g (goal.at.slice_bounds-gaps-end g c).Start)

pub note-requires : goal.note-requires
unfolding zeros
note-requires g c =
    record { room_value = c.requires.room_value; spare_value = (refl, zeros-front (c.args.len / c.args.row.bytes) 512 (few g (goal.at.note-requires g c).Start)) }

-- the map after the walk
noted_length : (g : Over) (c : After-note g) → (let a = c.args in length c.note.new.gaps ≡ a.len / a.row.bytes)
noted_length g c = whole_map (lent g (goal.at.After-note g c).Start) c.note.ensures

pub slice_bounds-gaps-end-2 : goal.slice_bounds-gaps-end-2
slice_bounds-gaps-end-2 g c = simp length-append (omega (arith, noted_length g (goal.at.slice_bounds-gaps-end-2 g c).After-note))

pub serve_all-requires : goal.serve_all-requires
serve_all-requires g c =
    record {
      notes_of = (view_by g.K.Keeping.layout c.args.row.bytes c.args.room.now, told-front _ _ (noted_length g (goal.at.serve_all-requires g c).After-note) c.note.ensures);
      small_sizes = c.requires.small_sizes;
    }

pub returns : goal.returns
returns g c =
    c.serve_all.ensures (view_by g.K.Keeping.layout c.args.row.bytes c.args.room.now) (told-front _ _ (noted_length g (goal.at.returns g c).After-note) c.note.ensures)
