-- `lowest_open` meets its contract: no group before row 0 serves.
use Rattle.rows.proofs.Walks.{open_start}
use Rattle.walks.proofs.lowest_open.Goals as goal

pub find_open-requires : goal.find_open-requires
find_open-requires g c =
    let a = c.args in record {
      room_value = c.requires.room_value;
      c_bound = (c.requires.c_bound, open_start g.K.Keeping.layout a.row.bytes a.room.now a.c);
    }
