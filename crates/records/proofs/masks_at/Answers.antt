-- `masks_at` meets its contract.
use Rattle.mem.proofs.Prelude.{◌≡◌, List, ◌+◌, ℕ, drop, drop-drop}
use Rattle.mem.specs.Bytes.{number, part}
use Rattle.masks.specs.declared.Masks.{Masks}
use Rattle.model.specs.Tables.{row_at}
use Rattle.records.specs.Records.{masks_in}
use Rattle.records.proofs.masks_at.Goals as goal

read : (i p x y : ℕ) (t : List ℕ) → p ≡ row_at i → x ≡ number (part (p + 8) 4 t) → y ≡ number (part (p + 12) 4 t)
    → ◌≡◌ {A = Masks} (record { ready = x; waiting = y }) (masks_in (drop (row_at i) t))
unfolding masks_in
read i p x y t e f g = rw (f, g, ← e, drop-drop 8 p t, drop-drop 12 p t)

pub returns : goal.returns
returns c =
    let a = c.args in
    read a.i c.row_at-at.result c.quad.result c.quad-2.result a.room.now c.row_at-at.ensures c.quad.ensures
    c.quad-2.ensures
