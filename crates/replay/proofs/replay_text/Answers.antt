-- `replay_text` meets its contract: its arrays are the zeros that the definition begins with.
use Rattle.mem.proofs.Prelude.{◌∙◌, ◌≡◌, ap, ap₂, refl, List, ℕ, ◌/◌, length}
use Rattle.mem.specs.Bytes.{zeros, put}
use Rattle.classes.specs.Classes.{row_bytes}
use Rattle.model.specs.declared.Totals.{Totals}
use Rattle.model.specs.Tables.{room_bytes}
use Rattle.model.specs.Calls.{kept_in}
use Rattle.model.proofs.SixTotals.{zero_totals}
use Rattle.trace.specs.Replay.{arena_bytes, no_totals, replayed}
use Rattle.player.specs.Printed.{lines_text, printed}
use Rattle.replay.proofs.replay_text.Goals as goal

-- over arrays of these zeros, what is printed is the replay's lines
over_zeros : (a t s : List ℕ) (z : Totals) → a ≡ zeros arena_bytes → t ≡ zeros (room_bytes (arena_bytes / row_bytes)) → z ≡ no_totals
    → printed a (kept_in t z) s ≡ lines_text (replayed s)
unfolding printed replayed
over_zeros a t s z e f g = ap (λ z. printed a (kept_in t z) s) g ∙ ap₂ (λ b u. printed b (kept_in u no_totals) s) e f

room_zeros : zeros 8464 ≡ zeros (room_bytes (arena_bytes / row_bytes))
unfolding room_bytes row_bytes
room_zeros = refl

pub returns : goal.returns
unfolding zeros
returns c =
    let a = c.args in
    let e = c.replay.ensures in
    let d = c.default-totals in
    let w = over_zeros _ _ a.trace.now d.result refl room_zeros (zero_totals d.result d.ensures) in
    record { value = e.value ∙ ap length w; out_after = e.out_after ∙ ap (λ (t : List ℕ). put 0 t a.out.now) w; prefix_len = e.prefix_len }
