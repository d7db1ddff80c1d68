-- `replay` meets its contract: a trace that is not read is one line, any other is played over a pool that was set up.
use Rattle.mem.proofs.Prelude.{◌∙◌, sym, ap, List, ℕ, arith, rules, length}
use Rattle.mem.specs.Bytes.{put}
use Rattle.mem.proofs.Laws.{put-length}
use Rattle.io.proofs.Counting.{prefix_len_of_le}
use Rattle.model.specs.Calls.{kept_in, EngineOutcome}
use Rattle.trace.specs.Replay.{Line}
use Rattle.line_text.specs.Lines.{line_text}
use Rattle.player.specs.Printed.{printed, played_text}
use Rattle.trace.proofs.Laws.{right-length}
use Rattle.player.proofs.Turns.{printed-bad, printed_played}
use Rattle.player.proofs.replay.Goals as goal

pub returns-then-not-readable : goal.returns-then-not-readable
returns-then-not-readable c =
    let a = c.args in
    let e = c.put_bad.ensures in
    let h = sym c.readable.ensures ∙ c.if-not-readable.true in
    let w = printed-bad a.arena.now (kept_in a.room.now a.t) a.trace.now h in
    let o = e.out_after ∙ ap (λ (t : List ℕ). put 0 t a.out.now) (sym w) in
    let l = put-length 0 (line_text (Line.bad 0)) a.out.now in
    record { value = omega (arith, e.value, ap length w); out_after = o; prefix_len = prefix_len_of_le _ _ (omega (arith, e.small, ap length e.out_after, l)) }

pub play-requires : goal.play-requires
play-requires c =
    let a = c.args in
    let l = right-length a.trace.now (sym c.readable.ensures ∙ c.if-not-readable.false) in
    (l.0, l.1, search rules)

pub returns : goal.returns
returns c =
    let a = c.args in
    let e = c.play.ensures in
    let h = sym c.readable.ensures ∙ c.if-not-readable.false in
    let w = ap (λ (r : EngineOutcome). played_text r.arena r.kept a.trace.now) c.set_up.ensures
    ∙ sym (printed_played a.arena.now (kept_in a.room.now a.t) a.trace.now h) in
    let o = e.out_after ∙ ap (λ (t : List ℕ). put 0 t a.out.now) w in
    let l = put-length 0 (printed a.arena.now (kept_in a.room.now a.t) a.trace.now) a.out.now in
    record { value = e.value ∙ ap length w; out_after = o; prefix_len = prefix_len_of_le _ _ (omega (arith, e.small, ap length o, l)) }
