-- `play` meets its contract. The invariant: writing the text of the records that are left makes the whole written; a record has three bytes
-- or more and its line at most 45, so there is room for it.
use Rattle.mem.proofs.Prelude.{◌∙◌, sym, refl, subst, [], ◌+◌, ◌≤◌, append-nil, arith, rules, length}
use Rattle.model.specs.Calls.{kept_in}
use Rattle.trace.specs.Trace.{Within}
use Rattle.trace.specs.Replay.{Line, line_of}
use Rattle.trace.proofs.Laws.{step_within}
use Rattle.line_text.specs.Lines.{line_text, answer_of}
use Rattle.player.specs.Printed.{played_text}
use Rattle.line_text.proofs.Laws.{Left, left_all, left_step, left-none}
use Rattle.player.proofs.Turns.{Rest, Behind, all_left, last_one, goes_on, turn_end, turn_bad, turn}
use Rattle.player.proofs.play.Goals as goal
use Rattle.player.proofs.play.Goals.{After-is_bad, In-Record}

pub loop-op-init : goal.loop-op-init
loop-op-init c =
    let a = c.args in (
      omega arith,
      omega arith,
      omega arith,
      refl,
      refl,
      refl,
      left_all _ _ a.out.now
          (all_left a.arena.now (kept_in a.room.now a.t.now) a.trace.now),
    )

-- what the record that was read promises
promised : (o : In-Record)
    → (o.loop-op.at + 3 ≤ o.in-Record.next)
    × ((o.in-Record.next ≤ length o.args.trace.now)
    × Within o.in-Record.op (length o.args.trace.now))
promised o =
    step_within o.args.trace.now o.loop-op.at o.in-Record.op o.in-Record.next
    (sym o.in-Record.is ∙ o.read.ensures)

pub perform-told-requires : goal.perform-told-requires
perform-told-requires c = (promised (goal.at.perform-told-requires c).In-Record).1.1

pub put_line-end-requires : goal.put_line-end-requires
put_line-end-requires c =
    let w = promised (goal.at.put_line-end-requires c).In-Record in
    let l = c.loop-op.invariant in
    let h = c.requires in
    (omega (arith, w.0, w.1.0, l.2, l.5, h.1, h.2), c.perform-told.ensures.short)

-- the record's line is written, and what is behind it is left
written : (p : After-is_bad)
    → (let a = p.args in
    Left 0 (played_text a.arena.now (kept_in a.room.now a.t.now) a.trace.now) a.out.now p.put_line-end.result
    (Behind (answer_of p.perform-told.result) p.perform-told.new.arena (kept_in p.perform-told.new.room p.perform-told.new.t) a.trace.now
    (p.loop-op.count + 1) p.in-Record.next)
    p.put_line-end.new.out)
written p =
    let a = p.args in
    let e = p.perform-told.ensures in
    let i = p.loop-op.count in
    let x = answer_of p.perform-told.result in
    left_step 0 (played_text a.arena.now (kept_in a.room.now a.t.now) a.trace.now) a.out.now p.loop-op.end p.put_line-end.result
    (Rest p.loop-op.arena (kept_in p.loop-op.room p.loop-op.t) a.trace.now i p.loop-op.at) (line_text (line_of i x))
    (Behind x p.perform-told.new.arena (kept_in p.perform-told.new.room p.perform-told.new.t) a.trace.now (i + 1) p.in-Record.next)
    p.loop-op.out p.put_line-end.new.out
    (turn p.loop-op.arena (kept_in p.loop-op.room p.loop-op.t) a.trace.now i p.loop-op.at (omega arith) p.in-Record.op p.in-Record.next
    (sym p.in-Record.is ∙ p.read.ensures) x p.perform-told.new.arena (kept_in p.perform-told.new.room p.perform-told.new.t) e.does)
    p.put_line-end.ensures.value p.put_line-end.ensures.out_after p.loop-op.invariant.6

-- a bad record is the last
pub returns-then-is_bad : goal.returns-then-is_bad
returns-then-is_bad c =
    let a = c.args in
    let n = promised (goal.at.returns-then-is_bad c).In-Record in
    let x = answer_of c.perform-told.result in
    let q = c.in-Record.next in
    let z = last_one c.perform-told.new.arena (kept_in c.perform-told.new.room c.perform-told.new.t) a.trace.now (c.loop-op.count + 1) q x
    (sym c.is_bad.ensures ∙ c.if-is_bad.true) in
    let w = left-none 0 (played_text a.arena.now (kept_in a.room.now a.t.now) a.trace.now) a.out.now c.put_line-end.result
    (Behind x c.perform-told.new.arena (kept_in c.perform-told.new.room c.perform-told.new.t) a.trace.now (c.loop-op.count + 1) q)
    c.put_line-end.new.out z (written (goal.at.returns-then-is_bad c).After-is_bad) in
    record { value = omega (arith, w.0); out_after = w.1; small = omega (arith, c.put_line-end.ensures.small, n.0, n.1.0, c.loop-op.invariant.2, c.requires.1) }

pub overflow_add-count : goal.overflow_add-count
overflow_add-count c =
    let w = promised (goal.at.overflow_add-count c).In-Record in
    omega (arith, w.0, w.1.0)

pub loop-op-smaller : goal.loop-op-smaller
loop-op-smaller c =
    let w = promised (goal.at.loop-op-smaller c).In-Record in
    omega (arith, w.0, w.1.0)

pub loop-op-preserved : goal.loop-op-preserved
loop-op-preserved c =
    let a = c.args in
    let n = promised (goal.at.loop-op-preserved c).In-Record in
    let W = played_text a.arena.now (kept_in a.room.now a.t.now) a.trace.now in
    let z = goes_on c.perform-told.new.arena (kept_in c.perform-told.new.room c.perform-told.new.t) a.trace.now _ c.in-Record.next
    (answer_of c.perform-told.result)
    (sym c.is_bad.ensures ∙ c.if-is_bad.false) in (
      omega (arith, n.0),
      n.1.0,
      omega (arith, c.put_line-end.ensures.small, n.0),
      search rules,
      search rules,
      search rules,
      subst (λ t. Left 0 W a.out.now c.put_line-end.result t c.put_line-end.new.out) z (written (goal.at.loop-op-preserved c).After-is_bad),
    )

-- what is no record ends the trace with a line
pub returns-in-Bad : goal.returns-in-Bad
returns-in-Bad c =
    let a = c.args in
    let W = played_text a.arena.now (kept_in a.room.now a.t.now) a.trace.now in
    let F = line_text (Line.bad c.loop-op.count) in
    let t = turn_bad c.loop-op.arena (kept_in c.loop-op.room c.loop-op.t) a.trace.now c.loop-op.count c.loop-op.at (omega arith)
    (sym c.in-Bad.is ∙ c.read.ensures) in
    let s = left_step 0 W a.out.now c.loop-op.end c.put_bad.result _ F [] c.loop-op.out c.put_bad.new.out (t ∙ sym (append-nil F))
    c.put_bad.ensures.value c.put_bad.ensures.out_after c.loop-op.invariant.6 in
    let w = left-none 0 W a.out.now c.put_bad.result [] c.put_bad.new.out refl s in
    record { value = omega (arith, w.0); out_after = w.1; small = omega (arith, c.put_bad.ensures.small) }

pub returns-in-End : goal.returns-in-End
returns-in-End c =
    let a = c.args in
    let t = turn_end c.loop-op.arena (kept_in c.loop-op.room c.loop-op.t) a.trace.now c.loop-op.count c.loop-op.at (omega arith)
    (sym c.in-End.is ∙ c.read.ensures) in
    let w = left-none 0 (played_text a.arena.now (kept_in a.room.now a.t.now) a.trace.now) a.out.now c.loop-op.end _ c.loop-op.out t
    c.loop-op.invariant.6 in
    record { value = omega (arith, w.0); out_after = w.1; small = omega arith }

pub put_bad-requires : goal.put_bad-requires
put_bad-requires c = omega arith
