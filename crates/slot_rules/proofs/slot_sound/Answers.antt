-- `slot_sound` meets its contract: by whether the slot is live.
use Rattle.mem.proofs.Prelude.{◌∙◌, sym, ◌||◌}
use Rattle.mem.proofs.Tests.{choose-true, choose-false}
use Rattle.slot_rules.specs.Rules.{exact_checked}
use Rattle.slot_rules.proofs.slot_sound.Goals as goal

pub returns-then-ready-waiting : goal.returns-then-ready-waiting
unfolding exact_checked
returns-then-ready-waiting c =
    let a = c.args in
    c.record_sound.ensures ∙ sym (choose-true (a.ready || a.waiting) _ _ c.if-ready-waiting.true)

pub returns : goal.returns
unfolding exact_checked
returns c =
    let a = c.args in
    c.live_sound.ensures ∙ sym (choose-false (a.ready || a.waiting) _ _ c.if-ready-waiting.false)
