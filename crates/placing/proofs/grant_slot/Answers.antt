-- `grant_slot` meets its contract.
use Rattle.mem.proofs.Prelude.{◌≡◌, ◌+◌, ℕ, ◌^◌, ◌%◌}
use Rattle.model.specs.declared.Slot.{Slot}
use Rattle.model.specs.State.{count}
use Rattle.model.specs.Plans.{displaced, grant_slot}
use Rattle.placing.proofs.grant_slot.Goals as goal

granted : (c k n b j v d : ℕ) (x : Slot) → j ≡ count x → v ≡ (j + 1) % 2 ^ 8 → d ≡ displaced c k n b j
    → Slot.Live (record { count = v; disp = d; size = n; align = k }) ≡ grant_slot c k n b x
unfolding grant_slot
granted c k n b j v d x e f g = rw (g, f, e)

pub returns : goal.returns
returns c =
    let a = c.args in
    granted a.c a.code a.n a.begin c.count_of-k.result c.wrapping_add_u8.result c.displacement.result a.x
    c.count_of-k.ensures c.wrapping_add_u8.ensures.value c.displacement.ensures
