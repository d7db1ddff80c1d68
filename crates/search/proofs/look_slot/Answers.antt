-- `look_slot` meets its contract.
use Rattle.mem.proofs.Prelude.{sym, eq-eqb, ne_eqb}
use Rattle.mem.proofs.Tests.{choose-true, choose-false}
use Rattle.search.proofs.look_slot.Goals as goal

pub returns-in-Idle : goal.returns-in-Idle
returns-in-Idle c = rw c.in-Idle.is (sym (choose-true _ _ _ (eq-eqb _ _ c.if-disp-after.true)))

pub returns-in-Live : goal.returns-in-Live
returns-in-Live c = rw c.in-Live.is (sym (choose-true _ _ _ (eq-eqb _ _ c.if-a-after.true)))

pub returns-in_default : goal.returns-in_default
returns-in_default c = rw c.in-Idle.is (sym (choose-false _ _ _ (ne_eqb _ _ c.if-disp-after.false)))

pub returns-in_default-2 : goal.returns-in_default-2
returns-in_default-2 c = rw c.in-Live.is (sym (choose-false _ _ _ (ne_eqb _ _ c.if-a-after.false)))
