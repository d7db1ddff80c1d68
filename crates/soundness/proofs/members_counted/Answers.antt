-- `members_counted` meets its contract: the law of a group's slots, over what the calls give.
use Rattle.mem.proofs.Prelude.{◌∙◌, ◌≡◌, sym, ap, refl, true, false, Bool, ◌&&◌, not, eqb, ℕ, ◌+◌, ◌-◌, arith, drop, Some, None, Ok, Err}
use Rattle.mem.proofs.Prelude.{eq-eqb, ne_eqb, ones}
use Rattle.std.specs.Result.{result_ok}
use Rattle.mem.specs.Lists.{choose}
use Rattle.mem.proofs.Tests.{true-T, choose-true, choose-false}
use Rattle.model.specs.Tables.{sizes_in}
use Rattle.slot_walks.specs.Slots.{slots_exactly}
use Rattle.soundness.specs.Checks.{members_checked}
use Rattle.soundness.proofs.Groups.{members_law, slots_few}
use Rattle.soundness.proofs.Counts.{members_totals}
use Rattle.soundness.proofs.members_counted.Goals as goal
use Rattle.soundness.proofs.members_counted.Goals.{After-group_totals-t, After-slots_right, In_ok-bytes}

-- a sum that is given, or not, if a test passes: as a value or as an error, of which the value is taken
sum_given : (b : Bool) (x y : ℕ) → result_ok (choose b (Ok x) (Err x)) ≡ Some y → (b ≡ true) × (y ≡ x)
unfolding choose
sum_given true x y e = (refl, cc)
sum_given false x y e = let z : ◌≡◌ {A = ℕ} 0 1 = cc in absurd (omega arith)

sum_refused : (b : Bool) (x : ℕ) → result_ok (choose b (Ok x) (Err x)) ≡ None → b ≡ false
unfolding choose
sum_refused true x e = let z : ◌≡◌ {A = ℕ} 0 1 = cc in absurd (omega arith)
sum_refused false x e = refl

-- the test of the slots
abbrev walked : After-slots_right → Bool
walked c = let a = c.args in slots_exactly a.c a.begin a.n c.quad.result c.quad-2.result (drop (a.at + 16) a.s.now)

law : (c : After-slots_right) → (let a = c.args in
    members_checked a.c a.begin (drop a.at a.s.now) ≡ (walked c && not (eqb (a.n - (ones c.quad.result + ones c.quad-2.result)) 0)))
law c =
    let a = c.args in
    members_law a.s.now a.at a.c a.begin a.n c.quad.result c.quad-2.result c.requires.record_in_bounds.2 c.quad.ensures c.quad-2.ensures

pub returns-in_err-bytes : goal.returns-in_err-bytes
returns-in_err-bytes c =
    let a = c.args in
    let e : c.from_residual.result ≡ None = grind arith in
    let w = (goal.at.returns-in_err-bytes c).After-slots_right in
    e ∙ sym (choose-false (members_checked a.c a.begin (drop a.at a.s.now)) _ None
    (law w ∙ rw (sum_refused (walked w) _ (sym (ap result_ok c.slots_right.ensures.value) ∙ sym c.ok.ensures.value ∙ c.in_err-bytes.was))))

-- the slots passed
passed : (c : In_ok-bytes) → (walked (goal.at.In_ok-bytes c).After-slots_right ≡ true) × (c.in_ok-bytes.bytes ≡ sizes_in c.args.n (drop (c.args.at + 16) c.args.s.now))
passed c = sum_given _ _ _ (sym (ap result_ok c.slots_right.ensures.value) ∙ sym c.ok.ensures.value ∙ c.in_ok-bytes.was)

pub group_totals-t-requires : goal.group_totals-t-requires
group_totals-t-requires c =
    let a = c.args in
    slots_few a.c a.begin a.n c.quad.result c.quad-2.result _ (true-T _ (passed c).0)

-- so a live one is all that is left
live_law : (c : After-group_totals-t) → (let a = c.args in
    members_checked a.c a.begin (drop a.at a.s.now) ≡ not (eqb c.group_totals-t.result.blocks 0))
live_law c =
    law (goal.at.After-group_totals-t c).After-slots_right ∙ rw ((passed (goal.at.After-group_totals-t c).In_ok-bytes).0, c.group_totals-t.ensures)

pub returns-then-t-eq0 : goal.returns-then-t-eq0
returns-then-t-eq0 c =
    let a = c.args in
    sym (choose-false (members_checked a.c a.begin (drop a.at a.s.now)) _ None
    (live_law (goal.at.returns-then-t-eq0 c).After-group_totals-t ∙ ap not (eq-eqb c.group_totals-t.result.blocks 0 (omega arith))))

pub returns : goal.returns
returns c =
    let a = c.args in
    let r = c.quad in
    let w = c.quad-2 in
    let right : members_checked a.c a.begin (drop a.at a.s.now) ≡ true =
    live_law (goal.at.returns c).After-group_totals-t ∙ ap not (ne_eqb c.group_totals-t.result.blocks 0 (λ z. omega arith)) in
    ap Some (c.group_totals-t.ensures
    ∙ members_totals a.s.now a.at a.c a.begin a.n r.result w.result right c.requires.record_in_bounds.2 r.ensures w.ensures
    c.in_ok-bytes.bytes a.k (passed (goal.at.returns c).In_ok-bytes).1)
    ∙ sym (choose-true (members_checked a.c a.begin (drop a.at a.s.now)) _ None right)
