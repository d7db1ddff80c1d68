-- `slots_sound` meets its contract. The invariant: the check of all slots is the check of those that are left.
use Rattle.mem.proofs.Prelude.{◌∙◌, ◌≡◌, sym, ◌&&◌, ◌+◌, ℕ, ◌<◌, ◌*◌, ◌-◌, ◌/◌, ◌^◌, arith}
use Rattle.mem.proofs.Prelude.{drop, get_or}
use Rattle.classes.specs.Classes.{slot_bytes}
use Rattle.slot_walks.specs.Slots.{slots_exactly}
use Rattle.slot_walks.proofs.Records.{exact_walk_turn, exact_walk_end}
use Rattle.slot_walks.proofs.slots_sound.Goals as goal
use Rattle.slot_walks.proofs.slots_sound.Goals.{After-slot_sound}

-- one turn
turn : (e : After-slot_sound) → (let g = e.args.g in
    let k = e.args.b.class in
    let i = e.loop-i.i in
    let s = e.args.s.now in
    slots_exactly k g.begin g.n g.masks.ready g.masks.waiting (drop g.at s)
    ≡ (e.slot_sound.result && slots_exactly k (g.begin + (i + 1) * slot_bytes k) (g.n - (i + 1)) (g.masks.ready / 2 ^ (i + 1))
    (g.masks.waiting / 2 ^ (i + 1)) (drop (g.at + 8 * (i + 1)) s)))
turn e =
    let g = e.args.g in
    let b = e.args.b in
    let s = e.args.s.now in
    let r = e.record_at.ensures in
    let B : (j : ℕ) → get_or s j 0 < 256 = λ j. omega (arith, e.type_inv.s j) in
    let m : slot_bytes b.class - 4 ≡ b.most = omega (arith, b.of_class.1) in
    let w : slot_bytes b.class ≡ b.most + 4 = omega (arith, b.of_class.1) in
    e.loop-i.invariant
    ∙ exact_walk_turn s B b.class g.begin g.at g.n e.loop-i.i g.masks.ready g.masks.waiting b.of_class.0 (omega arith) (omega arith)
    ∙ rw (m, w, ← b.of_class.2, ← r.lo, ← r.hi, ← e.ready.ensures, ← e.waiting.ensures, ← e.slot_sound.ensures)

pub returns-then-not-slot_sound : goal.returns-then-not-slot_sound
returns-then-not-slot_sound c = sym (turn (goal.at.returns-then-not-slot_sound c).After-slot_sound ∙ rw c.if-not-slot_sound.true)

pub loop-i-preserved : goal.loop-i-preserved
loop-i-preserved c = turn (goal.at.loop-i-preserved c).After-slot_sound ∙ rw c.if-not-slot_sound.false

pub returns : goal.returns
returns c =
    let l = c.loop-i in
    let g = c.args.g in
    let k = c.args.b.class in
    sym (l.invariant
    ∙ exact_walk_end k (g.begin + l.i * slot_bytes k) g.n l.i g.masks.ready g.masks.waiting (drop (g.at + 8 * l.i) c.args.s.now) (omega arith)
    ∙ sym c.none_past.ensures)
