-- `slots_aligned` meets its contract. The invariant: where no fault was found, the check of all slots is the check of those that are left.
use Rattle.mem.proofs.Prelude.{◌∙◌, ◌≡◌, sym, true, ◌&&◌, ◌+◌, ℕ, ◌<◌, ◌≤◌, ◌*◌, ◌-◌, ◌/◌, ◌^◌, ◌%◌, arith, T}
use Rattle.mem.proofs.Prelude.{eqb, drop, get_or}
use native.Mathlib.Nat.{one-mul, add-mul, mul-le-mul_right}
use Rattle.mem.specs.Bytes.{number, part}
use Rattle.mem.proofs.Tests.{and_left, and_right, T_true, true-T}
use Rattle.classes.specs.Classes.{slot_bytes, below2}
use Rattle.slot_rules.specs.Rules.{exact_checked}
use Rattle.slot_walks.specs.Slots.{slots_exactly}
use Rattle.slot_walks.proofs.Records.{exact_walk_turn, exact_walk_end}
use Rattle.slot_rules.proofs.Alike.{alike_exact}
use Rattle.slot_walks.proofs.slots_aligned.Goals as goal
use Rattle.slot_walks.proofs.slots_aligned.Goals.{After-record_alike-sound}

-- the bytes of the slots before one
passed : (i b : ℕ) → i ≤ 31 → b < 131072 → i * b < 4194304
passed i b h l = omega (arith, mul-le-mul_right {m = i} {n = 31} b h)

pub record_alike-sound-requires : goal.record_alike-sound-requires
record_alike-sound-requires c =
    omega (arith, c.loop-i.invariant.0, passed c.loop-i.i (slot_bytes c.args.b.class) (omega arith) (omega (arith, c.args.b.of_class.1)))

pub overflow_add-place : goal.overflow_add-place
overflow_add-place c =
    omega (arith, c.loop-i.invariant.0, passed c.loop-i.i (slot_bytes c.args.b.class) (omega arith) (omega (arith, c.args.b.of_class.1)))

-- a slot without fault is passed by
turn : (e : After-record_alike-sound) → (let g = e.args.g in
    let k = e.args.b.class in
    let s = e.args.s.now in
    let i = e.loop-i.i in
    e.record_alike-sound.result ≡ true
    → slots_exactly k (g.begin + i * slot_bytes k) (g.n - i) (g.masks.ready / 2 ^ i) (g.masks.waiting / 2 ^ i) (drop (g.at + 8 * i) s)
    ≡ slots_exactly k (g.begin + (i + 1) * slot_bytes k) (g.n - (i + 1)) (g.masks.ready / 2 ^ (i + 1)) (g.masks.waiting / 2 ^ (i + 1))
    (drop (g.at + 8 * (i + 1)) s))
turn e f =
    let g = e.args.g in
    let b = e.args.b in
    let s = e.args.s.now in
    let i = e.loop-i.i in
    let d = e.args.align in
    let p = g.at + 8 * i in
    let v = e.record_at.result in
    let r = e.record_at.ensures in
    let B : (j : ℕ) → get_or s j 0 < 256 = λ j. omega (arith, e.type_inv.s j) in
    let m : slot_bytes b.class - 4 ≡ b.most = omega (arith, b.of_class.1) in
    let x : exact_checked (slot_bytes b.class - 4) (below2 b.class) (g.begin + i * slot_bytes b.class) (eqb (g.masks.ready / 2 ^ i % 2) 1)
    (eqb (g.masks.waiting / 2 ^ i % 2) 1) (number (part p 4 s)) (number (part (p + 4) 4 s)) ≡ true =
    rw (← e.loop-i.invariant.0, m, ← b.of_class.2, ← r.lo, ← r.hi, ← e.ready.ensures, ← e.waiting.ensures)
    (T_true _ (alike_exact b.most b.least e.loop-i.place d.code e.ready.result e.waiting.result v.lo v.hi d.lawful.0 d.lawful.1
    (true-T _ (sym e.record_alike-sound.ensures ∙ f)))) in
    exact_walk_turn s B b.class g.begin g.at g.n i g.masks.ready g.masks.waiting b.of_class.0 e.loop-i-test.true e.requires
    ∙ rw x

pub loop-i-preserved : goal.loop-i-preserved
loop-i-preserved c =
    let l = c.loop-i in
    let w = slot_bytes c.args.b.class in (
      omega (arith, l.invariant.0, c.args.b.of_class.1, add-mul l.i 1 w, one-mul w),
      λ e.
          let t : T (l.sound && c.record_alike-sound.result) = true-T _ e in
          l.invariant.1 (T_true l.sound (and_left l.sound c.record_alike-sound.result t))
          ∙ turn c (T_true c.record_alike-sound.result (and_right l.sound c.record_alike-sound.result t)),
    )

pub returns : goal.returns
returns c e =
    let l = c.loop-i in
    let g = c.args.g in
    let k = c.args.b.class in
    let past = c.none_past in
    let t : T (l.sound && past.result) = true-T _ e in
    l.invariant.1 (T_true l.sound (and_left l.sound past.result t))
    ∙ exact_walk_end k (g.begin + l.i * slot_bytes k) g.n l.i g.masks.ready g.masks.waiting (drop (g.at + 8 * l.i) c.args.s.now) (omega arith)
    ∙ sym past.ensures
    ∙ T_true past.result (and_right l.sound past.result t)
