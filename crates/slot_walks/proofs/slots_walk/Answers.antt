-- `slots_walk` meets its contract. The invariant: the check of all slots is that those passed are sound and the check of those
-- that are left; the sizes are those summed and those that are left.
use Rattle.mem.proofs.Prelude.{◌∙◌, ◌≡◌, sym, ap, Bool, ◌&&◌, and_assoc, ◌+◌, ℕ, ◌<◌, ◌*◌, ◌-◌, ◌/◌, ◌^◌, arith}
use Rattle.mem.proofs.Prelude.{rules, drop, get_or}
use Rattle.slot_walks.specs.Slots.{slots_checked}
use Rattle.slot_walks.proofs.Records.{walk_turn, walk_end, sizes_turn, sizes-end}
use Rattle.slot_walks.proofs.slots_walk.Goals as goal

pub loop-i-preserved : goal.loop-i-preserved
loop-i-preserved c =
    let g = c.args.g in
    let b = c.args.b in
    let m = g.masks in
    let l = c.loop-i in
    let s = c.args.s.now in
    let r = c.record_at-r.ensures in
    let ok = c.record_sound-sound in
    let B : (j : ℕ) → get_or s j 0 < 256 = λ j. omega (arith, c.type_inv.s j) in
    let rest = slots_checked b.most b.least (g.n - (l.i + 1)) (m.ready / 2 ^ (l.i + 1)) (m.waiting / 2 ^ (l.i + 1)) (drop (g.at + 8 * (l.i + 1)) s) in (
      search rules,
      l.invariant.1
          ∙ ap (λ (z : Bool). l.sound && z) (walk_turn s B b.most b.least g.at g.n l.i m.ready m.waiting (omega arith) (omega arith)
          ∙ rw (← r.lo, ← r.hi, ← c.ready.ensures, ← c.waiting.ensures, ← ok.ensures))
          ∙ sym (and_assoc l.sound ok.result rest),
      l.invariant.2 ∙ rw r.hi (sizes_turn s B b.most b.least g.at g.n l.i m.ready m.waiting (omega arith) (omega arith) l.bytes),
    )

pub returns : goal.returns
returns c =
    let g = c.args.g in
    let l = c.loop-i in
    let t = drop (g.at + 8 * l.i) c.args.s.now in
    let e : l.i ≡ g.n = omega arith in record {
      sound_value = sym (l.invariant.1
          ∙ ap (λ (z : Bool). l.sound && z) (walk_end c.args.b.most c.args.b.least g.n l.i g.masks.ready g.masks.waiting t e ∙ sym c.none_past.ensures));
      bytes_value = omega (arith, l.invariant.2, sizes-end (g.n - l.i) t (omega arith));
      small = rw (← e) l.invariant.0;
    }
