-- `live_sound` meets its contract: each return is the definition under the tests so far.
use Rattle.mem.proofs.Prelude.{◌∙◌, sym, and-false, ◌+◌, ◌*◌, ◌-◌, ◌<◌, arith, leb-true, leb-false}
use Rattle.mem.proofs.Prelude.{le-leb, lt-leb, le-ltb, lt-ltb}
use Rattle.classes.specs.Classes.{slot_bytes, size_limit}
use Rattle.classes.specs.Alignments.{enlarged}
use Rattle.classes.proofs.Alignments.{enlarged_least}
use Rattle.model.specs.State.{slot_sound}
use Rattle.plain_rules.proofs.live_sound.Goals as goal
use Rattle.plain_rules.proofs.live_sound.Goals.{Else-too_large}

pub returns-then-units-a : goal.returns-then-units-a
unfolding slot_sound slot_bytes
returns-then-units-a c =
    let u = c.units in
    let a = c.args.a in
    rw (← u.ensures.value, lt-leb (16 * a.disp + a.size) (16 * u.result - 4) c.if-units-a.true) (sym (simp and-false))

pub returns-then-a-lt-ORDINARY : goal.returns-then-a-lt-ORDINARY
unfolding slot_sound
returns-then-a-lt-ORDINARY c =
    let a = c.args.a in
    rw (lt-leb 1 a.align c.if-a-lt-ORDINARY.true) (sym (simp and-false))

pub returns-then-a-gt9 : goal.returns-then-a-gt9
unfolding slot_sound
returns-then-a-gt9 c =
    let a = c.args.a in
    rw (lt-leb a.align 9 c.if-a-gt9.true) (sym (simp and-false))

pub returns-then-too_large : goal.returns-then-too_large
unfolding slot_sound
returns-then-too_large c =
    let t = c.too_large in
    let a = c.args.a in
    let e = enlarged a.align a.size in
    rw (le-ltb e size_limit (leb-true size_limit e (sym t.ensures ∙ c.if-too_large.true))) (sym (simp and-false))

-- the enlarged size can be asked for
small : (e : Else-too_large) → (let a = e.args.a in
    enlarged a.align a.size < size_limit)
small e =
    let a = e.args.a in
    leb-false size_limit (enlarged a.align a.size) (sym e.too_large.ensures ∙ e.if-too_large.false)

pub enlarged-requires : goal.enlarged-requires
enlarged-requires c =
    let a = c.args.a in
    (omega arith, omega (arith, small c, enlarged_least a.align a.size))

pub own_class-requires : goal.own_class-requires
own_class-requires c = rw c.enlarged.ensures.value (small (goal.at.own_class-requires c).Else-too_large)

pub returns-then-not-own_class : goal.returns-then-not-own_class
unfolding slot_sound
returns-then-not-own_class c =
    let o = c.own_class in
    let n = c.enlarged in
    rw (← n.ensures.value, ← o.ensures, c.if-not-own_class.true) (sym (simp and-false))

pub returns : goal.returns
unfolding slot_sound slot_bytes
returns c =
    let o = c.own_class in
    let n = c.enlarged in
    let u = c.units in
    let a = c.args.a in
    rw (
      ← u.ensures.value,
      lt-ltb a.count 256 (omega arith),
      le-leb (16 * a.disp + a.size) (16 * u.result - 4) c.if-units-a.false,
      le-leb 1 a.align (omega arith),
      le-leb a.align 9 (omega arith),
      lt-ltb (enlarged a.align a.size) size_limit (small (goal.at.returns c).Else-too_large),
      ← n.ensures.value,
      ← o.ensures,
      c.if-not-own_class.false,
      ← c.align_of.ensures.value,
    )
