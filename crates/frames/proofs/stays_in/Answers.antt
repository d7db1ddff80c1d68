-- Each comparison is one of the tests.
use Rattle.mem.proofs.Prelude.{◌∙◌, ◌≡◌, sym, ap, Bool, ◌&&◌, ◌||◌, ◌*◌, ◌-◌, suc, add-one, arith, le-leb, lt-leb}
use Rattle.mem.proofs.Prelude.{eqb, eq-eqb, ne_eqb}
use Rattle.classes.specs.Classes.{slot_bytes, class_of, own_class}
use Rattle.classes.specs.Alignments.{enlarged}
use Rattle.classes.proofs.Alignments.{enlarged_least}
use Rattle.frames.specs.Blocks.{stays_in}
use Rattle.frames.proofs.stays_in.Goals as goal
use Rattle.frames.proofs.stays_in.Goals.{Else-units-b}

pub overflow_mul-b : goal.overflow_mul-b
unfolding slot_bytes
overflow_mul-b c = record { fits = omega (arith, c.requires.class_bound.1, c.units.ensures.value) }

pub overflow_sub-units-2 : goal.overflow_sub-units-2
unfolding slot_bytes
overflow_sub-units-2 c = omega (arith, c.requires.class_bound.1, c.units.ensures.value)

pub returns-then-units-b : goal.returns-then-units-b
unfolding slot_bytes
returns-then-units-b c =
    let a = c.args in
    sym (ap (λ (v : Bool). v && own_class a.b.class (enlarged a.b.alloc.align a.n))
    (lt-leb a.n (slot_bytes a.b.class - 4 - 16 * a.b.alloc.disp) (omega (arith, c.if-units-b.true, c.units.ensures.value))))

pub enlarged-requires : goal.enlarged-requires
enlarged-requires c =
    let h = c.requires.askable in
    (h.last_code, omega (arith, h.small, enlarged_least c.args.b.alloc.align c.args.n))

pub class_of-c-requires : goal.class_of-c-requires
class_of-c-requires c = omega (arith, c.requires.askable.small, c.enlarged.ensures.value)

-- where the size fits, the test of the class is left
fitting : (c : Else-units-b) → (let a = c.args in
    stays_in a.b a.n ≡ own_class a.b.class (enlarged a.b.alloc.align a.n))
unfolding slot_bytes
fitting c =
    let a = c.args in
    ap (λ (v : Bool). v && own_class a.b.class (enlarged a.b.alloc.align a.n))
    (le-leb a.n (slot_bytes a.b.class - 4 - 16 * a.b.alloc.disp) (omega (arith, c.if-units-b.false, c.units.ensures.value)))

pub returns-then-b-c : goal.returns-then-b-c
returns-then-b-c c =
    let a = c.args in
    let e = enlarged a.b.alloc.align a.n in
    sym (fitting (goal.at.returns-then-b-c c).Else-units-b ∙ ap (λ (v : Bool). v || eqb a.b.class (suc (class_of e)))
    (eq-eqb a.b.class (class_of e) (c.if-b-c.true ∙ c.class_of-c.ensures.value ∙ ap class_of c.enlarged.ensures.value)))

pub returns : goal.returns
returns c =
    let a = c.args in
    let e = enlarged a.b.alloc.align a.n in
    let f = c.class_of-c.ensures.value ∙ ap class_of c.enlarged.ensures.value in
    ap (eqb a.b.class) (add-one c.class_of-c.result ∙ ap suc f)
    ∙ sym (fitting (goal.at.returns c).Else-units-b ∙ ap (λ (v : Bool). v || eqb a.b.class (suc (class_of e))) (ne_eqb a.b.class (class_of e) (λ z. c.if-b-c.false (z ∙ sym f))))
