-- `serve_all` meets its contract. The invariant: the sizes that are left fit exactly if all fit in the pool told of at first.
use Rattle.mem.proofs.Prelude.{◌∙◌, ◌≡◌, ap}
use Rattle.classes.specs.Classes.{class_of}
use Rattle.serving.proofs.Sizes.{all_to_go, none_to_go, one_refused, one_served}
use Rattle.mem.proofs.Prelude.{not, get_or}
use Rattle.serving.proofs.serve_all.Goals as goal
use Rattle.serving.proofs.serve_all.Goals.{After-with_class-s}

-- the class that is served
class : (c : After-with_class-s) → c.with_class-s.result.class ≡ class_of (get_or c.args.sizes.now c.loop-size.size-index 0)
class c = c.with_class-s.result.class_is ∙ ap class_of c.with_class-s.ensures

pub loop-size-init : goal.loop-size-init
loop-size-init c P t = all_to_go c.args.sizes.now t

pub returns-then-not-serve : goal.returns-then-not-serve
returns-then-not-serve c P t =
    one_refused (c.loop-size.invariant P t) c.loop-size-test.true c.requires.small_sizes (class (goal.at.returns-then-not-serve c).After-with_class-s) c.serve.ensures
    (ap not c.if-not-serve.true)

pub loop-size-preserved : goal.loop-size-preserved
loop-size-preserved c P t =
    one_served (c.loop-size.invariant P t) c.loop-size-test.true c.requires.small_sizes (class (goal.at.loop-size-preserved c).After-with_class-s) c.serve.ensures
    (ap not c.if-not-serve.false)

pub returns : goal.returns
returns c P t = none_to_go (c.loop-size.invariant P t) c.loop-size-test.false
