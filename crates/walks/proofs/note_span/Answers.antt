-- `note_span` meets its contract.
use Rattle.mem.proofs.Prelude.{◌≤◌, arith}
use Rattle.serving.proofs.Notes.{Countable, span_inside, span_place, free-next, countable, idle_slots, group-next, the_group}
use Rattle.walks.proofs.Spans.{kept}
use Rattle.walks.proofs.note_span.Given.{Over}
use Rattle.walks.proofs.note_span.Goals as goal
use Rattle.walks.proofs.note_span.Goals.{After-idle_in, After-wide-c}

pub holder_at-h-requires : goal.holder_at-h-requires
holder_at-h-requires g c = span_inside c.requires.next_span.4

pub bounds-gaps-i : goal.bounds-gaps-i
bounds-gaps-i g c = let p = c.requires.next_span in omega (arith, span_place p.4 p.5)

pub returns-in_default : goal.returns-in_default
returns-in_default g c = let h = c.holder_at-h in λ len X s Y x n. free-next x h.result h.ensures n c.in_default.not-First

-- what is known of the group
known : (g : Over) (c : After-wide-c g) → Countable c.wide-c.result c.args.spare.now
known g c =
    let p = c.requires.next_span in
    rw c.wide-c.ensures.0 (countable p.4 c.holder_at-h.result c.holder_at-h.ensures p.5 c.in-First.k c.in-First.is)

pub idle_in-requires : goal.idle_in-requires
idle_in-requires g c = record { i_lt_most_rows = span_inside c.requires.next_span.4; c_bound = (known g c).class }

few : (g : Over) (c : After-idle_in g) → c.idle_in.result ≤ 31
few g c =
    let x = c.requires.next_span.4 in
    let h = c.holder_at-h in
    let k = c.in-First.k in
    let is = c.in-First.is in
    omega (arith, c.idle_in.ensures (the_group x h.result h.ensures k is).0 (rw c.wide-c.ensures.0 (kept x h.result h.ensures k is)), idle_slots x h.result h.ensures k is)

pub bounds-spare-c : goal.bounds-spare-c
bounds-spare-c g c = omega (arith, (known g (goal.at.bounds-spare-c g c).After-wide-c).index)

pub overflow_add-spare : goal.overflow_add-spare
overflow_add-spare g c = omega (arith, few g (goal.at.overflow_add-spare g c).After-idle_in, (known g (goal.at.overflow_add-spare g c).After-wide-c).count)

pub bounds-spare-c-2 : goal.bounds-spare-c-2
bounds-spare-c-2 g c = omega (arith, (known g (goal.at.bounds-spare-c-2 g c).After-wide-c).index)

pub rows-requires : goal.rows-requires
rows-requires g c = record { c_bound = (known g (goal.at.rows-requires g c).After-wide-c).class }

pub returns : goal.returns
returns g c =
    let h = c.holder_at-h in
    let k = c.in-First.k in
    let is = c.in-First.is in
    λ len X s Y x n. rw (c.rows.ensures.value, c.wide-c.ensures.0) (group-next x h.result h.ensures n k is _
    (c.idle_in.ensures (the_group x h.result h.ensures k is).0 (rw c.wide-c.ensures.0 (kept x h.result h.ensures k is))))
