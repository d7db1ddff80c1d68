-- `clear_group` meets its contract.
use Rattle.mem.proofs.Prelude.{◌∙◌, ◌≡◌, ap, ◌+◌, ◌*◌, ◌-◌, ◌≤◌, mul-add, arith, length}
use Rattle.mem.specs.Bytes.{zeros, put}
use Rattle.classes.specs.Classes.{rows_of}
use Rattle.classes.proofs.Laws.{few_bytes}
use Rattle.frames.proofs.clear_group.Goals as goal
use Rattle.frames.proofs.clear_group.Goals.{After-rows}

pub overflow_mul-at : goal.overflow_mul-at
overflow_mul-at c =
    record { fits = omega (arith, few_bytes c.args.row.bytes c.args.b.first (omega arith) (omega (arith, c.requires.standing.few))) }

-- the group's rows lie in the arena
ends : (c : After-rows) → (let a = c.args in a.row.bytes * a.b.first + a.row.bytes * c.rows.result ≤ length a.arena.now)
ends c =
    let a = c.args in
    omega (arith, c.requires.standing.group, mul-add a.row.bytes a.b.first (rows_of a.row.bytes a.b.class), ap (λ k. a.row.bytes * k) c.rows.ensures.value)

pub returns : goal.returns
returns c =
    let a = c.args in
    let e : (a.row.bytes * a.b.first + a.row.bytes * c.rows.result) - a.row.bytes * a.b.first ≡ a.row.bytes * rows_of a.row.bytes a.b.class =
    omega (arith, ap (λ k. a.row.bytes * k) c.rows.ensures.value) in
    c.clear.ensures ∙ ap (λ k. put (a.row.bytes * a.b.first) (zeros k) a.arena.now) e

pub rows-requires : goal.rows-requires
rows-requires c = record { c_bound = c.requires.standing.class }

pub overflow_mul-row : goal.overflow_mul-row
overflow_mul-row c = record { fits = omega (arith, ends (goal.at.overflow_mul-row c).After-rows) }

pub overflow_add-at : goal.overflow_add-at
overflow_add-at c = record { fits = omega (arith, ends (goal.at.overflow_add-at c).After-rows) }

pub clear-requires : goal.clear-requires
clear-requires c = (omega arith, omega (arith, ends (goal.at.clear-requires c).After-rows))
