-- `rows_under` meets its contract: its tests are those of the head.
use Rattle.mem.proofs.Prelude.{◌∙◌, ◌≡◌, sym, ap, refl, ◌<◌, rules, eq-eqb, ne_eqb, length}
use Rattle.mem.specs.Lists.{choose, nonzero}
use Rattle.mem.proofs.Tests.{nonzero_some, nonzero_none, nonzero_of, choose_case}
use Rattle.model.specs.Tables.{row_at}
use Rattle.rows.specs.Rows.{arena_rows}
use Rattle.rows.specs.Checks.{room_rows}
use Rattle.rows.proofs.rows_under.Goals as goal
use Rattle.rows.proofs.rows_under.Goals.{In_ok-n}

pub returns-in_err-n : goal.returns-in_err-n
unfolding room_rows
returns-in_err-n c =
    let a = c.args in
    let k = nonzero_none (arena_rows a.row.bytes a.len) (sym c.rows_in.ensures.value ∙ c.in_err-n.was) in
    let e : 0 ≡ room_rows a.row.bytes a.len a.room.now = choose_case (λ n. 0 ≡ n) _ _ 0 (λ _. sym k) (λ _. refl) in
    record { value = c.from_residual.ensures ∙ ap nonzero e; small = rw c.from_residual.ensures tt }

-- the rows of the arena
arena : (c : In_ok-n) → (arena_rows c.args.row.bytes c.args.len ≡ c.in_ok-n.n) × (0 < c.in_ok-n.n)
arena c = nonzero_some (arena_rows c.args.row.bytes c.args.len) c.in_ok-n.n (sym c.rows_in.ensures.value ∙ c.in_ok-n.was)

pub returns-then-room-row_at : goal.returns-then-room-row_at
unfolding room_rows choose
returns-then-room-row_at c =
    let a = c.args in
    let k = (arena (goal.at.returns-then-room-row_at c).In_ok-n).0 in
    let e : 0 ≡ room_rows a.row.bytes a.len a.room.now = sym (rw (
      k,
      ne_eqb (length a.room.now) (row_at c.in_ok-n.n) (λ e. c.if-room-row_at.true (e ∙ sym c.row_at.ensures)),
    )) in
    record { value = ap nonzero e; small = search rules }

pub returns-then-quad-len : goal.returns-then-quad-len
unfolding room_rows choose
returns-then-quad-len c =
    let q = c.quad in
    let a = c.args in
    let k = (arena (goal.at.returns-then-quad-len c).In_ok-n).0 in
    let e : 0 ≡ room_rows a.row.bytes a.len a.room.now = sym (rw (
      k,
      eq-eqb (length a.room.now) (row_at c.in_ok-n.n) (c.if-room-row_at.false ∙ c.row_at.ensures),
      ← q.ensures,
      ne_eqb q.result a.len c.if-quad-len.true,
    )) in
    record { value = ap nonzero e; small = search rules }

pub returns-then-not-zeros_at : goal.returns-then-not-zeros_at
unfolding room_rows choose
returns-then-not-zeros_at c =
    let z = c.zeros_at in
    let q = c.quad in
    let a = c.args in
    let k = (arena (goal.at.returns-then-not-zeros_at c).In_ok-n).0 in
    let e : 0 ≡ room_rows a.row.bytes a.len a.room.now = sym (rw (
      k,
      eq-eqb (length a.room.now) (row_at c.in_ok-n.n) (c.if-room-row_at.false ∙ c.row_at.ensures),
      ← q.ensures,
      eq-eqb q.result a.len c.if-quad-len.false,
      ← z.ensures,
      c.if-not-zeros_at.true,
    )) in
    record { value = ap nonzero e; small = search rules }

pub returns : goal.returns
unfolding room_rows choose
returns c =
    let z = c.zeros_at in
    let q = c.quad in
    let a = c.args in
    let n = c.in_ok-n.n in
    let (k, s) = arena (goal.at.returns c).In_ok-n in
    let e : n ≡ room_rows a.row.bytes a.len a.room.now = sym (rw (
      k,
      eq-eqb (length a.room.now) (row_at n) (c.if-room-row_at.false ∙ c.row_at.ensures),
      ← q.ensures,
      eq-eqb q.result a.len c.if-quad-len.false,
      ← z.ensures,
      c.if-not-zeros_at.false,
    )) in
    record { value = nonzero_of (room_rows a.row.bytes a.len a.room.now) n s e; small = c.in_ok-n.ensures.small }
