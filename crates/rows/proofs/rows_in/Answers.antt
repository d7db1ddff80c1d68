-- `rows_in` meets its contract: its tests are those of the rule.
use Rattle.mem.proofs.Prelude.{◌≡◌, sym, ap, ◌*◌, ◌/◌, ◌%◌, ◌≤◌, mul_comm, le-div_iff_mul-le, arith, rules, eq-eqb, ne_eqb, le-leb, lt-leb}
use native.Mathlib.Nat.{div-le_of_le-mul}
use Rattle.mem.specs.Lists.{choose, nonzero}
use Rattle.mem.proofs.Tests.{nonzero_of}
use Rattle.model.specs.Tables.{arena_right}
use Rattle.rows.specs.Rows.{arena_rows}
use Rattle.rows.proofs.rows_in.Goals as goal

pub returns-then-len-row : goal.returns-then-len-row
unfolding arena_rows arena_right choose
returns-then-len-row c =
    let a = c.args in
    let e : 0 ≡ arena_rows a.row.bytes a.len = sym (simp (eq-eqb (a.row.bytes % 16) 0 a.row.lawful.2, lt-leb a.row.bytes a.len c.if-len-row.true)) in
    record { value = ap nonzero e; small = search rules }

pub returns-then-row-len : goal.returns-then-row-len
unfolding arena_rows arena_right choose
returns-then-row-len c =
    let a = c.args in
    let e : 0 ≡ arena_rows a.row.bytes a.len = sym (simp (
      eq-eqb (a.row.bytes % 16) 0 a.row.lawful.2,
      le-leb a.row.bytes a.len c.if-len-row.false,
      lt-leb a.len (512 * a.row.bytes) c.if-row-len.true,
    )) in
    record { value = ap nonzero e; small = search rules }

pub returns-then-len-row-ne0 : goal.returns-then-len-row-ne0
unfolding arena_rows arena_right choose
returns-then-len-row-ne0 c =
    let a = c.args in
    let e : 0 ≡ arena_rows a.row.bytes a.len = sym (simp (
      eq-eqb (a.row.bytes % 16) 0 a.row.lawful.2,
      le-leb a.row.bytes a.len c.if-len-row.false,
      le-leb a.len (512 * a.row.bytes) c.if-row-len.false,
      ne_eqb (a.len % a.row.bytes) 0 c.if-len-row-ne0.true,
    )) in
    record { value = ap nonzero e; small = search rules }

pub returns : goal.returns
unfolding arena_rows arena_right choose
returns c =
    let a = c.args in
    let e : a.len / a.row.bytes ≡ arena_rows a.row.bytes a.len = sym (simp (
      eq-eqb (a.row.bytes % 16) 0 a.row.lawful.2,
      le-leb a.row.bytes a.len c.if-len-row.false,
      le-leb a.len (512 * a.row.bytes) c.if-row-len.false,
      eq-eqb (a.len % a.row.bytes) 0 c.if-len-row-ne0.false,
    )) in
    let s : 1 ≤ a.len / a.row.bytes = (le-div_iff_mul-le {k = a.row.bytes} (omega arith)).1 (omega arith) in
    record {
      value = nonzero_of (arena_rows a.row.bytes a.len) (a.len / a.row.bytes) s e;
      small = (s, div-le_of_le-mul a.row.bytes (omega (arith, mul_comm 512 a.row.bytes)));
    }
