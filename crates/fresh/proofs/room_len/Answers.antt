-- The rows that the rule allows, or none.
use Rattle.mem.proofs.Prelude.{◌∙◌, ◌≡◌, sym, ap, subst, refl, lit≤, ℕ, zero, suc, arith}
use Rattle.std.specs.Prelude.{MatchOption}
use Rattle.mem.specs.Lists.{nonzero}
use Rattle.mem.proofs.Tests.{choose-true, choose-false, T_true}
use Rattle.classes.specs.Classes.{row_bytes}
use Rattle.model.specs.Tables.{row_at, room_bytes, room_for, arena_right}
use Rattle.rows.specs.Rows.{arena_rows}
use Rattle.rows.proofs.Checks.{no_rows, some-rows_in}
use Rattle.fresh.proofs.room_len.Goals as goal

by_rows : (n r k : ℕ) → arena_rows 512 n ≡ k → MatchOption (nonzero k) (r ≡ 0) (λ j. r ≡ row_at j) → r ≡ room_for row_bytes n
unfolding row_bytes room_for room_bytes
by_rows n r zero e m = m ∙ sym (choose-false (arena_right 512 n) _ _ (no_rows 512 n (lit≤ tt) e))
by_rows n r (suc k) e m =
    let f = some-rows_in 512 n (λ z. omega (arith, e, z)) in
    m ∙ ap row_at (sym e ∙ sym f.1) ∙ sym (choose-true (arena_right 512 n) _ _ (T_true (arena_right 512 n) f.0))

pub returns : goal.returns
returns c =
    let n = c.args.arena_len in
    let r = c.map_or.result in
    by_rows n r (arena_rows 512 n) refl (subst (λ o. MatchOption o (r ≡ 0) (λ j. r ≡ row_at j)) c.rows_in.ensures.value c.map_or.ensures)
