-- `store` meets its contract: the test is made without the sum.
use Rattle.mem.proofs.Prelude.{sym, refl, ◌+◌, arith, le-leb, lt-leb, length}
use Rattle.mem.specs.Lists.{choose}
use Rattle.player.proofs.store.Goals as goal

pub returns-then-len-n : goal.returns-then-len-n
unfolding choose
returns-then-len-n c =
    let a = c.args in
    record { value = sym (lt-leb (a.offset + length a.bytes.now) (length a.arena.now) (omega arith)); arena_after = refl }

pub returns-then-len-n-2 : goal.returns-then-len-n-2
unfolding choose
returns-then-len-n-2 c =
    let a = c.args in
    record { value = sym (lt-leb (a.offset + length a.bytes.now) (length a.arena.now) (omega arith)); arena_after = refl }

pub returns : goal.returns
unfolding choose
returns c =
    let a = c.args in
    record { value = sym (le-leb (a.offset + length a.bytes.now) (length a.arena.now) (omega arith)); arena_after = c.copy_in.ensures }
