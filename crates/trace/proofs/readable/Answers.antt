-- `readable` meets its contract, test by test.
use Rattle.mem.proofs.Prelude.{sym, arith, le-leb, lt-leb, length}
use Rattle.trace.specs.Trace.{trace_right}
use Rattle.trace.proofs.readable.Goals as goal

pub returns-then-len-eq0 : goal.returns-then-len-eq0
unfolding trace_right
returns-then-len-eq0 c = let s = c.args.trace.now in sym (rw (lt-leb 1 (length s) (omega arith)))

pub returns-then-len-gt-MOST : goal.returns-then-len-gt-MOST
unfolding trace_right
returns-then-len-gt-MOST c = let s = c.args.trace.now in sym (rw (le-leb 1 (length s) (omega arith), lt-leb (length s) 65535 (omega arith)))

pub returns : goal.returns
unfolding trace_right
returns c =
    let s = c.args.trace.now in
    sym (rw (le-leb 1 (length s) (omega arith), le-leb (length s) 65535 (omega arith)))
