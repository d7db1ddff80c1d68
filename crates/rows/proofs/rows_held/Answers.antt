-- `rows_held` meets its contract.
use Rattle.mem.proofs.Prelude.{◌∙◌, ap, rules}
use Rattle.classes.specs.Classes.{rows_of}
use Rattle.rows.proofs.rows_held.Goals as goal

pub rows-requires : goal.rows-requires
rows-requires c = record { c_bound = rw c.wide.ensures.0 (rw c.in-First.is at c.requires.h_bound) }

pub returns-in-First : goal.returns-in-First
returns-in-First c = record {
  value = rw c.in-First.is (c.rows.ensures.value
      ∙ ap (rows_of c.args.row.bytes) c.wide.ensures.0);
  small = search rules;
}
