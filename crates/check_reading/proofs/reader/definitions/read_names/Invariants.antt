use Rattle.check_terms.specs.Table.{Grows}
use Rattle.tree_nodes.specs.View.{token_of}
use Rattle.check_reading.proofs.OfReader.Defining.{AreNamed}
use Rattle.check_reading.proofs.reader.definitions.read_names.Given as goal

-- these are the names of the parameters so far
abbrev pub invariant-loop-parameter : goal.invariant-loop-parameter
invariant-loop-parameter l = record {
  grows : Grows l.fn.terms l.terms;
  are : AreNamed (token_of l.tree) l.parameters l.terms l.names.items l.parameter-items l.parameter-index;
}
