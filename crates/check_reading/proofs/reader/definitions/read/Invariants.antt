use Rattle.check_terms.specs.Table.{Grows}
use Rattle.check_reading.proofs.OfReader.Defining.{AreSoFar}
use Rattle.check_reading.proofs.reader.definitions.read.Given as goal

-- these are the definitions of the rules so far
abbrev pub invariant-loop-rule : goal.invariant-loop-rule
invariant-loop-rule l = record {
  grows : Grows l.fn.terms l.terms;
  are : AreSoFar l.tree l.terms l.definitions.items l.rule-items l.rule-index;
}
