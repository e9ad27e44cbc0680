use Rattle.std.proofs.Common.{◌≡◌, List, drop}
use Rattle.cddl_language.specs.Terms as L
use Rattle.check_terms.specs.Definitions.{AreDefinitions}
use Rattle.check_terms.specs.Table.{Grows}
use Rattle.check_instances.proofs.OfOutlines.Making.{AreOutlined}
use Rattle.check_instances.proofs.outlines.outlines.Given as goal

abbrev pub invariant-loop-definition : goal.invariant-loop-definition
invariant-loop-definition l = record {
  grown : Grows l.fn.terms l.terms;
  texts : l.terms.texts ≡ l.fn.terms.texts;
  outlined : (xs : List L.Definition) → AreDefinitions l.fn.terms l.definitions xs → AreOutlined l.fn.terms l.terms xs (drop l.definition-index l.definitions) l.outlines.items;
}
