use Rattle.std.proofs.Common.{List, drop}
use Rattle.cddl_language.specs.Terms as L
use Rattle.check_terms.specs.Definitions.{AreDefinitions}
use Rattle.check_instances.proofs.Meaning.{AreMade}
use Rattle.check_instances.proofs.patterns.patterns.Given as goal

abbrev pub invariant-loop-definition : goal.invariant-loop-definition
invariant-loop-definition l = (xs : List L.Definition) → AreDefinitions l.terms l.definitions xs → AreMade l.terms xs (drop l.definition-index l.definitions) l.patterns.items
