use Rattle.std.proofs.Common.{◌≡◌, List, drop}
use Rattle.cddl_language.specs.Terms as L
use Rattle.cddl_language.specs.Terms.{Term}
use Rattle.check_terms.specs.Filled.{term_trees}
use Rattle.check_terms.specs.Table.{Grows}
use Rattle.check_names.specs.Environment.Environment.{AreAt}
use Rattle.check_terms.specs.Fill.Templates.{AreTrees}
use Rattle.check_instances.specs.Bodies.{AreBodies, ArePatterns}
use Rattle.check_instances.proofs.Meaning.{AreDone}
use Rattle.check_instances.proofs.bodies.fill_own.Given as goal

abbrev pub invariant-loop-place : goal.invariant-loop-place
invariant-loop-place l = record {
  grown : Grows l.fn.terms l.terms;
  texts : l.terms.texts ≡ l.fn.terms.texts;
  done : (ds all : List L.Definition) (ts : List Term) (before : List L.Body) → AreAt all l.places ds → ArePatterns l.fn.terms l.patterns all → AreTrees l.fn.terms l.arguments (term_trees ts) → AreBodies l.fn.terms l.fn.bodies.items before → AreDone l.fn.terms l.terms all ds ts before (drop l.place-index l.places) l.bodies.items;
}
