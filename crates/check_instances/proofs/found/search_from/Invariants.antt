use Rattle.std.proofs.Common.{◌≡◌, ◌≤◌, ◌-◌, List, [], length}
use Rattle.cddl_language.specs.Reach.{most_instances}
use Rattle.cddl_language.specs.Terms as L
use Rattle.cddl_language.specs.Terms.{Text, call, no_terms}
use Rattle.check_terms.specs.Table.{Grows}
use Rattle.check_terms.specs.Trees.{IsRef}
use Rattle.check_instances.specs.Bodies.{AreMeanings}
use Rattle.check_instances.proofs.Ending.{IsGoing}
use Rattle.check_instances.proofs.found.search_from.Given as goal

abbrev pub invariant-loop-call : goal.invariant-loop-call
invariant-loop-call l = record {
  grown : Grows l.fn.terms l.terms;
  texts : l.terms.texts ≡ l.fn.terms.texts;
  few : length l.found.items ≤ most_instances;
  none : l.search.waiting.items ≡ [];
  going : (xs : List L.Definition) (n : Text) → AreMeanings xs l.fn.terms l.names l.known l.own → IsRef l.fn.terms l.root (call n no_terms) → IsGoing xs n l.terms l.root l.search.marks.items l.search.waiting.items l.search.refs.items l.found.items;
}

abbrev pub decreases-loop-call : goal.decreases-loop-call
decreases-loop-call l = most_instances - length l.found.items
