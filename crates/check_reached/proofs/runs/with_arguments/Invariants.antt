use Rattle.std.proofs.Common.{List, drop, map}
use Rattle.cddl_language.specs.Terms.{Ref}
use Rattle.check_terms.specs.Trees.{ref_tree}
use Rattle.check_terms.specs.Fill.Templates.{AreTrees}
use Rattle.check_reached.proofs.Asking.{IsListing}
use Rattle.check_reached.proofs.runs.with_arguments.Given as goal

abbrev pub invariant-loop-row : goal.invariant-loop-row
invariant-loop-row l = (refs : List Ref) → AreTrees l.terms l.rows (map ref_tree refs) → IsListing l.terms refs (drop l.row-index l.rows) l.calls.items
