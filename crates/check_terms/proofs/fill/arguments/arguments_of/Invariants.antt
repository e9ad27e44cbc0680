use Rattle.cddl_language.specs.Terms.{Terms}
use Rattle.check_terms.specs.Table.{Holds}
use Rattle.check_terms.specs.Trees.{terms_tree}
use Rattle.check_terms.proofs.OfFill.Reading.{AreRead, above}
use Rattle.check_terms.proofs.fill.arguments.arguments_of.Given as goal

abbrev pub invariant-loop-argument : goal.invariant-loop-argument
invariant-loop-argument l = (ts : Terms) → Holds l.terms l.fn.first (terms_tree ts) → AreRead l.terms ts l.left l.arguments.items

abbrev pub decreases-loop-argument : goal.decreases-loop-argument
decreases-loop-argument l = above l.left
