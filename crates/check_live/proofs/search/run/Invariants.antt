use Rattle.std.proofs.Common.{◌-◌, List}
use Rattle.tree_nodes.specs.Syntax.Syntax.{Rule}
use Rattle.check_terms.specs.declared.definition.Definition.{Definition}
use Rattle.tree_nodes.specs.View.{token_of}
use Rattle.check_live.specs.Search.{IsSearch, state}
use Rattle.check_live.proofs.search.run.Given as goal

abbrev pub invariant-loop-place : goal.invariant-loop-place
invariant-loop-place l = (rs : List Rule) (ds : List Definition) → IsSearch l.numbers.keys (token_of l.tree) l.terms.texts rs ds 0 (state l.fn.search) → IsSearch l.numbers.keys (token_of l.tree) l.terms.texts rs ds l.place (state l.search)

abbrev pub decreases-loop-place : goal.decreases-loop-place
decreases-loop-place l = 18446744073709551616 - l.place
