use Rattle.cddl_token.specs.declared.Token.{Token}
use Rattle.tree_nodes.specs.declared.tree.Leaf.{Leaf}
use Rattle.tree_nodes.specs.View.{view_ref}
use Rattle.check_live.specs.Search.{AddsArguments, state}
use Rattle.check_live.proofs.search.serve_arguments.Given as goal

abbrev pub invariant-loop-place : goal.invariant-loop-place
invariant-loop-place l = (read : Leaf → Token) → AddsArguments l.numbers.keys read l.site (view_ref read l.name) l.number l.place (state l.fn.search) (state l.search)
