-- One more at the end of a list of parts.
use Rattle.std.proofs.Common.{◌≡◌, List, [], ◌∷◌, ◌++◌, refl}
use Rattle.tree_nodes.specs.declared.tree.Leaf.{Leaf}
use Rattle.cddl_token.specs.declared.Token.{Token}
use Rattle.cddl_tree.specs.States.{view_rules}
use Rattle.tree_nodes.specs.declared.tree.Rule.{Rule}
use Rattle.tree_nodes.specs.Syntax.Syntax as S
use Rattle.tree_nodes.specs.View.{with_rules, view_rule}

with_rules-push : (read : Leaf → Token) (rs : S.Rules) (xs : List Rule) (r : Rule) → with_rules read rs (xs ++ r ∷ []) ≡ S.rules (with_rules read rs xs) (view_rule read r)
with_rules-push read rs [] r = refl
with_rules-push read rs (x ∷ xs) r = with_rules-push read (S.rules rs (view_rule read x)) xs r

pub view_rules-push : (read : Leaf → Token) (xs : List Rule) (r : Rule) → view_rules read (xs ++ r ∷ []) ≡ S.rules (view_rules read xs) (view_rule read r)
view_rules-push read xs r = with_rules-push read S.no_rules xs r
