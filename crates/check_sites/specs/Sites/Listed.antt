-- What the list of sites says of each.
use Rattle.std.specs.Prelude.{◌≡◌, ℕ, List, Contains, Some, slice_get}
use Rattle.cddl_token.specs.declared.Token.{Token}
use Rattle.tree_nodes.specs.Syntax.Syntax as S
use Rattle.tree_nodes.specs.declared.tree.Leaf.{Leaf}
use Rattle.cddl_language.specs.Sites.{Site}
use Rattle.check_sites.specs.declared.sites.site.Found.{Found}
use Rattle.check_sites.specs.Sites.View.{view_site}

-- What was found stands in the rule at its place, whose sites `of` says.
pub record StandsIn (of : S.Rule → List Site) (read : Leaf → Token) (rs : List S.Rule) (f : Found) : Type 0 where
  pub rule : S.Rule
  pub place : slice_get rs f.rule ≡ Some rule
  pub contained : Contains (of rule) (view_site read f.site)

-- The site p of the rule at the place k was found.
pub record WasFound (read : Leaf → Token) (fs : List Found) (k : ℕ) (p : Site) : Type 0 where
  pub found : Found
  pub contained : Contains fs found
  pub place : found.rule ≡ k
  pub same : view_site read found.site ≡ p
