-- Which sites of a list are the live ones of a text.
use Rattle.std.specs.Prelude.{◌≡◌, ℕ, List, Contains, Some, slice_get}
use Rattle.cddl_token.specs.declared.Token.{Token}
use Rattle.tree_nodes.specs.Syntax.Syntax as S
use Rattle.tree_nodes.specs.declared.tree.Leaf.{Leaf}
use Rattle.cddl_language.specs.Sites.{Site}
use Rattle.check_sites.specs.declared.sites.site.Found.{Found}
use Rattle.check_sites.specs.Sites.View.{view_site}
use Rattle.cddl_language.specs.Live.Live.{IsLive}

-- Each is live in the rule at its place, and each live site of a rule is there, at the rule's place.
pub record AreLive (rs : List S.Rule) (read : Leaf → Token) (fs : List Found) : Type 0 where
  pub sound : (f : Found) → Contains fs f → (r : S.Rule) × ((slice_get rs f.rule ≡ Some r) × IsLive rs r (view_site read f.site))
  pub complete : (k : ℕ) (r : S.Rule) (p : Site) → slice_get rs k ≡ Some r → IsLive rs r p → (f : Found) × (Contains fs f × ((f.rule ≡ k) × (view_site read f.site ≡ p)))
