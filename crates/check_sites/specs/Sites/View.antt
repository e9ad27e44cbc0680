-- What a site of the code stands for, where a function reads the token of each leaf.
use Rattle.std.specs.Prelude.{ℕ, List, [], ◌∷◌, if◌then◌else◌}
use Rattle.cddl_token.specs.declared.Token.{Token}
use Rattle.tree_nodes.specs.declared.tree.Leaf.{Leaf}
use Rattle.tree_nodes.specs.View.{view_ref, view_group, view_type2, view_operator, view_grpent}
use Rattle.cddl_language.specs.Sites as L
use Rattle.check_sites.specs.declared.sites.site.Site.{Site}
use Rattle.check_sites.specs.declared.sites.site.Site.TheVariants as SiteV
use Rattle.check_sites.specs.declared.sites.site.Found.{Found}

abbrev pub view_site : (Leaf → Token) → Site → L.Site
view_site read (SiteV.Name d r) = L.a_name d (view_ref read r.now)
view_site read (SiteV.Unwrapping d u r) = L.an_unwrapping d (read u) (view_ref read r.now)
view_site read (SiteV.ChoiceOf a g) = L.a_choice_of (read a) (view_group read g.now)
view_site read (SiteV.ChoiceOfName a r) = L.a_choice_of_name (read a) (view_ref read r.now)
view_site read (SiteV.Hash t) = L.a_hash (read t)
view_site read (SiteV.Operation x o y) = L.an_operation (view_type2 read x.now) (view_operator read o) (view_type2 read y.now)
view_site read (SiteV.Entry e) = L.an_entry (view_grpent read e.now)
view_site read (SiteV.Map o g) = L.a_map (read o) (view_group read g.now)

-- with the place of its rule
abbrev pub view_found : (Leaf → Token) → Found → ℕ × L.Site
view_found read f = (f.rule, view_site read f.site)

-- those outside of arguments
abbrev pub outside : List Found → List Found
outside [] = []
outside (f ∷ fs) = if f.in_argument then outside fs else f ∷ outside fs
