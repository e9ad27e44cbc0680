-- The sites of all rules, and what one step of the walk adds to the list of them.
use Rattle.std.specs.Prelude.{◌≡◌, ℕ, ◌+◌, Bool, true, false, ◌&&◌, List, [], ◌∷◌, ◌++◌, map}
use Rattle.std.specs.List.{flat_map}
use Rattle.cddl_token.specs.declared.Token.{Token}
use Rattle.tree_nodes.specs.Syntax.Syntax as S
use Rattle.tree_nodes.specs.declared.tree.Leaf.{Leaf}
use Rattle.tree_nodes.specs.declared.tree.Entry.{Entry}
use Rattle.tree_nodes.specs.declared.tree.Further.{Further}
use Rattle.tree_nodes.specs.declared.tree.GrpChoice.{GrpChoice}
use Rattle.tree_nodes.specs.declared.tree.GrpEnt.TheViews.{out-GrpChoice}
use Rattle.tree_nodes.specs.View.{view_type1, view_grpent}
use Rattle.cddl_language.specs.Sites.{Site, sites, outer_sites, in_type1, in_entry}
use Rattle.check_sites.specs.declared.sites.site.Found.{Found}
use Rattle.check_sites.specs.declared.sites.push.Place.{Place}
use Rattle.check_sites.specs.Sites.View.{view_found, outside}

-- each with the place of its rule
abbrev pub placed : ℕ → List Site → List (ℕ × Site)
placed k ps = map (λ p. (k, p)) ps

-- what f says of each rule, in their order, from the place k on
abbrev pub rule_by_rule : (S.Rule → List Site) → ℕ → List S.Rule → List (ℕ × Site)
rule_by_rule f k [] = []
rule_by_rule f k (r ∷ rs) = placed k (f r) ++ rule_by_rule f (k + 1) rs

-- all sites of a list of rules, and those outside of arguments
abbrev pub all_sites : List S.Rule → List (ℕ × Site)
all_sites rs = rule_by_rule sites 0 rs

abbrev pub all_outer_sites : List S.Rule → List (ℕ × Site)
all_outer_sites rs = rule_by_rule outer_sites 0 rs

-- with those inside of arguments, or without
abbrev pub kept : Bool → List Found → List Found
kept true fs = fs
kept false fs = outside fs

-- what is kept of sites that are found in an argument, or not
abbrev pub counted : Bool → Bool → List Site → List Site
counted true in_argument ps = ps
counted false true ps = []
counted false false ps = ps

-- The list has grown by these sites. They depend on whether those inside of arguments are kept, and entered.
pub record Adds (old new : List Found) (place : Place) (added : Bool → (Leaf → Token) → List Site) : Type 0 where
  pub each : (inside : Bool) (read : Leaf → Token) → map (view_found read) (kept inside new) ≡ map (view_found read) (kept inside old) ++ placed place.rule (counted inside place.in_argument (added (inside && place.enters) read))

-- a type is demanded of the first of several
abbrev pub several : {A : Type 0} → Bool → List A → Bool
several b [] = b
several b (x ∷ xs) = true

-- the sites of a further type of a list, of an entry of a group, and of a further choice
abbrev pub further_sites : Bool → (Leaf → Token) → Further → List Site
further_sites inside read x = in_type1 inside true (view_type1 read x.type1)

abbrev pub entry_sites : Bool → (Leaf → Token) → Entry → List Site
entry_sites inside read e = in_entry inside (view_grpent read e.grpent)

abbrev pub choice_sites : Bool → (Leaf → Token) → GrpChoice → List Site
choice_sites inside read c = flat_map (entry_sites inside read) (out-GrpChoice c).entries.items
