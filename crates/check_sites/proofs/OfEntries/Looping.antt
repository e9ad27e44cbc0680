-- What the loops over sites and over rules add.
use Rattle.std.proofs.Common.{◌≡◌, ℕ, ◌+◌, List, [], ◌∷◌, ◌++◌, map, refl}
use Rattle.cddl_token.specs.declared.Token.{Token}
use Rattle.tree_nodes.specs.declared.tree.Leaf.{Leaf}
use Rattle.tree_nodes.specs.declared.tree.Rule.{Rule}
use Rattle.tree_nodes.specs.View.{view_rule}
use Rattle.check_sites.specs.declared.sites.site.Found.{Found}
use Rattle.check_sites.specs.Sites.View.{view_site}
use Rattle.check_sites.specs.Entries.Entries.{Standing, of_rule, of_rules, of_site, of_sites}

abbrev pub sites_from : ℕ → (Leaf → Token) → List Found → List Standing
sites_from k read fs = of_sites read fs

abbrev pub site_from : ℕ → (Leaf → Token) → Found → List Standing
site_from k read f = of_site f.rule (view_site read f.site)

pub next_site : (k : ℕ) (read : Leaf → Token) (f : Found) (fs : List Found) → sites_from k read (f ∷ fs) ≡ site_from k read f ++ sites_from (k + 1) read fs
next_site k read f fs = refl

pub no_site : (k : ℕ) (read : Leaf → Token) → sites_from k read [] ≡ []
no_site k read = refl

abbrev pub rules_from : ℕ → (Leaf → Token) → List Rule → List Standing
rules_from k read rs = of_rules k (map (view_rule read) rs)

abbrev pub rule_from : ℕ → (Leaf → Token) → Rule → List Standing
rule_from k read r = of_rule k (view_rule read r)

pub next_rule : (k : ℕ) (read : Leaf → Token) (r : Rule) (rs : List Rule) → rules_from k read (r ∷ rs) ≡ rule_from k read r ++ rules_from (k + 1) read rs
next_rule k read r rs = refl

pub no_rule : (k : ℕ) (read : Leaf → Token) → rules_from k read [] ≡ []
no_rule k read = refl
