-- The sites of rule after rule.
use Rattle.std.proofs.Common.{◌≡◌, ℕ, ◌+◌, ◌<◌, ◌≤◌, Bool, true, false, ◌&&◌, List, [], ◌∷◌, ◌++◌, length, map, drop, get_or, refl, sym, ap, ◌∙◌, append_assoc}
use Rattle.std.proofs.lemmas.List.{append-nil, at_drop_more, at_drop_all}
use Rattle.cddl_token.specs.declared.Token.{Token}
use Rattle.tree_nodes.specs.Syntax.Syntax as S
use Rattle.tree_nodes.specs.declared.tree.Leaf.{Leaf}
use Rattle.tree_nodes.specs.declared.tree.Rule.{Rule}
use Rattle.tree_nodes.specs.declared.tree.Tree.{Tree}
use Rattle.tree_nodes.specs.View.{token_of, view, view_rule, with_rules}
use Rattle.cddl_language.specs.Reading.{rule_list, rules_of}
use Rattle.cddl_language.specs.Sites.{Site, in_rule}
use Rattle.check_sites.specs.declared.sites.site.Found.{Found}
use Rattle.check_sites.specs.Sites.View.{view_found}
use Rattle.check_sites.specs.Sites.Walk.{Adds, counted, kept, placed, rule_by_rule}
use Rattle.check_sites.proofs.OfSites.Adding.{kept_none}

rule_list_with : (read : Leaf → Token) (rs : S.Rules) (xs : List Rule) → rule_list (with_rules read rs xs) ≡ rule_list rs ++ map (view_rule read) xs
rule_list_with read rs [] = sym (append-nil (rule_list rs))
rule_list_with read rs (x ∷ xs) = rule_list_with read (S.rules rs (view_rule read x)) xs ∙ append_assoc (rule_list rs) (view_rule read x ∷ []) (map (view_rule read) xs)

pub rules_view : (t : Tree) → rules_of (view t) ≡ map (view_rule (token_of t)) t.rules.items
rules_view t = rule_list_with (token_of t) S.no_rules t.rules.items

-- What was found in the first rules, with the sites of the others, makes the sites of all.
pub record HasFirst (rules : List Rule) (found : List Found) (k : ℕ) : Type 0 where
  pub each : (i : Bool) (read : Leaf → Token) → map (view_found read) (kept i found) ++ rule_by_rule (in_rule i) k (map (view_rule read) (drop k rules)) ≡ rule_by_rule (in_rule i) 0 (map (view_rule read) rules)

entered : (i : Bool) → (i && true) ≡ i
entered true = refl
entered false = refl

counted_outside : (i : Bool) (ps : List Site) → counted i false ps ≡ ps
counted_outside true ps = refl
counted_outside false ps = refl

module _ (rules : List Rule) where
  pub has_none : HasFirst rules [] 0
  has_none = record {
    each = λ i read. ap (λ (fs : List Found). map (view_found read) fs ++ rule_by_rule (in_rule i) 0 (map (view_rule read) rules)) (kept_none i);
  }

  pub has_next : (a b : List Found) (k : ℕ) (x : Rule) → k < length rules → x ≡ get_or rules k x → Adds a b (record { rule = k; in_argument = false; enters = true }) (λ i read. in_rule i (view_rule read x)) → HasFirst rules a k → HasFirst rules b (k + 1)
  has_next a b k x le is h c = record {
    each = λ i read.
        let rest : List (ℕ × Site) = rule_by_rule (in_rule i) (k + 1) (map (view_rule read) (drop (k + 1) rules)) in
        let before : List (ℕ × Site) = map (view_found read) (kept i a) in
        ap (λ (ps : List (ℕ × Site)). ps ++ rest) (h.each i read)
        ∙ append_assoc before (placed k (counted i false (in_rule (i && true) (view_rule read x)))) rest
        ∙ ap (λ (ps : List Site). before ++ (placed k ps ++ rest)) (counted_outside i (in_rule (i && true) (view_rule read x)))
        ∙ ap (λ (j : Bool). before ++ (placed k (in_rule j (view_rule read x)) ++ rest)) (entered i)
        ∙ ap (λ (y : Rule). before ++ (placed k (in_rule i (view_rule read y)) ++ rest)) is
        ∙ ap (λ (ps : List (ℕ × Site)). before ++ ps) (sym (at_drop_more (λ ys. rule_by_rule (in_rule i) k (map (view_rule read) ys)) rules k x le))
        ∙ c.each i read;
  }

  pub has_all : (found : List Found) (k : ℕ) → length rules ≤ k → HasFirst rules found k → (i : Bool) (read : Leaf → Token) → map (view_found read) (kept i found) ≡ rule_by_rule (in_rule i) 0 (map (view_rule read) rules)
  has_all found k le c i read =
      sym (append-nil (map (view_found read) (kept i found)))
      ∙ ap (λ (ps : List (ℕ × Site)). map (view_found read) (kept i found) ++ ps) (sym (at_drop_all (λ ys. rule_by_rule (in_rule i) k (map (view_rule read) ys)) rules k le))
      ∙ c.each i read
