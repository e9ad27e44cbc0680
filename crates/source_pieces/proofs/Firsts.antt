-- The types of rule after rule.
use Rattle.std.proofs.Common.{◌≡◌, ℕ, ◌+◌, ◌<◌, ◌≤◌, List, [], ◌∷◌, ◌++◌, length, map, drop, get_or, refl, sym, ap, ◌∙◌, append_assoc}
use Rattle.std.proofs.lemmas.List.{append-nil, at_drop_more, at_drop_all}
use Rattle.cddl_token.specs.declared.Token.{Token}
use Rattle.tree_nodes.specs.Syntax.Syntax as S
use Rattle.tree_nodes.specs.declared.tree.Leaf.{Leaf}
use Rattle.tree_nodes.specs.declared.tree.Rule.{Rule}
use Rattle.tree_nodes.specs.declared.tree.Tree.{Tree}
use Rattle.tree_nodes.specs.View.{token_of, view, view_rule, with_rules}
use Rattle.cddl_language.specs.Reading.{rule_list, rules_of}
use Rattle.source_pieces.specs.declared.node.Found.{Found}
use Rattle.source_pieces.specs.Pieces.{Piece, in_rule, placed, rule_by_rule}
use Rattle.source_pieces.specs.Walk.{Adds, view_found}

rule_list_with : (read : Leaf → Token) (rs : S.Rules) (xs : List Rule) → rule_list (with_rules read rs xs) ≡ rule_list rs ++ map (view_rule read) xs
rule_list_with read rs [] = sym (append-nil (rule_list rs))
rule_list_with read rs (x ∷ xs) = rule_list_with read (S.rules rs (view_rule read x)) xs ∙ append_assoc (rule_list rs) (view_rule read x ∷ []) (map (view_rule read) xs)

pub rules_view : (t : Tree) → rules_of (view t) ≡ map (view_rule (token_of t)) t.rules.items
rules_view t = rule_list_with (token_of t) S.no_rules t.rules.items

-- What was found in the first rules, with the types of the others, makes the types of all.
pub record HasFirst (rules : List Rule) (found : List Found) (k : ℕ) : Type 0 where
  pub each : (read : Leaf → Token) → map (view_found read) found ++ rule_by_rule k (map (view_rule read) (drop k rules)) ≡ rule_by_rule 0 (map (view_rule read) rules)

module _ (rules : List Rule) where
  pub has_none : HasFirst rules [] 0
  has_none = record { each = λ read. refl }

  pub has_next : (a b : List Found) (k : ℕ) (x : Rule) → k < length rules → x ≡ get_or rules k x → Adds a b k (λ read. in_rule (view_rule read x)) → HasFirst rules a k → HasFirst rules b (k + 1)
  has_next a b k x le is h c = record {
    each = λ read.
        let rest : List (ℕ × Piece) = rule_by_rule (k + 1) (map (view_rule read) (drop (k + 1) rules)) in
        let before : List (ℕ × Piece) = map (view_found read) a in
        ap (λ (ps : List (ℕ × Piece)). ps ++ rest) (h.each read)
        ∙ append_assoc before (placed k (in_rule (view_rule read x))) rest
        ∙ ap (λ (y : Rule). before ++ (placed k (in_rule (view_rule read y)) ++ rest)) is
        ∙ ap (λ (ps : List (ℕ × Piece)). before ++ ps) (sym (at_drop_more (λ ys. rule_by_rule k (map (view_rule read) ys)) rules k x le))
        ∙ c.each read;
  }

  pub has_all : (found : List Found) (k : ℕ) → length rules ≤ k → HasFirst rules found k → (read : Leaf → Token) → map (view_found read) found ≡ rule_by_rule 0 (map (view_rule read) rules)
  has_all found k le c read =
      sym (append-nil (map (view_found read) found))
      ∙ ap (λ (ps : List (ℕ × Piece)). map (view_found read) found ++ ps) (sym (at_drop_all (λ ys. rule_by_rule k (map (view_rule read) ys)) rules k le))
      ∙ c.each read
