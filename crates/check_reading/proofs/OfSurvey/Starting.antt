-- Where the rules of a tree begin, and their parameters, rule by rule.
use Rattle.std.proofs.Common.{◌≡◌, ℕ, ◌+◌, ◌<◌, ◌≤◌, List, [], ◌∷◌, ◌++◌, append_assoc, length, get_or, drop, map, sym, ap, ◌∙◌}
use Rattle.std.proofs.lemmas.List.{append-nil, drop_all, drop_more, map-append}
use Rattle.std.specs.Global.{Vec}
use Rattle.lists.proofs.Lemmas.{next_drop as next}
use Rattle.cddl_token.specs.declared.Token.{Token}
use Rattle.cddl_language.specs.Reading.{parameters_of, rule_list, rules_of}
use Rattle.tree_nodes.specs.Syntax.Syntax as S
use Rattle.tree_nodes.specs.declared.tree.GenericParm.{GenericParm}
use Rattle.tree_nodes.specs.declared.tree.Leaf.{Leaf}
use Rattle.tree_nodes.specs.declared.tree.Parameter.{Parameter}
use Rattle.tree_nodes.specs.declared.tree.Rule.{Rule}
use Rattle.tree_nodes.specs.declared.tree.Tree.{Tree}
use Rattle.tree_nodes.specs.View.{token_of, view, view_parm, view_rule, with_parameters, with_rules}
use Rattle.check_names.specs.Environment.Places.{lists}
use Rattle.check_reading.specs.Survey.Survey.{token_at}

-- Of rules.

-- what is found of each of these rules
abbrev pub of_each : {A : Type 0} → (S.Rule → A) → (Leaf → Token) → List Rule → List A
of_each f read rs = map f (map (view_rule read) rs)

listed : (read : Leaf → Token) (rs : S.Rules) (xs : List Rule) → rule_list (with_rules read rs xs) ≡ rule_list rs ++ map (view_rule read) xs
listed read rs [] = sym (append-nil (rule_list rs))
listed read rs (x ∷ xs) = listed read (S.rules rs (view_rule read x)) xs ∙ append_assoc (rule_list rs) (view_rule read x ∷ []) (map (view_rule read) xs)

pub one_found : {A : Type 0} (f : S.Rule → A) (read : Leaf → Token) (rules : List Rule) (found more : List A) (i : ℕ) (x : A) (r : Rule) → i < length rules → r ≡ get_or rules i r → x ≡ f (view_rule read r) → more ≡ found ++ x ∷ [] → found ++ of_each f read (drop i rules) ≡ of_each f read rules → more ++ of_each f read (drop (i + 1) rules) ≡ of_each f read rules
one_found f read rules found more i x r h is same e so =
    ap (λ xs. xs ++ of_each f read (drop (i + 1) rules)) e
    ∙ append_assoc found (x ∷ []) (of_each f read (drop (i + 1) rules))
    ∙ ap (λ y. found ++ y ∷ of_each f read (drop (i + 1) rules)) same
    ∙ ap (λ rs. found ++ of_each f read rs) (sym (next rules i r h is))
    ∙ so

pub all_found : {A : Type 0} (f : S.Rule → A) (tree : Tree) (rules : List Rule) (found : List A) (i : ℕ) → rules ≡ tree.rules.items → length rules ≤ i → found ++ of_each f (token_of tree) (drop i rules) ≡ of_each f (token_of tree) rules → found ≡ map f (rules_of (view tree))
all_found f tree rules found i e h so =
    sym (append-nil found)
    ∙ ap (λ rs. found ++ of_each f (token_of tree) rs) (sym (drop_all i rules h))
    ∙ so
    ∙ ap (of_each f (token_of tree)) e
    ∙ ap (map f) (sym (listed (token_of tree) S.no_rules tree.rules.items))

pub one_list : (vs ws : List (Vec ℕ)) (v : Vec ℕ) → ws ≡ vs ++ v ∷ [] → lists ws ≡ lists vs ++ v.items ∷ []
one_list vs ws v e = ap lists e ∙ map-append _ vs (v ∷ [])

-- Of the parameters of one rule.

-- where each of these further ones begins
abbrev pub further : (Leaf → Token) → List Parameter → List ℕ
further read xs = map (λ (x : Parameter). (read x.name).start) xs

starts_listed : (read : Leaf → Token) (p : S.GenericParm) (xs : List Parameter) → map token_at (parameters_of (with_parameters read p xs)) ≡ map token_at (parameters_of p) ++ further read xs
starts_listed read p [] = sym (append-nil (map token_at (parameters_of p)))
starts_listed read p (x ∷ xs) =
    starts_listed read (S.parameters p (read x.comma) (read x.name)) xs
    ∙ ap (λ ks. ks ++ further read xs) (map-append token_at (parameters_of p) (read x.name ∷ []))
    ∙ append_assoc (map token_at (parameters_of p)) ((read x.name).start ∷ []) (further read xs)

pub first_begun : (read : Leaf → Token) (p : GenericParm) (none starts : List ℕ) (at : ℕ) (others : List Parameter) → none ≡ [] → starts ≡ none ++ at ∷ [] → at ≡ (read p.first).start → others ≡ p.others.items → starts ++ further read (drop 0 others) ≡ map token_at (parameters_of (view_parm read p))
first_begun read p none starts at others empty e same all =
    ap (λ ks. ks ++ further read others) (e ∙ ap (λ ks. ks ++ at ∷ []) empty)
    ∙ ap (λ k. k ∷ further read others) same
    ∙ ap (λ xs. (read p.first).start ∷ further read xs) all
    ∙ sym (starts_listed read (S.parameter (read p.first)) p.others.items)

pub next_begun : (read : Leaf → Token) (others : List Parameter) (starts more whole : List ℕ) (i at : ℕ) (d : Parameter) → i < length others → at ≡ (read (get_or others i d).name).start → more ≡ starts ++ at ∷ [] → starts ++ further read (drop i others) ≡ whole → more ++ further read (drop (i + 1) others) ≡ whole
next_begun read others starts more whole i at d h same e so =
    ap (λ ks. ks ++ further read (drop (i + 1) others)) e
    ∙ append_assoc starts (at ∷ []) (further read (drop (i + 1) others))
    ∙ ap (λ k. starts ++ k ∷ further read (drop (i + 1) others)) same
    ∙ ap (λ xs. starts ++ further read xs) (sym (drop_more others i d h))
    ∙ so

pub all_begun : (read : Leaf → Token) (others : List Parameter) (starts whole : List ℕ) (i : ℕ) → length others ≤ i → starts ++ further read (drop i others) ≡ whole → starts ≡ whole
all_begun read others starts whole i h so = sym (append-nil starts) ∙ ap (λ xs. starts ++ further read xs) (sym (drop_all i others h)) ∙ so
