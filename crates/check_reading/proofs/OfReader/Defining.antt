-- The definitions of a tree, one for each rule, and the parameters of a rule.
use Rattle.std.proofs.Common.{◌≡◌, ℕ, ◌+◌, ◌<◌, ◌≤◌, List, [], ◌∷◌, ◌++◌, length, get_or, drop, map, Some, refl, sym, ap, subst, ◌∙◌, slice_get}
use Rattle.std.proofs.lemmas.List.{drop_more, drop_all}
use Rattle.lists.proofs.Lemmas.{next_drop as next, none_more as all_of}
use Rattle.cddl_token.specs.declared.Token.{Token}
use Rattle.cddl_language.specs.Reading.{definition_of, definitions_in, parameters_of, rule_list, rules_of, text_of, texts_of}
use Rattle.cddl_language.specs.Terms as L
use Rattle.cddl_language.specs.Terms.{Text}
use Rattle.tree_nodes.specs.Syntax.Syntax as S
use Rattle.check_terms.specs.declared.definition.Definition.{Definition}
use Rattle.check_terms.specs.Definitions.{AreDefinitions, no_definitions, further_definition, AreTexts, no_texts, further_text, IsDefinition}
use Rattle.check_terms.specs.Table.{Table, Grows}
use Rattle.tree_nodes.specs.declared.tree.GenericParm.{GenericParm}
use Rattle.tree_nodes.specs.declared.tree.Leaf.{Leaf}
use Rattle.tree_nodes.specs.declared.tree.Parameter.{Parameter}
use Rattle.tree_nodes.specs.declared.tree.Rule.{Rule}
use Rattle.tree_nodes.specs.declared.tree.Tree.{Tree}
use Rattle.tree_nodes.specs.View.{token_of, view, view_parm, view_rule, with_parameters, with_rules}
use Rattle.check_reading.proofs.OfReader.Growing.{definitions_kept}

one_more : {A : Type 0} (xs : List A) (x : A) (ys : List A) → (xs ++ x ∷ []) ++ ys ≡ xs ++ (x ∷ ys)
one_more [] x ys = refl
one_more (z ∷ xs) x ys = ap (λ zs. z ∷ zs) (one_more xs x ys)

-- rules

rules_listed : (read : Leaf → Token) (rs : S.Rules) (xs : List Rule) → rule_list (with_rules read rs xs) ≡ rule_list rs ++ map (view_rule read) xs
rules_listed read rs [] = sym (all_of (rule_list rs))
rules_listed read rs (x ∷ xs) = rules_listed read (S.rules rs (view_rule read x)) xs ∙ one_more (rule_list rs) (view_rule read x) (map (view_rule read) xs)

definition_added : {t : Table} {ds : List Definition} {xs : List L.Definition} {d : Definition} {x : L.Definition} → AreDefinitions t ds xs → IsDefinition t d x → AreDefinitions t (ds ++ d ∷ []) (xs ++ x ∷ [])
definition_added no_definitions is = further_definition is no_definitions
definition_added (further_definition h k) is = further_definition h (definition_added k is)

-- these are the definitions so far, which those of the rules from i on make the whole
pub record AreSoFar (tree : Tree) (t : Table) (ds : List Definition) (rules : List Rule) (i : ℕ) : Type 0 where
  pub so_far : List L.Definition
  pub stand : AreDefinitions t ds so_far
  pub are_whole : so_far ++ definitions_in (map (view_rule (token_of tree)) (drop i rules)) ≡ definitions_in (rules_of (view tree))

pub none_so_far : (tree : Tree) (t : Table) (rules : List Rule) → rules ≡ tree.rules.items → AreSoFar tree t [] rules 0
none_so_far tree t rules e = record { so_far = []; stand = no_definitions; are_whole = ap (λ rs. definitions_in (map (view_rule (token_of tree)) rs)) e ∙ ap definitions_in (sym (rules_listed (token_of tree) S.no_rules tree.rules.items)) }

pub one_more_so_far : (tree : Tree) (t u : Table) (ds es : List Definition) (d : Definition) (rules : List Rule) (i : ℕ) (r : Rule) → i < length rules → r ≡ get_or rules i r → AreSoFar tree t ds rules i → Grows t u → IsDefinition u d (definition_of (view_rule (token_of tree) r)) → es ≡ ds ++ d ∷ [] → AreSoFar tree u es rules (i + 1)
one_more_so_far tree t u ds es d rules i r h is s grows one e = record {
  so_far = s.so_far ++ definition_of (view_rule (token_of tree) r) ∷ [];
  stand = subst (λ ys. AreDefinitions u ys (s.so_far ++ definition_of (view_rule (token_of tree) r) ∷ [])) (sym e) (definition_added (definitions_kept grows s.stand) one);
  are_whole =
      one_more s.so_far (definition_of (view_rule (token_of tree) r)) (definitions_in (map (view_rule (token_of tree)) (drop (i + 1) rules)))
      ∙ sym (ap (λ rs. s.so_far ++ definitions_in (map (view_rule (token_of tree)) rs)) (next rules i r h is)) ∙ s.are_whole;
}

pub all_so_far : (tree : Tree) (t : Table) (ds : List Definition) (rules : List Rule) (i : ℕ) → length rules ≤ i → AreSoFar tree t ds rules i → AreDefinitions t ds (definitions_in (rules_of (view tree)))
all_so_far tree t ds rules i h s = subst (AreDefinitions t ds) (sym (all_of s.so_far) ∙ sym (ap (λ rs. s.so_far ++ definitions_in (map (view_rule (token_of tree)) rs)) (drop_all i rules h)) ∙ s.are_whole) s.stand

-- parameters

parameters_listed : (read : Leaf → Token) (p : S.GenericParm) (xs : List Parameter) → parameters_of (with_parameters read p xs) ≡ parameters_of p ++ map (λ (x : Parameter). read x.name) xs
parameters_listed read p [] = sym (all_of (parameters_of p))
parameters_listed read p (x ∷ xs) = parameters_listed read (S.parameters p (read x.comma) (read x.name)) xs ∙ one_more (parameters_of p) (read x.name) (map (λ (y : Parameter). read y.name) xs)

pub text_added : {texts : List Text} {ns : List ℕ} {xs : List Text} (n : ℕ) (x : Text) → AreTexts texts ns xs → slice_get texts n ≡ Some x → AreTexts texts (ns ++ n ∷ []) (xs ++ x ∷ [])
text_added n x no_texts e = further_text e no_texts
text_added n x (further_text f h) e = further_text f (text_added n x h e)

texts_added : (ts : List Token) (t : Token) → texts_of ts ++ text_of t ∷ [] ≡ texts_of (ts ++ t ∷ [])
texts_added [] t = refl
texts_added (u ∷ ts) t = ap (λ xs. text_of u ∷ xs) (texts_added ts t)

-- these are the parameters so far, which the further ones from i on make the whole
pub record AreNamed (read : Leaf → Token) (p : GenericParm) (t : Table) (ns : List ℕ) (others : List Parameter) (i : ℕ) : Type 0 where
  pub named : List Token
  pub stand : AreTexts t.texts ns (texts_of named)
  pub are_all : named ++ map (λ (x : Parameter). read x.name) (drop i others) ≡ parameters_of (view_parm read p)

pub first_named : (read : Leaf → Token) (p : GenericParm) (t : Table) (ns : List ℕ) (others : List Parameter) → others ≡ p.others.items → AreTexts t.texts ns (text_of (read p.first) ∷ []) → AreNamed read p t ns others 0
first_named read p t ns others e h = record { named = read p.first ∷ []; stand = h; are_all = ap (λ xs. read p.first ∷ map (λ (x : Parameter). read x.name) xs) e ∙ sym (parameters_listed read (S.parameter (read p.first)) p.others.items) }

pub next_named : (read : Leaf → Token) (p : GenericParm) (t u : Table) (ns ms : List ℕ) (others : List Parameter) (i : ℕ) (d : Parameter) → i < length others → AreNamed read p t ns others i → ((xs : List Text) → AreTexts t.texts ns xs → AreTexts u.texts ms (xs ++ text_of (read (get_or others i d).name) ∷ [])) → AreNamed read p u ms others (i + 1)
next_named read p t u ns ms others i d h s adds =
    let one = read (get_or others i d).name in
    record {
      named = s.named ++ one ∷ [];
      stand = subst (AreTexts u.texts ms) (texts_added s.named one) (adds (texts_of s.named) s.stand);
      are_all =
          one_more s.named one (map (λ (y : Parameter). read y.name) (drop (i + 1) others))
          ∙ sym (ap (λ ys. s.named ++ map (λ (y : Parameter). read y.name) ys) (drop_more others i d h)) ∙ s.are_all;
    }

pub all_named : (read : Leaf → Token) (p : GenericParm) (t : Table) (ns : List ℕ) (others : List Parameter) (i : ℕ) → length others ≤ i → AreNamed read p t ns others i → AreTexts t.texts ns (texts_of (parameters_of (view_parm read p)))
all_named read p t ns others i h s = subst (λ ts. AreTexts t.texts ns (texts_of ts)) (sym (all_of s.named) ∙ sym (ap (λ ys. s.named ++ map (λ (y : Parameter). read y.name) ys) (drop_all i others h)) ∙ s.are_all) s.stand
