-- Definitions of another kind than their name has.
use Rattle.std.proofs.Common.{◌≡◌, ◌≢◌, ℕ, ◌≤◌, Bool, true, false, not, if◌then◌else◌, List, Option, Some, None, refl, sym, ap, subst, ◌∙◌, slice_get, arith}
use Rattle.tree_nodes.specs.Syntax.Syntax as S
use Rattle.cddl_language.specs.Terms as L
use Rattle.cddl_language.specs.Faults.{IsKindClash, Specification, definitions, rules}
use Rattle.cddl_language.specs.Kinds.{is_group, is_group_definition}
use Rattle.cddl_language.specs.Reading.{definition_of, definitions_in, name_at, name_in, rules_of}
use Rattle.check_terms.specs.declared.definition.Definition.{Definition}
use Rattle.check_terms.specs.Definitions.{IsDefinition}
use Rattle.check_terms.specs.Table.{Table}
use Rattle.tree_nodes.specs.declared.tree.Tree.{Tree}
use Rattle.tree_nodes.specs.View.{view}
use Rattle.check_reading.specs.declared.survey.survey.Survey.{Survey}
use Rattle.lists.specs.Least.{IsLeast}
use Rattle.check_reading.specs.Survey.Survey.{IsSurvey, defined_in}
use Rattle.lists.proofs.Lemmas.{same_least as alike}
use Rattle.check_text.specs.RuleFaults.Kinds.{IsClashAt}
use Rattle.check_text.proofs.OfRuleFaults.Rules.{definition_at, rule_there}
use Rattle.check_text.proofs.OfRuleFaults.Telling.{OneOf}

-- the definition of the rule at a place
pub definition_there : (t : Table) (tree : Tree) (s : Survey) → IsSurvey t tree s → (p : ℕ) (r : S.Rule) → slice_get (rules_of (view tree)) p ≡ Some r → (d : Definition) × (slice_get s.definitions.items p ≡ Some d) × IsDefinition t d (definition_of r)
definition_there t tree s is p r e = definition_at t s.definitions.items (defined_in tree) p (definition_of r) is.text_read (rule_there (rules_of (view tree)) p r e)

differing : (a b : Bool) → (if a then not b else b) ≡ true → a ≢ b
differing true true e f = cc
differing false false e f = cc
differing true false e f = cc
differing false true e f = cc

equal : (a b : Bool) → (if a then not b else b) ≡ false → a ≡ b
equal true true e = refl
equal false false e = refl
equal true false e = cc
equal false true e = cc

pub clash_told : (xs : List L.Definition) (r : S.Rule) (a b : Bool) → a ≡ is_group_definition xs (definition_of r) → b ≡ is_group xs (name_in r) → (c : Bool) → c ≡ (if a then not b else b) → IsLeast (IsClashAt xs r) (if c then Some (name_at r) else None)
clash_told xs r a b e f true h = (record { clash = λ g. differing a b (sym h) (e ∙ g ∙ sym f); offset = refl }, λ p k. least p k.offset)
  where
    least : (p : ℕ) → p ≡ name_at r → name_at r ≤ p
    least p k = omega (arith, k)
clash_told xs r a b e f false h = λ p k. k.clash (sym e ∙ equal a b (sym h) ∙ f)

module _ (tree : Tree) (z : Specification) (e : z.tree ≡ view tree) where
  same : definitions z ≡ defined_in tree
  same = ap (λ x. definitions_in (rules_of x)) e

  pub clash_in_text : (p : ℕ) → OneOf (IsClashAt (defined_in tree)) (rules z) p → IsKindClash z p
  clash_in_text p k = record { rule = k.rule; present = k.present; clash = subst (λ xs. is_group_definition xs (definition_of k.rule) ≢ is_group xs (name_in k.rule)) (sym same) k.fault.clash; offset = k.fault.offset }

  pub clash_at_rule : (p : ℕ) → IsKindClash z p → OneOf (IsClashAt (defined_in tree)) (rules z) p
  clash_at_rule p k = record { rule = k.rule; present = k.present; fault = record { clash = subst (λ xs. is_group_definition xs (definition_of k.rule) ≢ is_group xs (name_in k.rule)) same k.clash; offset = k.offset } }

  pub clashes : (o : Option ℕ) → IsLeast (OneOf (IsClashAt (defined_in tree)) (rules z)) o → IsLeast (IsKindClash z) o
  clashes o h = alike (OneOf (IsClashAt (defined_in tree)) (rules z)) (IsKindClash z) clash_in_text clash_at_rule o h

pub not_both : (o : Option Definition) (d : Definition) → o ≡ Some d → o ≡ None → ⊥
not_both o d e f = cc

pub one_definition : (o : Option Definition) (d e : Definition) → o ≡ Some d → o ≡ Some e → d ≡ e
one_definition o d e f g = cc
