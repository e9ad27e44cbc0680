-- What is told at rules, by the code.
use Rattle.std.proofs.Common.{◌≡◌, ◌⊎◌, inl, inr, ℕ, List, ◌++◌, sym, ap, subst, ◌∙◌}
use Rattle.tree_nodes.specs.Syntax.Syntax as S
use Rattle.tree_nodes.specs.declared.tree.Tree.{Tree}
use Rattle.tree_nodes.specs.View.{view}
use Rattle.cddl_language.specs.Terms as L
use Rattle.cddl_language.specs.Faults.{HasWrongArity, Specification, by_rule, rules}
use Rattle.cddl_language.specs.Reading.{rules_of}
use Rattle.all_offsets.specs.Offsets.{AreOf}
use Rattle.check_text.specs.Everywhere.Rules.{IsToldAtRule, IsToldAtRules}
use Rattle.check_text.specs.RuleFaults.Arity.{HasOtherCount, HasWrongArityAtRule}
use Rattle.check_text.specs.RuleFaults.Kinds.{IsClashAt}
use Rattle.check_text.specs.SiteFaults.Words.{HasWrongArityAtName}
use Rattle.check_text.specs.declared.everywhere.rules.RuleCode.{RuleCode}
use Rattle.check_text.specs.declared.everywhere.rules.RuleCode.TheVariants.{Duplicate, KindClash, Arity}
use Rattle.all_offsets.proofs.Lemmas.{IsOne, of_both, same_of}
use Rattle.check_text.proofs.OfRuleFaults.Arities.{count_at_rule, count_in_text}
use Rattle.check_text.proofs.OfRuleFaults.Clashes.{clash_at_rule, clash_in_text}
use Rattle.check_text.proofs.OfRuleFaults.Equals.{duplicate_at_rule, duplicate_in_text}
use Rattle.check_text.proofs.OfRuleFaults.Telling.{OneOf}
use Rattle.check_text.proofs.OfSiteFaults.Lemmas.{at_rule_or_name, name_has_wrong_arity}

-- At one rule these are told at one offset at most.

pub one_clash : (ds : List L.Definition) (r : S.Rule) → IsOne (IsClashAt ds r)
one_clash ds r p q h k = h.offset ∙ sym k.offset

pub one_count : (ds : List L.Definition) (r : S.Rule) → IsOne (HasOtherCount ds r)
one_count ds r p q h k = h.offset ∙ sym k.offset

-- In all of a text.

module _ (tree : Tree) (z : Specification) (e : z.tree ≡ view tree) where
  to_text : (code : RuleCode) (p : ℕ) → OneOf (IsToldAtRule code (rules_of (view tree))) (rules z) p → IsToldAtRules code z p
  to_text Duplicate p k = duplicate_in_text tree z e p k
  to_text KindClash p k = clash_in_text tree z e p k
  to_text Arity p k = count_in_text tree z e p k

  from_text : (code : RuleCode) (p : ℕ) → IsToldAtRules code z p → OneOf (IsToldAtRule code (rules_of (view tree))) (rules z) p
  from_text Duplicate p k = duplicate_at_rule tree z e p k
  from_text KindClash p k = clash_at_rule tree z e p k
  from_text Arity p k = count_at_rule tree z e p k

  pub in_text : (code : RuleCode) (offsets : List ℕ) → AreOf (OneOf (IsToldAtRule code (rules_of (view tree))) (rules_of (view tree))) offsets → AreOf (IsToldAtRules code z) offsets
  in_text code offsets h = same_of (OneOf (IsToldAtRule code (rules_of (view tree))) (rules z)) (IsToldAtRules code z) offsets (to_text code) (from_text code) (subst (λ rs. AreOf (OneOf (IsToldAtRule code (rules_of (view tree))) rs) offsets) (sym (ap rules_of e)) h)

-- A wrong arity is told at a rule or at a name.
pub wrong_arities : (s : Specification) (xs ys : List ℕ) → AreOf (HasWrongArityAtRule s) xs → AreOf (HasWrongArityAtName s) ys → AreOf (HasWrongArity s) (xs ++ ys)
wrong_arities s xs ys a b = same_of _ (HasWrongArity s) _ to (at_rule_or_name s (HasWrongArityAtRule s) (λ at r k h w d o. record { rule = r; count = k; present = h; counted = w; differs = d; offset = o })) (of_both (HasWrongArityAtRule s) (HasWrongArityAtName s) xs ys a b)
  where
    to : (p : ℕ) → HasWrongArityAtRule s p ⊎ HasWrongArityAtName s p → HasWrongArity s p
    to p (inl h) = by_rule h.present h.counted h.differs h.offset
    to p (inr h) = name_has_wrong_arity s p h
