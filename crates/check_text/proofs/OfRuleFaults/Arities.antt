-- Definitions with another number of parameters than their name has.
use Rattle.std.proofs.Common.{◌≡◌, ◌≢◌, ◌⊎◌, inl, inr, ℕ, zero, suc, ◌<◌, ◌≤◌, Bool, true, false, if◌then◌else◌, is_some, List, [], ◌∷◌, length, Option, Some, None, refl, sym, ap, subst, ◌∙◌, nat_eq, slice_get, arith}
use Rattle.std.proofs.lemmas.Bool.Decides.{eqb_tells}
use Rattle.std.proofs.lemmas.Option.{slice_get_within}
use Rattle.tree_nodes.specs.Syntax.Syntax as S
use Rattle.cddl_language.specs.Terms as L
use Rattle.cddl_language.specs.Environment.{is_in_prelude, named_so}
use Rattle.cddl_language.specs.Faults as F
use Rattle.cddl_language.specs.Faults.{Specification, parameter_count, rules}
use Rattle.cddl_language.specs.Reading.{definition_of, definitions_in, name_at, name_in, parameters_in, rules_of}
use Rattle.check_terms.specs.declared.definition.Definition.{Definition}
use Rattle.check_terms.specs.Definitions.{IsDefinition}
use Rattle.check_terms.specs.Table.{Table}
use Rattle.tree_nodes.specs.declared.tree.Tree.{Tree}
use Rattle.tree_nodes.specs.View.{view}
use Rattle.check_names.specs.declared.environment.environment.Name.{Name}
use Rattle.check_names.specs.Environment.Environment.{AreAt, IsStanding, none_there, one_there}
use Rattle.check_names.specs.Environment.Names.{standing}
use Rattle.check_names.specs.Environment.Places.{first_of}
use Rattle.check_reading.specs.declared.survey.survey.Survey.{Survey}
use Rattle.lists.specs.Least.{IsLeast}
use Rattle.check_reading.specs.Survey.Survey.{IsSurvey, defined_in}
use Rattle.lists.proofs.Lemmas.{same_least as alike}
use Rattle.check_text.specs.RuleFaults.Arity.{HasOtherCount, HasWrongArityAtRule, arity_at, count_by, count_of, count_there, first_count, told_unless}
use Rattle.check_text.proofs.OfRuleFaults.Rules.{as_many, definition_at}
use Rattle.check_text.proofs.OfRuleFaults.Telling.{OneOf}

told : (xs : List L.Definition) (r : S.Rule) (own : ℕ) (o : Option ℕ) → own ≡ length (parameters_in r) → parameter_count xs (name_in r) ≡ o → IsLeast (HasOtherCount xs r) (told_unless own o (name_at r))
told xs r own None e h = λ p f. none f.count (sym h ∙ f.counted)
  where
    none : (k : ℕ) → None ≡ Some k → ⊥
    none k e = cc
told xs r own (Some k) e h = by (eqb_tells own k)
  where
    same : (j : ℕ) → Some k ≡ Some j → k ≡ j
    same j e = cc

    by : ((nat_eq own k ≡ true) × (own ≡ k)) ⊎ ((nat_eq own k ≡ false) × (own ≢ k)) → IsLeast (HasOtherCount xs r) (if nat_eq own k then None else Some (name_at r))
    by (inl q) = subst (λ b. IsLeast (HasOtherCount xs r) (if b then None else Some (name_at r))) (sym q.0) (λ p f. f.differs (sym e ∙ q.1 ∙ same f.count (sym h ∙ f.counted)))
    by (inr q) = subst (λ b. IsLeast (HasOtherCount xs r) (if b then None else Some (name_at r))) (sym q.0) (record { count = k; counted = h; differs = λ f. q.1 (e ∙ f); offset = refl }, λ p f. least p f.offset)
      where
        least : (p : ℕ) → p ≡ name_at r → name_at r ≤ p
        least p f = omega (arith, f)

module _ (t : Table) (tree : Tree) (s : Survey) (is : IsSurvey t tree s) where
  xs : List L.Definition
  xs = definitions_in (rules_of (view tree))

  pub own_count : (n : L.Text) (v : Name) → IsStanding (definitions_in (rules_of (view tree))) n (standing v) → count_of s.definitions.items (standing v) ≡ parameter_count (definitions_in (rules_of (view tree))) n
  own_count n v h = by v.known (is_in_prelude n) h.in_prelude
    where
      firsts : (ps : List ℕ) (ys : List L.Definition) → AreAt (definitions_in (rules_of (view tree))) ps ys → first_count s.definitions.items (first_of ps) ≡ F.first_count ys
      firsts [] ys none_there = refl
      firsts (p ∷ ps) ys (one_there {x = x} e a) =
          let d = definition_at t s.definitions.items (definitions_in (rules_of (view tree))) p x is.text_read e in
          subst (λ o. Rattle.check_text.specs.RuleFaults.Arity.parameters_there o ≡ Some (length x.parameters)) (sym d.1) (ap Some (as_many t.texts d.0.parameters.items x.parameters d.2.parameters))

      by : (k : Option ℕ) (b : Bool) → is_some k ≡ b → count_by s.definitions.items k v.first ≡ (if b then Some 0 else F.first_count (named_so n (definitions_in (rules_of (view tree)))))
      by (Some k) true e = refl
      by (Some k) false e = cc
      by None true e = cc
      by None false e = ap (first_count s.definitions.items) h.first ∙ firsts _ (named_so n (definitions_in (rules_of (view tree)))) h.defined

  pub name_there : (k : ℕ) (n : L.Text) → slice_get t.texts k ≡ Some n → (v : Name) × (slice_get s.names.items k ≡ Some v)
  name_there k n e = found s.names.items k (subst (λ m. k < m) (sym is.names_found.all) (slice_get_within t.texts k n e))
    where
      found : (vs : List Name) (k : ℕ) → k < length vs → (v : Name) × (slice_get vs k ≡ Some v)
      found [] k h = absurd (omega (arith, h))
      found (v ∷ vs) zero h = (v, refl)
      found (v ∷ vs) (suc k) h = found vs k (omega (arith, h))

  pub one_rule : (r : S.Rule) (d : Definition) → IsDefinition t d (definition_of r) → IsLeast (HasOtherCount (definitions_in (rules_of (view tree))) r) (arity_at s.definitions.items s.names.items d (name_at r))
  one_rule r d h =
      let v = name_there d.name (name_in r) h.name in
      told (definitions_in (rules_of (view tree))) r (length d.parameters.items) (count_there s.definitions.items (slice_get s.names.items d.name)) (as_many t.texts d.parameters.items (parameters_in r) h.parameters) (sym (ap (count_there s.definitions.items) v.1 ∙ own_count (name_in r) v.0 (is.names_stand d.name (name_in r) v.0 h.name v.1)))

-- In all of a text.

module _ (tree : Tree) (z : Specification) (e : z.tree ≡ view tree) where
  pub count_in_text : (p : ℕ) → OneOf (HasOtherCount (defined_in tree)) (rules z) p → HasWrongArityAtRule z p
  count_in_text p k = record { rule = k.rule; count = k.fault.count; present = k.present; counted = subst (λ x. parameter_count (definitions_in (rules_of x)) (name_in k.rule) ≡ Some k.fault.count) (sym e) k.fault.counted; differs = k.fault.differs; offset = k.fault.offset }

  pub count_at_rule : (p : ℕ) → HasWrongArityAtRule z p → OneOf (HasOtherCount (defined_in tree)) (rules z) p
  count_at_rule p k = record { rule = k.rule; present = k.present; fault = record { count = k.count; counted = subst (λ x. parameter_count (definitions_in (rules_of x)) (name_in k.rule) ≡ Some k.count) e k.counted; differs = k.differs; offset = k.offset } }

  pub counts : (o : Option ℕ) → IsLeast (OneOf (HasOtherCount (defined_in tree)) (rules z)) o → IsLeast (HasWrongArityAtRule z) o
  counts o h = alike (OneOf (HasOtherCount (defined_in tree)) (rules z)) (HasWrongArityAtRule z) count_in_text count_at_rule o h
