-- Where no duplicate, no wrong number of arguments and no group as a type is told, it can't be that a text is not clear.
use Rattle.std.proofs.Common.{◌≡◌, ◌≢◌, ℕ, Bool, true, false, List, [], ◌∷◌, inl, inr, Option, Some, None, refl, sym, ap, ◌∙◌, subst}
use Rattle.std.specs.Prelude.{Contains}
use Rattle.std.proofs.lemmas.Bool.{false≢true}
use Rattle.lists.proofs.Lemmas.{IsIn, from_contains, no_some, same_some, to_contains}
use Rattle.tree_nodes.specs.Syntax.Syntax as S
use Rattle.cddl_language.specs.Environment.{is_equals}
use Rattle.cddl_language.specs.Faults.{HasGroupAsType, HasWrongArity, IsDuplicate, Specification, first_equals, other_equals, rules}
use Rattle.cddl_language.specs.Live.Live.{IsClear}
use Rattle.cddl_language.specs.Reading.{definition_of, name_at, name_in, sign_of}

module _ (s : Specification) (no_duplicate : (at : ℕ) → IsDuplicate s at → ⊥) where
  -- the rule says what the first one by `=` of its name says, if it has that sign too
  abbrev SaysTheSame : S.Rule → Type 0
  SaysTheSame r = (q : S.Rule) → is_equals (sign_of r) ≡ true → first_equals (rules s) (name_in r) ≡ Some q → definition_of r ≡ definition_of q

  rule_same : (r : S.Rule) → Contains (rules s) r → (SaysTheSame r → ⊥) → ⊥
  rule_same r here other = by (is_equals (sign_of r)) refl (first_equals (rules s) (name_in r)) refl
    where
      by : (b : Bool) → is_equals (sign_of r) ≡ b → (o : Option S.Rule) → first_equals (rules s) (name_in r) ≡ o → ⊥
      by false e o f = other (λ q i g. absurd (false≢true (sym e ∙ i)))
      by true e None f = other (λ q i g. absurd (no_some (sym f ∙ g)))
      by true e (Some q) f = no_duplicate (name_at r) (other_equals here e f (λ same. other (λ x i g. same ∙ ap definition_of (same_some (sym f ∙ g)))) refl)

  all_same : (rs : List S.Rule) → ((r : S.Rule) → IsIn r rs → Contains (rules s) r) → (((r : S.Rule) → IsIn r rs → SaysTheSame r) → ⊥) → ⊥
  all_same [] here other = other (λ r i. absurd i)
  all_same (r ∷ rs) here other =
      all_same rs (λ x i. here x (inr i)) (λ rest. rule_same r (here r (inl refl)) (λ first. other (λ x i. by x first rest i)))
    where
      by : (x : S.Rule) → SaysTheSame r → ((y : S.Rule) → IsIn y rs → SaysTheSame y) → IsIn x (r ∷ rs) → SaysTheSame x
      by x first rest (inl e) = subst SaysTheSame (sym e) first
      by x first rest (inr i) = rest x i

  pub is_clear : ((at : ℕ) → HasWrongArity s at → ⊥) → ((at : ℕ) → HasGroupAsType s at → ⊥) → (IsClear s → ⊥) → ⊥
  is_clear no_arity no_group other =
      all_same (rules s) (λ r i. to_contains (rules s) r i) (λ same. other (record {
        one_equals = λ {q} {r} here equals first. same r (from_contains (rules s) r here) q equals first;
        no_duplicate = no_duplicate;
        no_wrong_arity = no_arity;
        no_group_as_type = no_group;
      }))
