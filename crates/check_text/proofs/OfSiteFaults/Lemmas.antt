-- What callers' proofs may name of this crate.
use Rattle.std.proofs.Common.{◌≡◌, ◌≢◌, ℕ, ◌⊎◌, inl, inr, length, Option, Some, Contains}
use Rattle.tree_nodes.specs.Syntax.Syntax as S
use Rattle.cddl_language.specs.Faults as F
use Rattle.cddl_language.specs.Faults.{HasWrongArity, Specification, definitions, parameter_count, rules}
use Rattle.cddl_language.specs.Reading.{name_at, name_in, parameters_in}
use Rattle.lists.specs.Least.{IsLeast, lesser_of}
use Rattle.lists.proofs.Lemmas.{same_least as alike, lesser_least as either}
use Rattle.check_text.specs.SiteFaults.Words.{HasWrongArityAtName, by_name, by_parameter}

pub name_has_wrong_arity : (s : Specification) (at : ℕ) → HasWrongArityAtName s at → HasWrongArity s at
name_has_wrong_arity s at (by_name h e c w o) = F.by_name h e c w o
name_has_wrong_arity s at (by_parameter h e w o) = F.by_parameter h e w o

-- A wrong arity is told at a rule, for which Q stands, or at a name.
module _ (s : Specification) (Q : ℕ → Type 0) (told : (at : ℕ) (r : S.Rule) (k : ℕ) → Contains (rules s) r → parameter_count (definitions s) (name_in r) ≡ Some k → length (parameters_in r) ≢ k → at ≡ name_at r → Q at) where
  pub at_rule_or_name : (at : ℕ) → HasWrongArity s at → Q at ⊎ HasWrongArityAtName s at
  at_rule_or_name at (F.by_rule {r = r} {k = k} h c w o) = inl (told at r k h c w o)
  at_rule_or_name at (F.by_name h e c w o) = inr (by_name h e c w o)
  at_rule_or_name at (F.by_parameter h e w o) = inr (by_parameter h e w o)

  pub least_wrong_arity : ((at : ℕ) → Q at → HasWrongArity s at) → (a b : Option ℕ) → IsLeast Q a → IsLeast (HasWrongArityAtName s) b → IsLeast (HasWrongArity s) (lesser_of a b)
  least_wrong_arity from a b h k = alike (λ at. Q at ⊎ HasWrongArityAtName s at) (HasWrongArity s) to at_rule_or_name (lesser_of a b) (either Q (HasWrongArityAtName s) a b h k)
    where
      to : (at : ℕ) → Q at ⊎ HasWrongArityAtName s at → HasWrongArity s at
      to at (inl q) = from at q
      to at (inr q) = name_has_wrong_arity s at q
