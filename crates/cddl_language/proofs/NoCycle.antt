-- An accepted specification has no cycle of free references.
use Rattle.std.specs.Prelude.{◌≡◌, ℕ, List, Some}
use Rattle.std.proofs.Common.{refl, sym, subst, inl, inr}
use Rattle.cddl_token.specs.declared.Code.TheVariants.{Recursion}
use Rattle.cddl_language.specs.Terms.{Text, Definition}
use Rattle.cddl_language.specs.Reading.{name_at}
use Rattle.cddl_language.specs.Reach.{Point}
use Rattle.cddl_language.specs.Literals.{Values}
use Rattle.cddl_language.specs.Free.{IsOnCycle, LeadsBack}
use Rattle.cddl_language.specs.Faults.{Specification, definitions, root_of, OfRoot, HasRecursion, at_rule, without_rule, IsAccepted}

-- where nothing is told, no reference leads back, so each name through which a choice leads back would be told
pub told : (ds : List Definition) (root : Text) (p : Point) → LeadsBack ds root p → ((q : Point) → IsOnCycle ds root q → ⊥) → ⊥
told ds root p b none = none p (record { back = b; counts = inr (λ q k c. none q (record { back = c; counts = inl k })) })

-- a name on a cycle has no rule, or has one, where it would be told; and where none has, at the first byte
pub no_cycle : (s : Specification) (worth : Values) (root : Text) (p : Point) → IsAccepted s worth → root_of s ≡ Some root → IsOnCycle (definitions s) root p → ⊥
no_cycle s worth root p accepted e cycle = never 0 (without_rule cycle (λ r h. never (name_at r) (at_rule h refl)) refl)
  where
    never : (at : ℕ) → HasRecursion s root at → ⊥
    never at fault = accepted Recursion at (subst (λ o. OfRoot o (λ n. HasRecursion s n at)) (sym e) fault)

-- and so nothing that an instance asks leads back to itself
pub no_way_back : (s : Specification) (worth : Values) (root : Text) (p : Point) → IsAccepted s worth → root_of s ≡ Some root → LeadsBack (definitions s) root p → ⊥
no_way_back s worth root p accepted e back = told (definitions s) root p back (λ q cycle. no_cycle s worth root q accepted e cycle)
