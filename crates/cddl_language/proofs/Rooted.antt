-- The root of an accepted specification is a type.
use Rattle.std.proofs.Common.{◌≡◌, ◌≢◌, Bool, true, false, if◌then◌else◌, List, [], ◌∷◌, ◌++◌, Option, Some, None, inl, refl, sym, ap, subst}
use Rattle.cddl_token.specs.declared.Code.TheVariants.{BadRoot, NoRoot}
use Rattle.tree_nodes.specs.Syntax.Syntax as S
use Rattle.cddl_language.specs.Environment.{counting, definitions_of, has_any, has_equals, is_in_prelude, is_same, named_so}
use Rattle.cddl_language.specs.Faults.{IsAccepted, Specification, definitions, first_rule, no_such, root_of, rules}
use Rattle.cddl_language.specs.Kinds.{is_group}
use Rattle.cddl_language.specs.Literals.{Values}
use Rattle.cddl_language.specs.Prelude.{prelude}
use Rattle.cddl_language.specs.Reading.{definition_of, definitions_in, name_at, name_in}
use Rattle.cddl_language.specs.Terms.{Definition, Text}
use Rattle.cddl_language.specs.Environment.{most_names}
use Rattle.cddl_language.proofs.MapsStand.{known_type}

none_named : (n : Text) (rs : List S.Rule) → first_rule rs n ≡ None → named_so n (definitions_in rs) ≡ []
none_named n [] e = refl
none_named n (r ∷ rs) e = by (is_same (name_in r) n) e (none_named n rs)
  where
    by : (b : Bool) → (if b then Some r else first_rule rs n) ≡ None → (first_rule rs n ≡ None → named_so n (definitions_in rs) ≡ []) → (if b then definition_of r ∷ named_so n (definitions_in rs) else named_so n (definitions_in rs)) ≡ []
    by true e h = cc
    by false e h = h e

known : (ds : List Definition) (n : Text) → named_so n ds ≡ [] → definitions_of ds n ≢ [] → is_in_prelude n ≡ true
known ds n e some = by (named_so n prelude) refl
  where
    by : (xs : List Definition) → named_so n prelude ≡ xs → has_any xs ≡ true
    by (x ∷ xs) i = refl
    by [] i = absurd (some (subst (λ us. (if has_equals us then [] else named_so n prelude) ++ counting false us ≡ []) (sym e) (ap (λ (us : List Definition). us ++ []) i)))

pub root_is_type : (s : Specification) (worth : Values) (root : Text) → IsAccepted s worth → root_of s ≡ Some root → is_group (definitions s) root ≡ false
root_is_type s worth root accepted e = by (first_rule (rules s) root) refl
  where
    no_group : (r : S.Rule) → first_rule (rules s) root ≡ Some r → (b : Bool) → is_group (definitions s) root ≡ b → b ≡ false
    no_group r f false g = refl
    no_group r f true g = absurd (accepted BadRoot (name_at r) (record { root = root; rule = r; rooted = e; first = f; bad = inl g; offset = refl }))

    by : (o : Option S.Rule) → first_rule (rules s) root ≡ o → is_group (definitions s) root ≡ false
    by (Some r) f = no_group r f (is_group (definitions s) root) refl
    by None f = known_type (most_names (definitions s)) (definitions s) root (known (definitions s) root (none_named root (rules s) f) (λ i. accepted NoRoot 0 (no_such e i refl)))
