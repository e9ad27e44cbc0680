-- Names that need each other have no sizes and no literal.
use Rattle.std.specs.Prelude.{◌≡◌, ℕ, zero, suc, false, if◌then◌else◌, List, [], ◌∷◌, Option, Some, None, codes}
use Rattle.std.proofs.Common.{refl, sym, ap, subst, ◌∙◌}
use Rattle.cddl_literal.specs.Numbers.{Meaning}
use Rattle.cddl_language.specs.Examples as E
use Rattle.cddl_language.specs.Kinds.{is_group}
use Rattle.cddl_language.specs.Literals.{Values, literal_by, literal_in, only_choice}
use Rattle.cddl_language.specs.Prelude.{plain, prelude}
use Rattle.cddl_language.specs.Controls.{of_size}
use Rattle.cddl_language.specs.Sizes.{Behind, a_type, Sizes, all_sizes, both_sizes, members_in, sizes_in, term_sizes}
use Rattle.cddl_language.specs.Substitution.{type_choices}
use Rattle.cddl_language.specs.Terms.{Term, Ref, Definition, name_of, named}

module _ (worth : Values) (ds : List Definition) (r : Ref) (t : Term) (k : is_group ds (name_of r) ≡ false) (is : type_choices ds r ≡ t ∷ []) where
  no_sizes : (next : Behind → Option Sizes) → next (a_type t) ≡ None → term_sizes of_size worth ds next (named r) ≡ None
  no_sizes next e = subst (λ b. (if b then None else all_sizes next (type_choices ds r)) ≡ None) (sym k) (ap (all_sizes next) is ∙ ap (λ o. both_sizes o (Some [])) e)

  no_literal : (next : Term → Option Meaning) → next t ≡ None → literal_by worth ds next (named r) ≡ None
  no_literal next e = subst (λ b. (if b then None else only_choice worth ds next (type_choices ds r)) ≡ None) (sym k) (ap (only_choice worth ds next) is ∙ e)

a_is_type : is_group E.in_circle (codes "a") ≡ false
unfolding prelude
a_is_type = refl

b_is_type : is_group E.in_circle (codes "b") ≡ false
unfolding prelude
b_is_type = refl

a_is : type_choices E.in_circle (E.a_ref (codes "a")) ≡ plain (codes "b") ∷ []
unfolding prelude
a_is = refl

b_is : type_choices E.in_circle (E.a_ref (codes "b")) ≡ plain (codes "a") ∷ []
unfolding prelude
b_is = refl

pub circle_has_no_sizes : (worth : Values) (n : ℕ) → (sizes_in worth E.in_circle n (plain (codes "a")) ≡ None) × (sizes_in worth E.in_circle n (plain (codes "b")) ≡ None)
circle_has_no_sizes worth zero = (no_sizes worth E.in_circle (E.a_ref (codes "a")) (plain (codes "b")) a_is_type a_is (λ u. None) refl, no_sizes worth E.in_circle (E.a_ref (codes "b")) (plain (codes "a")) b_is_type b_is (λ u. None) refl)
circle_has_no_sizes worth (suc n) =
    let h = circle_has_no_sizes worth n in
    (no_sizes worth E.in_circle (E.a_ref (codes "a")) (plain (codes "b")) a_is_type a_is (λ b. members_in of_size worth E.in_circle n b) h.1, no_sizes worth E.in_circle (E.a_ref (codes "b")) (plain (codes "a")) b_is_type b_is (λ b. members_in of_size worth E.in_circle n b) h.0)

pub circle_has_no_literal : (worth : Values) (n : ℕ) → (literal_in worth E.in_circle n (plain (codes "a")) ≡ None) × (literal_in worth E.in_circle n (plain (codes "b")) ≡ None)
circle_has_no_literal worth zero = (no_literal worth E.in_circle (E.a_ref (codes "a")) (plain (codes "b")) a_is_type a_is (λ u. None) refl, no_literal worth E.in_circle (E.a_ref (codes "b")) (plain (codes "a")) b_is_type b_is (λ u. None) refl)
circle_has_no_literal worth (suc n) =
    let h = circle_has_no_literal worth n in
    (no_literal worth E.in_circle (E.a_ref (codes "a")) (plain (codes "b")) a_is_type a_is (λ u. literal_in worth E.in_circle n u) h.1, no_literal worth E.in_circle (E.a_ref (codes "b")) (plain (codes "a")) b_is_type b_is (λ u. literal_in worth E.in_circle n u) h.0)
