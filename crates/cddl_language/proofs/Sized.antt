-- What controls by members say, and controls that compute a literal.
use Rattle.std.specs.Prelude.{◌↔◌, ◌≢◌}
use Rattle.std.proofs.Common.{◌≡◌, ◌∙◌, ℕ, suc, Bool, true, false, List, Option, Some, None, refl, sym, ap, subst}
use Rattle.cbor_data.specs.Same.{same_value}
use Rattle.cbor_data.specs.Value.{Value}
use Rattle.cddl_literal.specs.Numbers.{Meaning}
use Rattle.cddl_meaning.specs.Judges.{Answer, Yes, No, none_such, passed, missed, such_passed, such_missed}
use Rattle.cddl_meaning.specs.Forms.{passes}
use Rattle.cddl_language.specs.Controls.{Computation, Control, left_alone, left_and_right, held_item, held_sequence, compared, Membership, member, computed, computation_in, control_of}
use Rattle.cddl_language.specs.Language.{Saying, TermSays, control_node, equal_to, language, membership_test, such_as_member}
use Rattle.cddl_language.specs.Literals.{Values, computed_literal, controlled_literal, item_of, literal_of}
use Rattle.cddl_language.specs.Sizes.{Sizes}
use Rattle.cddl_language.specs.Terms.{Definition, Term, Text, control}
use Rattle.cddl_language.proofs.Compared.{equals_so}

module _ (worth : Values) (ds : List Definition) (a : Term) (p : ℕ) (x : Value) (m : Membership) (o : Option Sizes) (rs : Sizes) (e : o ≡ Some rs) where
  pub member_says : Saying (language worth ds) (such_as_member m o a) p x Yes ↔ (TermSays worth ds a p x Yes × (passes (membership_test m rs) x ≡ true))
  member_says = subst (λ u. Saying (language worth ds) (such_as_member m u a) p x Yes ↔ (TermSays worth ds a p x Yes × (passes (membership_test m rs) x ≡ true))) (sym e) (onwards, back)
    where
      onwards : Saying (language worth ds) (such_as_member m (Some rs) a) p x Yes → TermSays worth ds a p x Yes × (passes (membership_test m rs) x ≡ true)
      onwards (w, such_passed {w = u} h g) = ((u, h), g)

      back : TermSays worth ds a p x Yes × (passes (membership_test m rs) x ≡ true) → Saying (language worth ds) (such_as_member m (Some rs) a) p x Yes
      back ((u, h), g) = (_, such_passed h g)

  pub left_says_no : (far : ℕ) → TermSays worth ds a p x (No far) → Saying (language worth ds) (such_as_member m o a) p x (No far)
  left_says_no far k = subst (λ u. Saying (language worth ds) (such_as_member m u a) p x (No far)) (sym e) (suc k.0, none_such k.1)

  pub member_says_no : TermSays worth ds a p x Yes → passes (membership_test m rs) x ≡ false → Saying (language worth ds) (such_as_member m o a) p x (No p)
  member_says_no k g = subst (λ u. Saying (language worth ds) (such_as_member m u a) p x (No p)) (sym e) (_, such_missed k.1 g)

computes : (o : Option Control) (c : Computation) → computation_in o ≡ Some c → o ≡ Some (computed c)
computes None c e = cc
computes (Some left_alone) c e = cc
computes (Some left_and_right) c e = cc
computes (Some held_item) c e = cc
computes (Some held_sequence) c e = cc
computes (Some (compared d)) c e = cc
computes (Some (member m)) c e = cc
computes (Some (computed d)) c e = ap Some (ap computed same)
  where
    same : d ≡ c
    same = cc

module _ (worth : Values) (ds : List Definition) (a b : Term) (n : Text) (c : Computation) (e : computation_in (control_of n) ≡ Some c) where
  pub literal_is : literal_of worth ds (control a n b) ≡ computed_literal c (literal_of worth ds a) (literal_of worth ds b)
  literal_is = ap (λ o. controlled_literal o (literal_of worth ds a) (literal_of worth ds b)) (computes (control_of n) c e)

  module _ (m : Meaning) (p : ℕ) (x : Value) (is : literal_of worth ds (control a n b) ≡ Some m) where
    so_named : (s : Answer) → Saying (language worth ds) (equal_to (Some m)) p x s ↔ TermSays worth ds (control a n b) p x s
    so_named s = subst (λ o. Saying (language worth ds) (equal_to (Some m)) p x s ↔ Saying (language worth ds) (control_node worth ds o a b) p x s) (sym (computes (control_of n) c e)) (subst (λ u. Saying (language worth ds) (equal_to (Some m)) p x s ↔ Saying (language worth ds) (equal_to u) p x s) (sym is ∙ literal_is) (λ h. h, λ h. h))

    pub literal_says : TermSays worth ds (control a n b) p x Yes ↔ (x ≡ item_of m)
    literal_says = (λ h. onwards ((so_named Yes).1 h), λ q. (so_named Yes).0 (1, passed ((equals_so x m).1 q)))
      where
        onwards : Saying (language worth ds) (equal_to (Some m)) p x Yes → x ≡ item_of m
        onwards (w, passed g) = (equals_so x m).0 g

    pub literal_says_no : x ≢ item_of m → TermSays worth ds (control a n b) p x (No p)
    literal_says_no f = (so_named (No p)).0 (1, missed (not_same (same_value x (item_of m)) (λ g. f ((equals_so x m).0 g))))
      where
        not_same : (t : Bool) → (t ≡ true → ⊥) → t ≡ false
        not_same true g = absurd (g refl)
        not_same false g = refl
