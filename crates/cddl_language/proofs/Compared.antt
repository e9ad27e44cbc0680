-- What comparisons with a literal say.
use Rattle.std.specs.Prelude.{◌↔◌, ◌≢◌, not}
use Rattle.std.proofs.Common.{◌≡◌, ℕ, suc, Bool, true, false, ◌==◌, List, [], ◌∷◌, Option, Some, None, refl, sym, ap, ap₂, subst, arith}
use Rattle.std.proofs.lemmas.Bool.Decides.{nat_tests}
use Rattle.lists.proofs.Lemmas.{both as both_so}
use Rattle.cbor_data.specs.Same.{same_list, same_value}
use Rattle.cbor_data.specs.Value.{Value, uint, nint, bytes, text}
use Rattle.cbor_data.proofs.Lemmas.{same_value-laws}
use Rattle.cddl_literal.specs.Numbers.{Meaning, UintOf, NintOf, TextOf, BytesOf}
use Rattle.cddl_meaning.specs.Judges.{Answer, Yes, No, none_such, such_passed, such_missed}
use Rattle.cddl_meaning.specs.Forms.{passes}
use Rattle.cddl_language.specs.Controls.{Comparison, is_ordering, Control, left_alone, left_and_right, held_item, held_sequence, compared, member, computed, comparison_in, control_of}
use Rattle.cddl_language.specs.Language.{Saying, TermSays, comparand, compared_test, control_node, language, such_as_compares}
use Rattle.cddl_language.specs.Literals.{Values, item_of, literal_of}
use Rattle.cddl_language.specs.Terms.{Definition, Term, Text, control}

-- The test of a literal's value is passed by that value alone.

number : (m n : ℕ) → (m == n) ≡ true → m ≡ n
number m n e = grind (arith, nat_tests)

list : (s t : List ℕ) → same_list s t ≡ true → s ≡ t
list [] [] e = refl
list (x ∷ s) (y ∷ t) e = let b = both_so (x == y) (same_list s t) e in ap₂ (λ a r. a ∷ r) (number x y b.0) (list s t b.1)
list _ _ e = absurd (cc)

same_uint : (x : Value) (n : ℕ) → same_value x (uint n) ≡ true → x ≡ uint n
same_uint (uint m) n e = ap uint (number m n e)
same_uint _ n e = absurd (cc)

same_nint : (x : Value) (n : ℕ) → same_value x (nint n) ≡ true → x ≡ nint n
same_nint (nint m) n e = ap nint (number m n e)
same_nint _ n e = absurd (cc)

same_text : (x : Value) (t : List ℕ) → same_value x (text t) ≡ true → x ≡ text t
same_text (text s) t e = ap text (list s t e)
same_text _ t e = absurd (cc)

same_bytes : (x : Value) (t : List ℕ) → same_value x (bytes t) ≡ true → x ≡ bytes t
same_bytes (bytes s) t e = ap bytes (list s t e)
same_bytes _ t e = absurd (cc)

same_literal : (x : Value) (m : Meaning) → same_value x (item_of m) ≡ true → x ≡ item_of m
same_literal x (UintOf n) e = same_uint x n e
same_literal x (NintOf n) e = same_nint x n e
same_literal x (TextOf t) e = same_text x t e
same_literal x (BytesOf t) e = same_bytes x t e

literal_passes : (x : Value) (m : Meaning) → x ≡ item_of m → same_value x (item_of m) ≡ true
literal_passes x m e = subst (λ z. same_value x z ≡ true) e ((same_value-laws (λ (v : Value). v)).refl x)

pub equals_so : (x : Value) (m : Meaning) → (same_value x (item_of m) ≡ true) ↔ (x ≡ item_of m)
equals_so x m = (same_literal x m, literal_passes x m)

pub differs_so : (x : Value) (m : Meaning) → (not (same_value x (item_of m)) ≡ true) ↔ (x ≢ item_of m)
differs_so x m = (λ e f. missed (same_value x (item_of m)) e (literal_passes x m f), λ f. passed (same_value x (item_of m)) (λ e. f (same_literal x m e)))
  where
    missed : (b : Bool) → not b ≡ true → b ≡ true → ⊥
    missed true e f = cc
    missed false e f = cc

    passed : (b : Bool) → (b ≡ true → ⊥) → not b ≡ true
    passed true g = absurd (g refl)
    passed false g = refl

module _ (worth : Values) (ds : List Definition) (a : Term) (p : ℕ) (x : Value) (c : Comparison) where
  -- where there is a value with which the item is compared so
  with_value : (P : Option Value → Type 0) (o : Option Value) (v : Value) → o ≡ Some v → P (Some v) → P o
  with_value P o v e h = subst P (sym e) h

  pub passes_says : (o : Option Value) (v : Value) (Q : Type 0) → o ≡ Some v → (passes (compared_test c v) x ≡ true) ↔ Q → Saying (language worth ds) (such_as_compares c o a) p x Yes ↔ (TermSays worth ds a p x Yes × Q)
  passes_says o v Q e q = with_value (λ o. Saying (language worth ds) (such_as_compares c o a) p x Yes ↔ (TermSays worth ds a p x Yes × Q)) o v e (onwards, back)
    where
      onwards : Saying (language worth ds) (such_as_compares c (Some v) a) p x Yes → TermSays worth ds a p x Yes × Q
      onwards (w, such_passed {w = u} h g) = ((u, h), q.0 g)

      back : TermSays worth ds a p x Yes × Q → Saying (language worth ds) (such_as_compares c (Some v) a) p x Yes
      back ((u, h), g) = (_, such_passed h (q.1 g))

  pub left_says_no : (o : Option Value) (v : Value) (far : ℕ) → o ≡ Some v → TermSays worth ds a p x (No far) → Saying (language worth ds) (such_as_compares c o a) p x (No far)
  left_says_no o v far e k = with_value (λ o. Saying (language worth ds) (such_as_compares c o a) p x (No far)) o v e (suc k.0, none_such k.1)

  pub test_says_no : (o : Option Value) (v : Value) → o ≡ Some v → TermSays worth ds a p x Yes → passes (compared_test c v) x ≡ false → Saying (language worth ds) (such_as_compares c o a) p x (No p)
  test_says_no o v e k g = with_value (λ o. Saying (language worth ds) (such_as_compares c o a) p x (No p)) o v e (_, such_missed k.1 g)

compares : (o : Option Control) (c : Comparison) → comparison_in o ≡ Some c → o ≡ Some (compared c)
compares None c e = cc
compares (Some left_alone) c e = cc
compares (Some left_and_right) c e = cc
compares (Some held_item) c e = cc
compares (Some held_sequence) c e = cc
compares (Some (compared d)) c e = ap Some (ap compared same)
  where
    same : d ≡ c
    same = cc
compares (Some (member m)) c e = cc
compares (Some (computed d)) c e = cc

module _ (worth : Values) (ds : List Definition) (a b : Term) (n : Text) (c : Comparison) (v : Value) (p : ℕ) (x : Value) (e : comparison_in (control_of n) ≡ Some c) (g : comparand (is_ordering c) (literal_of worth ds b) ≡ Some v) where
  so_named : (far : Answer) → Saying (language worth ds) (such_as_compares c (comparand (is_ordering c) (literal_of worth ds b)) a) p x far → TermSays worth ds (control a n b) p x far
  so_named far h = subst (λ o. Saying (language worth ds) (control_node worth ds o a b) p x far) (sym (compares (control_of n) c e)) h

  pub shows_left : (far : ℕ) → TermSays worth ds a p x (No far) → TermSays worth ds (control a n b) p x (No far)
  shows_left far k = so_named (No far) (left_says_no worth ds a p x c (comparand (is_ordering c) (literal_of worth ds b)) v far g k)

  pub shows_missed : TermSays worth ds a p x Yes → passes (compared_test c v) x ≡ false → TermSays worth ds (control a n b) p x (No p)
  shows_missed k h = so_named (No p) (test_says_no worth ds a p x c (comparand (is_ordering c) (literal_of worth ds b)) v g k h)
