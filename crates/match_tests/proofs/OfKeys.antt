-- Which entries are passed over by what is seen at once.
use Rattle.std.proofs.Common.{◌≡◌, ◌≢◌, ℕ, zero, suc, List, [], ◌∷◌, length, Bool, true, false, not, nat_eq, refl, sym, ap, ◌∙◌, arith}
use Rattle.std.specs.Prelude.{◌==◌, Option, Some, None, IsTrue}
use Rattle.std.proofs.lemmas.Bool.Decides.{nat_tests}
use Rattle.lists.proofs.Lemmas.{both}
use Rattle.cbor_data.specs.Same.{same_list, same_value}
use Rattle.cbor_data.specs.Value.{Value}
use Rattle.cddl_meaning.specs.Forms.{Node, Plain, equals, by_forms, is_other, is_passed_over, key_by, key_in, most_forms}

as_long : (s t : List ℕ) → same_list s t ≡ true → length s ≡ length t
as_long [] [] e = refl
as_long (x ∷ s) (y ∷ t) e = ap suc (as_long s t (both (x == y) (same_list s t) e).1)
as_long _ _ e = absurd (cc)

-- Strings of other lengths are others.
pub other_length : (m n : ℕ) (s t : List ℕ) → m ≡ length s → n ≡ length t → IsTrue (not (nat_eq m n)) → same_list s t ≡ false
other_length m n s t i j h = by (same_list s t) refl
  where
    differ : (a b : ℕ) → not (nat_eq a b) ≡ true → a ≢ b
    differ a b e = grind (arith, nat_tests, e)

    by : (b : Bool) → same_list s t ≡ b → b ≡ false
    by true e = absurd (differ m n h (i ∙ as_long s t e ∙ sym j))
    by false e = refl

shows : {N G : Type 0} (type_at : N → Node N G) (k : ℕ) (n : N) (v : Value) → type_at n ≡ Plain (equals v) → key_in type_at k n ≡ Some v
unfolding key_in
shows type_at zero n v e = ap (λ f. key_by (λ m. None) f) e
shows type_at (suc k) n v e = ap (λ f. key_by (λ m. key_in type_at k m) f) e

-- An entry whose key type is a literal is passed over by another value.
pub passed_so : {N G : Type 0} (type_at : N → Node N G) (n : N) (v k : Value) → type_at n ≡ Plain (equals v) → same_value k v ≡ false → is_passed_over (by_forms type_at) n k ≡ true
passed_so type_at n v k e h = ap (λ o. is_other o k) (shows type_at most_forms n v e) ∙ ap not h
