-- From what a text spells to the value of a literal.
use Rattle.std.proofs.Common.{◌≡◌, ℕ, List, Option, Some, None, length, sym, refl, ap, ◌∙◌}
use Rattle.cddl_literal.specs.Numbers.{Meaning, TextOf, BytesOf, IsNumber}
use Rattle.cddl_literal.specs.Literals.{IsText, IsBytes}
use Rattle.cddl_language.specs.Terms as L
use Rattle.cddl_language.specs.Literals.{Means}
use Rattle.check_literals.specs.Values.Values.{Answers}

pub text_none : (s : List ℕ) → ((v : List ℕ) → IsText s 0 (length s) v → ⊥) → (m : Meaning) → Means (L.text s) m → ⊥
text_none s bad m h = bad h.0 h.1

pub text_some : (s v : List ℕ) → IsText s 0 (length s) v → Means (L.text s) (TextOf v)
text_some s v h = (v, h, refl)

pub bytes_none : (s : List ℕ) → ((v : List ℕ) → IsBytes s 0 (length s) v → ⊥) → (m : Meaning) → Means (L.bytes s) m → ⊥
bytes_none s bad m h = bad h.0 h.1

pub bytes_some : (s v : List ℕ) → IsBytes s 0 (length s) v → Means (L.bytes s) (BytesOf v)
bytes_some s v h = (v, h, refl)

module _ (number_one : (s : List ℕ) (a b : ℕ) (m n : Meaning) → IsNumber s a b m → IsNumber s a b n → n ≡ m) (text_one : (s : List ℕ) (a b c : ℕ) (v w : List ℕ) → IsText s a b v → IsText s a c w → (c ≡ b) × (w ≡ v)) (bytes_one : (s : List ℕ) (a b c : ℕ) (v w : List ℕ) → IsBytes s a b v → IsBytes s a c w → (c ≡ b) × (w ≡ v)) where
  pub one_value : (w : L.Literal) (m n : Meaning) → Means w m → Means w n → n ≡ m
  one_value (L.number s) m n h k = number_one s 0 (length s) m n h k
  one_value (L.text s) m n (v, h, e) (w, k, f) = f ∙ ap TextOf (text_one s 0 (length s) (length s) v w h k).1 ∙ sym e
  one_value (L.bytes s) m n (v, h, e) (w, k, f) = f ∙ ap BytesOf (bytes_one s 0 (length s) (length s) v w h k).1 ∙ sym e

  pub one_answer : (w : L.Literal) (m : Meaning) (o : Option Meaning) → Means w m → Answers (Means w) o → o ≡ Some m
  one_answer w m (Some n) h k = ap Some (one_value w m n h k)
  one_answer w m None h k = absurd (k m h)
