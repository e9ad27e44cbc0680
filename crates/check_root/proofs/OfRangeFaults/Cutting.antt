-- A uint is the same in a part of a source that has it.
use Rattle.std.proofs.Common.{◌≡◌, ℕ, ◌+◌, ◌-◌, ◌<◌, ◌≤◌, Bool, true, List, [], ◌∷◌, take, drop, length, slice_index, refl, sym, ap, ◌∙◌, arith, drop-cons}
use Rattle.std.specs.Prelude.{slice_range}
use Rattle.std.proofs.lemmas.List.{drop-take, drop-drop, take-take, get_or-take, get_or-drop, length-take-le, length-drop}
use Rattle.cddl_literal.specs.Bytes.{Each, IsRun, is_x, is_b}
use Rattle.cddl_literal.specs.Numbers.{number_after, number_in, IsUint, decimal, hexadecimal, binary}

-- t is the n bytes of s from a on
pub record IsPart (s t : List ℕ) (a n : ℕ) : Type 0 where
  pub at : (k : ℕ) → k < n → slice_index t k ≡ slice_index s (a + k)
  pub range : (x y : ℕ) → x ≤ y → y ≤ n → slice_range t x y ≡ slice_range s (a + x) (a + y)
  pub whole : length t ≡ n

pub part_of : (s : List ℕ) (a b : ℕ) → a ≤ b → b ≤ length s → IsPart s (slice_range s a b) a (b - a)
part_of s a b le in_source = record {
  at = λ k lt. get_or-take (b - a) (drop a s) k 0 lt ∙ get_or-drop a s k 0;
  range = λ x y low high.
      let rest : b - a ≡ x + (b - a - x) = omega arith in
      let size : y - x ≡ a + y - (a + x) = omega arith in
      ap (λ n. take (y - x) (drop x (take n (drop a s)))) rest
      ∙ ap (take (y - x)) (drop-take x (b - a - x) (drop a s))
      ∙ take-take (y - x) (b - a - x) (drop x (drop a s)) (omega arith)
      ∙ ap (take (y - x)) (drop-drop x a s)
      ∙ ap (λ n. take n (drop (a + x) s)) size;
  whole = length-take-le (b - a) (drop a s) (omega (arith, length-drop a s));
}

module _ (s t : List ℕ) (a n : ℕ) (part : IsPart s t a n) where
  at_place : (k p : ℕ) → p ≡ a + k → k < n → slice_index t k ≡ slice_index s p
  at_place k p e lt = part.at k lt ∙ ap (λ m. slice_index s m) (sym e)

  pub byte_cut : (k p c : ℕ) → p ≡ a + k → k < n → slice_index s p ≡ c → slice_index t k ≡ c
  byte_cut k p c e lt h = at_place k p e lt ∙ h

  test_cut : (f : ℕ → Bool) (k p : ℕ) → p ≡ a + k → k < n → f (slice_index s p) ≡ true → f (slice_index t k) ≡ true
  test_cut f k p e lt h = ap f (at_place k p e lt) ∙ h

  each_cut : (f : ℕ → Bool) (x y p q : ℕ) → p ≡ a + x → q ≡ a + y → y ≤ n → Each f s p q → Each f t x y
  each_cut f x y p q e g le h = λ k low high. test_cut f k (a + k) refl (omega arith) (h (a + k) (omega arith) (omega arith))

  run_cut : (f : ℕ → Bool) (x y p q : ℕ) → p ≡ a + x → q ≡ a + y → y ≤ n → IsRun f s p q → IsRun f t x y
  run_cut f x y p q e g le h = record { nonempty = (let some = h.nonempty in omega arith); holds = each_cut f x y p q e g le h.holds }

  number_cut : (base x y p q m : ℕ) → p ≡ a + x → q ≡ a + y → x ≤ y → y ≤ n → m ≡ number_in base s p q → m ≡ number_in base t x y
  number_cut base x y p q m e g le in_part h = h ∙ ap (number_after base 0) (ap (λ k. slice_range s k q) e ∙ ap (λ k. slice_range s (a + x) k) g ∙ sym (part.range x y le in_part))

  pub uint_cut : (x y p q m : ℕ) → p ≡ a + x → q ≡ a + y → y ≤ n → IsUint s p q m → IsUint t x y m
  uint_cut x y p q m e g le (decimal r z h) =
      let some = r.nonempty in
      decimal (run_cut _ x y p q e g le r) (λ b. let one = z (sym (at_place x p e (omega arith)) ∙ b) in omega arith) (number_cut 10 x y p q m e g (omega arith) le h)
  uint_cut x y p q m e g le (hexadecimal o b r h) =
      let some = r.nonempty in
      hexadecimal (byte_cut x p 48 e (omega arith) o) (test_cut is_x (x + 1) (p + 1) (omega arith) (omega arith) b) (run_cut _ (x + 2) y (p + 2) q (omega arith) g le r) (number_cut 16 (x + 2) y (p + 2) q m (omega arith) g (omega arith) le h)
  uint_cut x y p q m e g le (binary o b r h) =
      let some = r.nonempty in
      binary (byte_cut x p 48 e (omega arith) o) (test_cut is_b (x + 1) (p + 1) (omega arith) (omega arith) b) (run_cut _ (x + 2) y (p + 2) q (omega arith) g le r) (number_cut 2 (x + 2) y (p + 2) q m (omega arith) g (omega arith) le h)

-- one byte of a source
pub one_byte : (s : List ℕ) (a b c : ℕ) → a < length s → b ≡ a + 1 → slice_index s a ≡ c → slice_range s a b ≡ c ∷ []
one_byte s a b c in_source e h =
    let one : b - a ≡ 1 = omega arith in
    ap (λ n. take n (drop a s)) one ∙ ap (take 1) (drop-cons s a 0 in_source) ∙ ap (λ x. x ∷ []) h
