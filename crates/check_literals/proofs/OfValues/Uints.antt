-- When a text is a uint, with a sign or not.
use Rattle.std.proofs.Common.{◌≡◌, ◌≢◌, ℕ, ◌+◌, ◌<◌, Bool, true, false, List, Option, Some, None, slice_index, sym, refl, ap, ◌∙◌, arith}
use Rattle.std.proofs.lemmas.Bool.Decides.{nat_tests}
use Rattle.lists.proofs.Lemmas.{no_some as none_some}
use Rattle.hex.specs.Hex.{is_hex_digit}
use Rattle.cddl_literal.specs.Bytes.{IsRun, is_binary_digit, is_decimal_digit, is_x, is_b}
use Rattle.cddl_literal.specs.Numbers.{IsUint, decimal, hexadecimal, binary, IsSigned, IsNumber, Meaning, signed}
use Rattle.check_literals.specs.Values.Values.{Answers}

digit_0 : (b : ℕ) → b ≡ 48 → is_decimal_digit b ≡ true
digit_0 b h = ap is_decimal_digit h

digit_45 : (b : ℕ) → is_decimal_digit b ≡ true → b ≢ 45
digit_45 b h = grind (arith, nat_tests)

pub decimal_yes : (s : List ℕ) (a b : ℕ) → slice_index s a ≢ 48 → IsRun is_decimal_digit s a b → (n : ℕ) × IsUint s a b n
decimal_yes s a b h r = (_, decimal r (λ o. absurd (h o)) refl)

pub hex_yes : (s : List ℕ) (a b : ℕ) → slice_index s a ≡ 48 → is_x (slice_index s (a + 1)) ≡ true → IsRun is_hex_digit s (a + 2) b → (n : ℕ) × IsUint s a b n
hex_yes s a b o x r = (_, hexadecimal o x r refl)

pub binary_yes : (s : List ℕ) (a b : ℕ) → slice_index s a ≡ 48 → is_b (slice_index s (a + 1)) ≡ true → IsRun is_binary_digit s (a + 2) b → (n : ℕ) × IsUint s a b n
binary_yes s a b o x r = (_, binary o x r refl)

pub zero_yes : (s : List ℕ) (a b : ℕ) → slice_index s a ≡ 48 → b ≡ a + 1 → (n : ℕ) × IsUint s a b n
zero_yes s a b o e =
    let some : a < b = omega arith in
    (_, decimal (record { nonempty = some; holds = λ i le lt. let same : i ≡ a = omega arith in digit_0 (slice_index s i) (ap (slice_index s) same ∙ o) }) (λ h. e) refl)

uint_no_minus : {s : List ℕ} {a b n : ℕ} → IsUint s a b n → slice_index s a ≢ 45
uint_no_minus {s} {a} (decimal r z e) = digit_45 (slice_index s a) (r.holds a (omega arith) r.nonempty)
uint_no_minus (hexadecimal o x r e) = λ h. omega arith
uint_no_minus (binary o x r e) = λ h. omega arith

pub minus_no : (s : List ℕ) (b : ℕ) → slice_index s 0 ≡ 45 → ((n : ℕ) → IsUint s 1 b n → ⊥) → (minus : Bool) (n : ℕ) → IsSigned minus s 0 b n → ⊥
minus_no s b h bad false n k = uint_no_minus k h
minus_no s b h bad true n k = bad n k.1

pub plain_no : (s : List ℕ) (b : ℕ) → slice_index s 0 ≢ 45 → ((n : ℕ) → IsUint s 0 b n → ⊥) → (minus : Bool) (n : ℕ) → IsSigned minus s 0 b n → ⊥
plain_no s b h bad false n k = bad n k
plain_no s b h bad true n k = h k.0

abbrev is_some : {A : Type 0} → Option A → Bool
is_some None = false
is_some (Some a) = true

pub number_answer : (s : List ℕ) (b : ℕ) (o : Option Meaning) (minus : Bool) (n : ℕ) → IsSigned minus s 0 b n → ((p : Bool) (k : ℕ) → IsSigned p s 0 b k → o ≡ signed p k) → Answers (IsNumber s 0 b) o
number_answer s b (Some m) minus n k h = (minus, n, k, sym (h minus n k))
number_answer s b None minus n k h = λ m x. none_some (h x.0 x.1 x.2 ∙ x.3)
