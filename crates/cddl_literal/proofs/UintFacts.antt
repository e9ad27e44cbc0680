-- Which number a spelling is.
use Rattle.std.proofs.Common.{◌≡◌, ◌≢◌, ℕ, zero, suc, ◌+◌, ◌-◌, ◌<◌, ◌≤◌, ◌^◌, ◌⊎◌, inl, inr, Bool, true, false, List, Option, Some, None, slice_index, sym, refl, ap, subst, ◌∙◌, arith, if◌then◌else◌, Result, Ok, Err, SomeIff}
use Rattle.std.specs.Result.{result_ok, OkIff}
use Rattle.std.proofs.lemmas.Bool.{false≢true, cases_lt, cases_eq, cases_Bool}
use Rattle.std.proofs.lemmas.Bool.Decides.{nat_tests}
use Rattle.lists.proofs.Lemmas.{test_less as nat_lt_yes, test_not_less as nat_lt_no}
use Rattle.cddl_literal.specs.Bytes.{is_decimal_digit, is_x, is_b}
use Rattle.cddl_literal.specs.Numbers.{number_in, IsUint, decimal, hexadecimal, binary, IsSigned, Meaning, UintOf, NintOf, signed}

x_not_b : (b : ℕ) → is_x b ≡ true → is_b b ≡ true → ⊥
x_not_b b h k = grind (arith, nat_tests)

pub decimal_of : {s : List ℕ} {a b n : ℕ} → IsUint s a b n → (slice_index s a ≢ 48) ⊎ (b < a + 2) → n ≡ number_in 10 s a b
decimal_of (decimal r z e) h = e
decimal_of (hexadecimal o x r e) (inl h) = absurd (h o)
decimal_of (hexadecimal o x r e) (inr h) = absurd (let some = r.nonempty in omega arith)
decimal_of (binary o x r e) (inl h) = absurd (h o)
decimal_of (binary o x r e) (inr h) = absurd (let some = r.nonempty in omega arith)

pub hexadecimal_of : {s : List ℕ} {a b n : ℕ} → IsUint s a b n → slice_index s a ≡ 48 → a + 2 ≤ b → is_x (slice_index s (a + 1)) ≡ true → n ≡ number_in 16 s (a + 2) b
hexadecimal_of (decimal r z e) o long x = absurd (let one = z o in omega arith)
hexadecimal_of (hexadecimal o2 x2 r e) o long x = e
hexadecimal_of {s} {a} (binary o2 x2 r e) o long x = absurd (x_not_b (slice_index s (a + 1)) x x2)

pub binary_of : {s : List ℕ} {a b n : ℕ} → IsUint s a b n → slice_index s a ≡ 48 → a + 2 ≤ b → is_x (slice_index s (a + 1)) ≡ false → n ≡ number_in 2 s (a + 2) b
binary_of (decimal r z e) o long x = absurd (let one = z o in omega arith)
binary_of (hexadecimal o2 x2 r e) o long x = absurd (false≢true (sym x ∙ x2))
binary_of (binary o2 x2 r e) o long x = e

-- a spelling is one number
pub uint_one : {s : List ℕ} {a b m n : ℕ} → IsUint s a b m → IsUint s a b n → n ≡ m
uint_one {s} {a} {b} h k =
    elim (cases_eq (slice_index s a) 48) [
      | inl o ↦ elim (cases_lt b (a + 2)) [
        | inl short ↦ decimal_of k (inr short) ∙ sym (decimal_of h (inr short))
        | inr long ↦ elim (cases_Bool (is_x (slice_index s (a + 1)))) [
          | inl x ↦ hexadecimal_of k o long x ∙ sym (hexadecimal_of h o long x)
          | inr x ↦ binary_of k o long x ∙ sym (binary_of h o long x)
        ]
      ]
      | inr o ↦ decimal_of k (inl o) ∙ sym (decimal_of h (inl o))
    ]

digit_45 : (b : ℕ) → is_decimal_digit b ≡ true → b ≢ 45
digit_45 b h = grind (arith, nat_tests)

-- a uint begins with a digit
pub uint_no_minus : {s : List ℕ} {a b n : ℕ} → IsUint s a b n → slice_index s a ≢ 45
uint_no_minus {s} {a} (decimal r z e) = digit_45 (slice_index s a) (r.holds a (omega arith) r.nonempty)
uint_no_minus (hexadecimal o x r e) = λ h. omega arith
uint_no_minus (binary o x r e) = λ h. omega arith

pub signed_one : (s : List ℕ) (a b m n : ℕ) (p q : Bool) → IsSigned p s a b m → IsSigned q s a b n → (q ≡ p) × (n ≡ m)
signed_one s a b m n false false h k = (refl, uint_one h k)
signed_one s a b m n true true h k = (refl, uint_one h.1 k.1)
signed_one s a b m n false true h k = absurd (uint_no_minus h k.0)
signed_one s a b m n true false h k = absurd (uint_no_minus k h.0)

pub uint_past : {s : List ℕ} {a b n : ℕ} → IsUint s a b n → a < b
uint_past (decimal r z e) = r.nonempty
uint_past (hexadecimal o x r e) = let some = r.nonempty in omega arith
uint_past (binary o x r e) = let some = r.nonempty in omega arith

pub small_uint : (n : ℕ) → n < 2 ^ 64 → Some (UintOf n) ≡ signed false n
small_uint n h = sym (ap (λ b. if b then Some (UintOf n) else None) (nat_lt_yes n (2 ^ 64) h))

pub large_uint : (n : ℕ) → (n < 2 ^ 64 → ⊥) → None ≡ signed false n
large_uint n h = sym (ap (λ b. if b then Some (UintOf n) else None) (nat_lt_no n (2 ^ 64) (omega arith)))

pub zero_minus : (n : ℕ) → n ≡ 0 → Some (UintOf 0) ≡ signed true n
zero_minus zero h = refl
zero_minus (suc n) h = absurd (omega arith)

pub small_nint : (n : ℕ) → n ≢ 0 → n ≤ 2 ^ 64 → Some (NintOf (n - 1)) ≡ signed true n
small_nint zero h le = absurd (h refl)
small_nint (suc n) h le =
    let same : suc n - 1 ≡ n = omega arith in
    ap (λ k. Some (NintOf k)) same ∙ sym (ap (λ b. if b then Some (NintOf n) else None) (nat_lt_yes n (2 ^ 64) (omega arith)))

pub large_nint : (n : ℕ) → (n ≤ 2 ^ 64 → ⊥) → None ≡ signed true n
large_nint zero h = absurd (h (omega arith))
large_nint (suc n) h = sym (ap (λ b. if b then Some (NintOf n) else None) (nat_lt_no n (2 ^ 64) (omega arith)))

-- what is so of each reading with the sign that is there is so of each
pub without_minus : (s : List ℕ) (a b : ℕ) (o : Option Meaning) → slice_index s a ≢ 45 → ((n : ℕ) → IsUint s a b n → o ≡ signed false n) → (minus : Bool) (n : ℕ) → IsSigned minus s a b n → o ≡ signed minus n
without_minus s a b o sign h false n k = h n k
without_minus s a b o sign h true n k = absurd (sign k.0)

pub with_minus : (s : List ℕ) (a b : ℕ) (o : Option Meaning) → slice_index s a ≡ 45 → ((n : ℕ) → IsUint s (a + 1) b n → o ≡ signed true n) → (minus : Bool) (n : ℕ) → IsSigned minus s a b n → o ≡ signed minus n
with_minus s a b o sign h false n k = absurd (uint_no_minus k sign)
with_minus s a b o sign h true n k = h n k.1

pub some_no_minus : (s : List ℕ) (a b : ℕ) → slice_index s a ≢ 45 → (minus : Bool) (n : ℕ) → IsSigned minus s a b n → IsUint s a b n
some_no_minus s a b sign false n k = k
some_no_minus s a b sign true n k = absurd (sign k.0)

pub some_minus : (s : List ℕ) (a b : ℕ) → slice_index s a ≡ 45 → (minus : Bool) (n : ℕ) → IsSigned minus s a b n → IsUint s (a + 1) b n
some_minus s a b sign false n k = absurd (uint_no_minus k sign)
some_minus s a b sign true n k = k.1

pub signed_past : (s : List ℕ) (a b : ℕ) (minus : Bool) (n : ℕ) → IsSigned minus s a b n → a < b
signed_past s a b false n k = uint_past k
signed_past s a b true n k = let past = uint_past k.1 in omega arith

pub ok_small : {E : Type 0} (r : Result ℕ E) (o : Option ℕ) (m n k : ℕ) → o ≡ result_ok r → OkIff r (m < k) m → m ≡ n → SomeIff o (n < k) n
ok_small (Ok x) o m n k e h same = subst (λ p. SomeIff p (n < k) n) (sym e) (omega (arith, h.0), h.1 ∙ same)
ok_small (Err x) o m n k e h same = subst (λ p. SomeIff p (n < k) n) (sym e) (λ lt. h (omega arith))
