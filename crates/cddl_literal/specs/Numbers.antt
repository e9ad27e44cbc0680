-- Numbers (RFC 8610, appendix B: uint, int): what spells them, and which number is spelled.
use Rattle.std.specs.Prelude.{◌≡◌, ℕ, zero, suc, ◌+◌, ◌*◌, ◌^◌, nat_lt, Bool, true, false, if◌then◌else◌, List, [], ◌∷◌, slice_index, slice_range, Option, Some, None, unwrap_or}
use Rattle.hex.specs.Hex.{hex_digit_value, is_hex_digit}
use Rattle.cddl_literal.specs.Bytes.{IsAt, IsRun, is_decimal_digit, is_binary_digit, is_x, is_b}

-- the value of a digit, of both cases
unfoldable pub digit_value : ℕ → ℕ
digit_value b = unwrap_or (hex_digit_value b) 0

-- the number that digits in a base stand for, after those that stand for `before`
abbrev pub number_after : ℕ → ℕ → List ℕ → ℕ
number_after base before [] = before
number_after base before (b ∷ bs) = number_after base (base * before + digit_value b) bs

-- the number that the digits from a to b stand for
abbrev pub number_in : ℕ → List ℕ → ℕ → ℕ → ℕ
number_in base s a b = number_after base 0 (slice_range s a b)

-- From a to b is a uint, the number n: `0`, a decimal that does not begin with 0, `0x` with hex
-- digits, or `0b` with binary digits.
pub data IsUint (s : List ℕ) (a b n : ℕ) : Type 0 where
  decimal : IsRun is_decimal_digit s a b → (IsAt "0" s a → b ≡ a + 1) → n ≡ number_in 10 s a b → IsUint s a b n
  hexadecimal : IsAt "0" s a → is_x (slice_index s (a + 1)) ≡ true → IsRun is_hex_digit s (a + 2) b → n ≡ number_in 16 s (a + 2) b → IsUint s a b n
  binary : IsAt "0" s a → is_b (slice_index s (a + 1)) ≡ true → IsRun is_binary_digit s (a + 2) b → n ≡ number_in 2 s (a + 2) b → IsUint s a b n

-- from a to b is the uint n, with a `-` directly before it or not
abbrev pub IsSigned : Bool → List ℕ → ℕ → ℕ → ℕ → Type 0
IsSigned false s a b n = IsUint s a b n
IsSigned true s a b n = IsAt "-" s a × IsUint s (a + 1) b n

-- What a literal stands for: a number, -1 minus a number, the UTF-8 of a text, or bytes.
pub data Meaning : Type 0 where
  UintOf : ℕ → Meaning
  NintOf : ℕ → Meaning
  TextOf : List ℕ → Meaning
  BytesOf : List ℕ → Meaning

-- The number n, with a `-` before it or not: to 2^64 - 1 and down to -2^64, else none. `-0` is 0.
abbrev pub signed : Bool → ℕ → Option Meaning
signed false n = if nat_lt n (2 ^ 64) then Some (UintOf n) else None
signed true zero = Some (UintOf 0)
signed true (suc n) = if nat_lt n (2 ^ 64) then Some (NintOf n) else None

-- from a to b is a number with this meaning
abbrev pub IsNumber : List ℕ → ℕ → ℕ → Meaning → Type 0
IsNumber s a b m = (minus : Bool) × (n : ℕ) × IsSigned minus s a b n × (signed minus n ≡ Some m)

-- from a to b is a number that is too large
abbrev pub IsTooLarge : List ℕ → ℕ → ℕ → Type 0
IsTooLarge s a b = (minus : Bool) × (n : ℕ) × IsSigned minus s a b n × (signed minus n ≡ None)
