-- What a number may be that begins with a digit, and how the scanner takes it apart.
use Rattle.std.specs.Prelude.{◌≡◌, ℕ, ◌+◌, ◌≤◌, ◌⊎◌, Bool, true, false, List, slice_index}
use Rattle.hex.specs.Hex.{is_hex_digit}
use Rattle.cddl_literal.specs.Bytes.{IsAt, IsRun, is_decimal_digit, is_binary_digit, is_x, is_b}
use Rattle.cddl_literal.specs.Numbers.{IsUint}
use Rattle.cddl_token.specs.Bytes.{is_e, is_p}
use Rattle.cddl_token.specs.Numbers.{IsMisspelled, IsFloat, IsExponent, IsBound}
use Rattle.cddl_token.specs.declared.numbers.Radix.{Radix}
use Rattle.cddl_token.specs.declared.numbers.Radix.TheVariants.{Binary, Decimal, Hexadecimal}
use Rattle.cddl_token.specs.declared.numbers.Shape.{Shape}
use Rattle.cddl_token.specs.declared.numbers.Shape.TheVariants.{Uint, Misspelled, Float}

abbrev pub is_digit_in : Radix → ℕ → Bool
is_digit_in Binary b = is_binary_digit b
is_digit_in Decimal b = is_decimal_digit b
is_digit_in Hexadecimal b = is_hex_digit b

-- the letter after the `0` of a prefix
abbrev pub marks_radix : Radix → ℕ → Bool
marks_radix Binary b = is_b b
marks_radix Decimal b = false
marks_radix Hexadecimal b = is_x b

abbrev pub marks_exponent : Radix → ℕ → Bool
marks_exponent Hexadecimal b = is_p b
marks_exponent _ b = is_e b

-- what shows a float after a decimal that ends at d
abbrev pub IsDecimalTail : List ℕ → ℕ → ℕ → Type 0
IsDecimalTail s d m = IsExponent is_e s d m ⊎ (IsAt "." s d × (is_decimal_digit (slice_index s (d + 1)) ≡ true) × (m ≡ d + 2))

-- from d to m are `.`, hex digits and an exponent
abbrev pub IsHexFraction : List ℕ → ℕ → ℕ → Type 0
IsHexFraction s d m = (e : ℕ) × IsAt "." s d × IsRun is_hex_digit s (d + 1) e × IsExponent is_p s e m

-- what shows a float after hex digits that end at d
abbrev pub IsHexTail : List ℕ → ℕ → ℕ → Type 0
IsHexTail s d m = IsExponent is_p s d m ⊎ IsHexFraction s d m

-- from a to b is such a number
abbrev pub IsShape : Shape → List ℕ → ℕ → ℕ → Type 0
IsShape Uint s a b = (n : ℕ) × IsUint s a b n
IsShape Misspelled s a b = IsMisspelled s a b
IsShape Float s a b = IsFloat s a b

-- and no longer one begins at a
pub record IsLongestShape (shape : Shape) (s : List ℕ) (a b : ℕ) : Type 0 where
  pub spelled : IsShape shape s a b
  pub longest : (q : Shape) (m : ℕ) → IsShape q s a m → m ≤ b

-- from a to b is a uint or nothing, and no longer one begins at a
pub record IsLongestBound (s : List ℕ) (a b : ℕ) : Type 0 where
  pub number : ℕ
  pub spelled : IsBound s a b number
  pub longest : (m n : ℕ) → IsBound s a m n → m ≤ b

-- An occurrence begins at a, and its `*` is at star: nothing is before it, or a uint that nothing longer hides.
abbrev pub BeginsOccur : List ℕ → ℕ → ℕ → Type 0
BeginsOccur s a star = (a ≡ star) ⊎ IsLongestShape Uint s a star

-- at a are `#`, a digit and `.`
pub record IsHashDot (s : List ℕ) (a : ℕ) : Type 0 where
  pub hash : IsAt "#" s a
  pub digit : is_decimal_digit (slice_index s (a + 1)) ≡ true
  pub dot : IsAt "." s (a + 2)
