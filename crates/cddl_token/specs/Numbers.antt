-- Numbers that are spelled wrongly, and uints inside other tokens.
use Rattle.std.specs.Prelude.{◌≡◌, ℕ, ◌+◌, ◌^◌, ◌<◌, ◌≤◌, ◌⊎◌, Bool, true, List, slice_index}
use Rattle.hex.specs.Hex.{is_hex_digit}
use Rattle.cddl_literal.specs.Bytes.{IsAt, IsRun, is_decimal_digit, is_x, is_b}
use Rattle.cddl_literal.specs.Numbers.{IsUint, IsTooLarge}
use Rattle.cddl_token.specs.Bytes.{is_e, is_p, is_sign}

-- at a are `0` and such a letter
abbrev pub IsPrefix : (ℕ → Bool) → List ℕ → ℕ → Type 0
IsPrefix letter s a = IsAt "0" s a × (letter (slice_index s (a + 1)) ≡ true)

-- from a to b is a decimal of more than one digit that begins with `0`, or `0x` or `0b` alone
pub data IsMisspelled (s : List ℕ) (a b : ℕ) : Type 0 where
  zero_first : IsRun is_decimal_digit s a b → IsAt "0" s a → a + 1 < b → IsMisspelled s a b
  bare_hexadecimal : IsPrefix is_x s a → b ≡ a + 2 → IsMisspelled s a b
  bare_binary : IsPrefix is_b s a → b ≡ a + 2 → IsMisspelled s a b

-- from i to j are such a letter, maybe a sign, and a digit
pub data IsExponent (letter : ℕ → Bool) (s : List ℕ) (i j : ℕ) : Type 0 where
  unsigned : letter (slice_index s i) ≡ true → is_decimal_digit (slice_index s (i + 1)) ≡ true → j ≡ i + 2 → IsExponent letter s i j
  signed : letter (slice_index s i) ≡ true → is_sign (slice_index s (i + 1)) ≡ true → is_decimal_digit (slice_index s (i + 2)) ≡ true → j ≡ i + 3 → IsExponent letter s i j

-- From a to b is what shows a float: a decimal with `.` and a digit or with an exponent; or `0x`
-- and hex digits, maybe `.` and hex digits, and an exponent.
pub data IsFloat (s : List ℕ) (a b : ℕ) : Type 0 where
  fraction : {d : ℕ} → IsRun is_decimal_digit s a d → IsAt "." s d → is_decimal_digit (slice_index s (d + 1)) ≡ true → b ≡ d + 2 → IsFloat s a b
  exponent : {d : ℕ} → IsRun is_decimal_digit s a d → IsExponent is_e s d b → IsFloat s a b
  hex_exponent : {d : ℕ} → IsPrefix is_x s a → IsRun is_hex_digit s (a + 2) d → IsExponent is_p s d b → IsFloat s a b
  hex_fraction : {d e : ℕ} → IsPrefix is_x s a → IsRun is_hex_digit s (a + 2) d → IsAt "." s d → IsRun is_hex_digit s (d + 1) e → IsExponent is_p s e b → IsFloat s a b

-- a `-` in front, or not
abbrev pub MaybeNegative : (List ℕ → ℕ → ℕ → Type 0) → List ℕ → ℕ → ℕ → Type 0
MaybeNegative P s a b = P s a b ⊎ (IsAt "-" s a × P s (a + 1) b)

-- a uint, the number n, or nothing, which counts as 0
abbrev pub IsBound : List ℕ → ℕ → ℕ → ℕ → Type 0
IsBound s a b n = ((a ≡ b) × (n ≡ 0)) ⊎ IsUint s a b n

-- `*` with a uint or nothing on each side
pub record IsStar (s : List ℕ) (a b : ℕ) (low high : ℕ) : Type 0 where
  pub star : ℕ
  pub before : IsBound s a star low
  pub sign : IsAt "*" s star
  pub after : IsBound s (star + 1) b high

-- `#d.n`
pub record IsHashNumber (s : List ℕ) (a b n : ℕ) : Type 0 where
  pub hash : IsAt "#" s a
  pub digit : is_decimal_digit (slice_index s (a + 1)) ≡ true
  pub dot : IsAt "." s (a + 2)
  pub number : IsUint s (a + 3) b n

-- `#6.n(`
pub record IsTagNumberOpen (s : List ℕ) (a b n : ℕ) : Type 0 where
  pub paren : ℕ
  pub number : IsHashNumber s a paren n
  pub tag : IsAt "6" s (a + 1)
  pub opens : IsAt "(" s paren
  pub ends : b ≡ paren + 1

-- a uint over 2 ^ 64 - 1 on either side of `*`
abbrev pub IsLargeStar : List ℕ → ℕ → ℕ → Type 0
IsLargeStar s a b = (low high : ℕ) × IsStar s a b low high × ((2 ^ 64 ≤ low) ⊎ (2 ^ 64 ≤ high))

-- such a uint after `#d.`, maybe with `(` after it
abbrev pub IsLargeHash : List ℕ → ℕ → ℕ → Type 0
IsLargeHash s a b = (n : ℕ) × (IsHashNumber s a b n ⊎ IsTagNumberOpen s a b n) × (2 ^ 64 ≤ n)

-- A uint that is too large: in a number, where after `-` 2 ^ 64 is none yet, in an occurrence or after `#d.`.
abbrev pub HoldsLarge : List ℕ → ℕ → ℕ → Type 0
HoldsLarge s a b = IsTooLarge s a b ⊎ (IsLargeStar s a b ⊎ IsLargeHash s a b)
