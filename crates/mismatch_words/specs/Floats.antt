-- The number that a float is, in decimal (RFC 8949 section 3.3).
use Rattle.std.specs.Prelude.{◌≡◌, ℕ, ◌+◌, ◌-◌, ◌*◌, ◌/◌, ◌%◌, ◌^◌, ◌<◌, ◌≤◌, ◌==◌, nat_lt, List, [], ◌++◌, length, Some, codes, decimal, from_bits, if◌then◌else◌}
use Rattle.std.specs.Float.{Format, binary32, binary64}
use Rattle.std.specs.Float.Parse.{parse_float}
use Rattle.std.specs.Str.Parse.{AllDigits, digits_value}
use Rattle.cbor_data.specs.Value.{FitsWidth, Value, float}
use Rattle.cbor_data.specs.declared.Width.{Width}
use Rattle.cbor_data.specs.declared.Width.TheVariants.{W16, W32, W64}
use Rattle.mismatch_words.specs.Values.{value_words}

-- The text reads back as the number of the bits. Where these are more than those of infinity, but for the bit of the sign, they are
-- of no number.
pub data ReadsBack (f : Format) (size infinity bits : ℕ) : List ℕ → Type 0 where
  no_number : infinity < size → ReadsBack f size infinity bits (codes "NaN")
  number : {words : List ℕ} → size ≤ infinity → parse_float f words ≡ Some (from_bits f bits) → ReadsBack f size infinity bits words

-- a float of 16 bits without that of its sign, as so many times 2 ^ -24 (RFC 8949 appendix D)
abbrev pub half_size : ℕ → ℕ
half_size bits = if bits / 1024 == 0 then bits else (1024 + bits % 1024) * 2 ^ (bits / 1024 - 1)

-- The digits are those after the point of so many times 2 ^ -24, all of them.
pub record AreFraction (rest : ℕ) (digits : List ℕ) : Type 0 where
  pub some : 0 < length digits
  pub all : AllDigits 10 digits
  pub value : digits_value 10 digits * 2 ^ 24 ≡ rest * 10 ^ length digits

-- a minus where the bit of the sign is set
abbrev pub half_sign : ℕ → List ℕ
half_sign bits = if nat_lt bits (2 ^ 15) then [] else codes "-"

-- the whole number, a point, and the digits after it
pub data IsHalf (bits : ℕ) : List ℕ → Type 0 where
  no_half : 31744 < bits % 2 ^ 15 → IsHalf bits (codes "NaN")
  infinite : bits % 2 ^ 15 ≡ 31744 → IsHalf bits (half_sign bits ++ codes "inf")
  finite : bits % 2 ^ 15 < 31744 → (fraction : List ℕ) → AreFraction (half_size (bits % 2 ^ 15) % 2 ^ 24) fraction
      → IsHalf bits (half_sign bits ++ (decimal (half_size (bits % 2 ^ 15) / 2 ^ 24) ++ (codes "." ++ fraction)))

-- the number of the bits of a float
abbrev pub IsNumber : Width → ℕ → List ℕ → Type 0
IsNumber W16 bits words = IsHalf bits words
IsNumber W32 bits words = ReadsBack binary32 (bits % 2 ^ 31) 0x7f80_0000 bits words
IsNumber W64 bits words = ReadsBack binary64 (bits % 2 ^ 63) 0x7ff0_0000_0000_0000 bits words

-- what is shown of an item, and of a float also its number
abbrev pub IsShownValue : Value → List ℕ → Type 0
IsShownValue (float w bits) words = FitsWidth w bits → (number : List ℕ) × IsNumber w bits number × (words ≡ value_words (float w bits) ++ (codes " (" ++ (number ++ codes ")")))
IsShownValue x words = words ≡ value_words x
