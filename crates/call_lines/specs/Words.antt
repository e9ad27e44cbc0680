-- What the words of a line say, and what answers are made of.
use Rattle.std.specs.Prelude.{ℕ, ◌≡◌, ◌<◌, ◌^◌, Bool, true, false, if◌then◌else◌, nat_eq, List, [], ◌∷◌, ◌++◌, codes, Result, Ok, Err}
use Rattle.std.specs.List.{after_first, before_first, concat, join_with_byte, list_any, repeat, AllByRecursion, AllZip}
use Rattle.std.specs.Str.Parse.{IsNumeral, digits_value, without_leading_plus}
use Rattle.hex.specs.Hex.{decode_of}

-- the word is decimal digits, maybe after a plus, of a number of so many bits
abbrev pub IsDecimal : ℕ → List ℕ → Type 0
IsDecimal bits word = IsNumeral 10 (without_leading_plus word) × (digits_value 10 (without_leading_plus word) < 2 ^ bits)

-- n is the number that the word is, and 0 where it is none
pub record IsNumberOf (bits : ℕ) (word : List ℕ) (n : ℕ) : Type 0 where
  pub is : IsDecimal bits word → n ≡ digits_value 10 (without_leading_plus word)
  pub none : (IsDecimal bits word → ⊥) → n ≡ 0

abbrev pub is_plus : ℕ → Bool
is_plus c = nat_eq c 43

abbrev pub is_star : ℕ → Bool
is_star c = nat_eq c 42

abbrev pub ok_or_nothing : {E : Type 0} → Result (List ℕ) E → List ℕ
ok_or_nothing (Ok bytes) = bytes
ok_or_nothing (Err e) = []

-- the bytes that the digits say in hex, and nothing where they are no hex
abbrev pub hex_bytes : List ℕ → List ℕ
hex_bytes digits = ok_or_nothing (decode_of digits)

-- the bytes of a part: what it says in hex; and with a `*` what stands before it, as often as the number after it says
pub record IsPart (part bytes : List ℕ) : Type 0 where
  pub plain : list_any is_star part ≡ false → bytes ≡ hex_bytes part
  pub times : list_any is_star part ≡ true → (n : ℕ) × IsNumberOf 64 (after_first is_star part) n × (bytes ≡ repeat n (hex_bytes (before_first is_star part)))

-- the bytes of a word: those of its parts, which have a `+` between them, one after the other
pub record AreBytes (word bytes : List ℕ) : Type 0 where
  pub parts : List (List ℕ)
  pub pieces : List (List ℕ)
  pub joined : word ≡ join_with_byte 43 parts
  pub apart : AllByRecursion (λ part. list_any is_plus part ≡ false) parts
  pub each : AllZip IsPart parts pieces
  pub all : bytes ≡ concat pieces

-- a text, or `none` in the place of one with nothing in it
abbrev pub or_none : List ℕ → List ℕ
or_none [] = codes "none"
or_none (b ∷ bs) = b ∷ bs

abbrev pub yes_or_no : Bool → List ℕ
yes_or_no is_so = if is_so then codes "yes" else codes "no"

-- a text with a space after it, where it has something in it
abbrev pub spaced : List ℕ → List ℕ
spaced [] = []
spaced (b ∷ bs) = (b ∷ bs) ++ codes " "
