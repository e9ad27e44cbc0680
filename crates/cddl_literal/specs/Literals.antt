-- What literals from one offset of a source to another stand for.
use Rattle.std.specs.Prelude.{◌≡◌, ℕ, ◌⊎◌, List, Some, None}
use Rattle.std.specs.String.{string_bytes}
use Rattle.cddl_literal.specs.Numbers.{Meaning, UintOf, NintOf, TextOf, BytesOf}
use Rattle.cddl_literal.specs.Strings.{IsQuoted}
use Rattle.cddl_literal.specs.Prefixed.{IsPrefixed, coded_bytes}
use Rattle.cddl_literal.specs.declared.Quote.TheVariants.{Double, Single}
use Rattle.cddl_literal.specs.declared.Coding.{Coding}
use Rattle.cddl_literal.specs.declared.Literal.{Literal}
use Rattle.cddl_literal.specs.declared.Literal.TheVariants.{Uint, Nint, Text, Bytes}

-- from a to b is a text string whose UTF-8 is v
abbrev pub IsText : List ℕ → ℕ → ℕ → List ℕ → Type 0
IsText s a b v = IsQuoted Double s a b v

-- from a to b is a byte string with prefix that stands for v
abbrev pub IsPrefixedBytes : List ℕ → ℕ → ℕ → List ℕ → Type 0
IsPrefixedBytes s a b v = (coding : Coding) × (d : List ℕ) × IsPrefixed coding s a b d × (coded_bytes coding d ≡ Some v)

-- from a to b is a byte string, plain or with a prefix, that stands for v
abbrev pub IsBytes : List ℕ → ℕ → ℕ → List ℕ → Type 0
IsBytes s a b v = IsQuoted Single s a b v ⊎ IsPrefixedBytes s a b v

-- from a to b is a closed byte string with prefix that stands for nothing
abbrev pub IsBadBytes : List ℕ → ℕ → ℕ → Type 0
IsBadBytes s a b = (coding : Coding) × (d : List ℕ) × IsPrefixed coding s a b d × (coded_bytes coding d ≡ None)

-- a literal as contracts see it
abbrev pub view : Literal → Meaning
view (Uint n) = UintOf n
view (Nint n) = NintOf n
view (Text t) = TextOf (string_bytes t)
view (Bytes b) = BytesOf b.items
