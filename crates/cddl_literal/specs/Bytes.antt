-- Bytes of a source, and their classes. An offset past the end of a source reads 0, which is in none of them.
use Rattle.std.specs.Prelude.{◌≡◌, ℕ, ◌-◌, ◌<◌, ◌≤◌, ◌==◌, nat_le, Bool, true, false, not, ◌&&◌, ◌||◌, List, [], ◌∷◌, length, slice_index, codes}
use Prim.Native.Char.{Char, code}
use Prim.Native.String.{String}

-- at i is this character
abbrev pub IsAt : Char → List ℕ → ℕ → Type 0
IsAt c s i = slice_index s i ≡ code c

-- what is so already, or one of these bytes
abbrev pub or_among : Bool → List ℕ → ℕ → Bool
or_among before [] b = before
or_among before (x ∷ xs) b = or_among (before || b == x) xs b

abbrev pub is_among : List ℕ → ℕ → Bool
is_among [] b = false
is_among (x ∷ xs) b = or_among (b == x) xs b

-- one of these characters
abbrev pub is_one_of : String → ℕ → Bool
is_one_of text b = is_among (codes text) b

-- a character from the first to the last
abbrev pub is_between : Char → Char → ℕ → Bool
is_between first last b = nat_le (code first) b && nat_le b (code last)

-- each byte of s from a on and before b passes
abbrev pub Each : (ℕ → Bool) → List ℕ → ℕ → ℕ → Type 0
Each passes s a b = (i : ℕ) → a ≤ i → i < b → passes (slice_index s i) ≡ true

-- from a to b are such bytes, one at least
pub record IsRun (passes : ℕ → Bool) (s : List ℕ) (a b : ℕ) : Type 0 where
  pub nonempty : a < b
  pub holds : Each passes s a b

-- `0` to `9`
abbrev pub is_decimal_digit : ℕ → Bool
is_decimal_digit b = is_between "0" "9" b

-- `0` or `1`
abbrev pub is_binary_digit : ℕ → Bool
is_binary_digit b = is_one_of "01" b

-- `x` or `X`
abbrev pub is_x : ℕ → Bool
is_x b = is_one_of "xX" b

-- `b` or `B`
abbrev pub is_b : ℕ → Bool
is_b b = is_one_of "bB" b

-- `h` or `H`
abbrev pub is_h : ℕ → Bool
is_h b = is_one_of "hH" b

-- space, tab, line feed
abbrev pub is_blank : ℕ → Bool
is_blank b = is_one_of " \t\n" b

-- a byte that a comment may hold: a tab, and from U+0020 on all but U+007F (wider than RFC 9682)
abbrev pub is_in_comment : ℕ → Bool
is_in_comment b = b == code "\t" || (nat_le 0x20 b && not (b == 0x7F))

-- a byte that stands for itself in every string: from U+0020 on all but `\` and U+007F (RFC 8610,
-- appendix B, wider from U+0080 on)
abbrev pub is_in_string : ℕ → Bool
is_in_string b = nat_le 0x20 b && not (b == code "\\") && not (b == 0x7F)

-- from a to b are bytes of s, the first and the last of them ASCII
pub record HasAsciiEnds (s : List ℕ) (a b : ℕ) : Type 0 where
  pub nonempty : a < b
  pub within : b ≤ length s
  pub first : slice_index s a < 128
  pub last : slice_index s (b - 1) < 128
