-- Escapes in strings (RFC 9682, section 2.1).
use Rattle.std.specs.Prelude.{◌≡◌, ℕ, ◌+◌, ◌-◌, ◌*◌, ◌<◌, ◌≤◌, ◌==◌, if◌then◌else◌, List, slice_index, Option, Some, None}
use Rattle.std.specs.Char.{IsScalar}
use Rattle.hex.specs.Hex.{is_hex_digit}
use Prim.Native.Char.{code}
use Rattle.cddl_literal.specs.Bytes.{Each, IsAt, IsRun}
use Rattle.cddl_literal.specs.Numbers.{number_in}
use Rattle.cddl_literal.specs.declared.Quote.{Quote}
use Rattle.cddl_literal.specs.declared.Quote.TheVariants.{Double, Single}

-- The character that a letter after a backslash means, in both kinds of strings: `b` is a backspace, and `f` a form feed.
abbrev pub letter_means : ℕ → Option ℕ
letter_means b =
    if b == code "\"" then Some (code "\"")
    else if b == code "/" then Some (code "/")
    else if b == code "\\" then Some (code "\\")
    else if b == code "b" then Some 0x08
    else if b == code "f" then Some 0x0C
    else if b == code "n" then Some (code "\n")
    else if b == code "r" then Some (code "\r")
    else if b == code "t" then Some (code "\t")
    else None

-- in byte strings also `'`
abbrev pub letter_in : Quote → ℕ → Option ℕ
letter_in Double b = letter_means b
letter_in Single b = if b == code "'" then Some (code "'") else letter_means b

-- from i on are `\u` and four hex digits, which are the number n
pub record IsUnit (s : List ℕ) (i n : ℕ) : Type 0 where
  pub backslash : IsAt "\\" s i
  pub letter : IsAt "u" s (i + 1)
  pub digits : Each is_hex_digit s (i + 2) (i + 6)
  pub number : n ≡ number_in 16 s (i + 2) (i + 6)

-- a surrogate of the first half, and of the second
abbrev pub IsHighSurrogate : ℕ → Type 0
IsHighSurrogate n = (0xD800 ≤ n) × (n < 0xDC00)

abbrev pub IsLowSurrogate : ℕ → Type 0
IsLowSurrogate n = (0xDC00 ≤ n) × (n < 0xE000)

-- the character that two surrogates stand for
abbrev pub pair_scalar : ℕ → ℕ → ℕ
pair_scalar high low = 0x10000 + (high - 0xD800) * 1024 + (low - 0xDC00)

-- From i to j is an escape that means the character v.
pub data Escape (quote : Quote) (s : List ℕ) (i j v : ℕ) : Type 0 where
  -- a letter
  letter : IsAt "\\" s i → letter_in quote (slice_index s (i + 1)) ≡ Some v → j ≡ i + 2 → Escape quote s i j v
  -- `\u` with four hex digits that are no surrogate
  unit : IsUnit s i v → IsScalar v → j ≡ i + 6 → Escape quote s i j v
  -- two surrogates, the second directly after the first
  pair : (high low : ℕ) → IsUnit s i high → IsHighSurrogate high → IsUnit s (i + 6) low → IsLowSurrogate low → v ≡ pair_scalar high low → j ≡ i + 12 → Escape quote s i j v
  -- hex digits in braces
  braces : (k : ℕ) → IsAt "\\" s i → IsAt "u" s (i + 1) → IsAt "{" s (i + 2) → IsRun is_hex_digit s (i + 3) k → IsAt "}" s k → v ≡ number_in 16 s (i + 3) k → IsScalar v → j ≡ k + 1 → Escape quote s i j v
