-- Text strings and plain byte strings, on the bytes of a source that is UTF-8: a byte from 0x80 on
-- stands for itself.
use Rattle.std.specs.Prelude.{◌≡◌, ℕ, ◌+◌, ◌≤◌, ◌==◌, Bool, true, not, ◌&&◌, ◌||◌, List, [], ◌∷◌, ◌++◌, slice_index}
use Rattle.std.specs.Char.{encode_utf8}
use Prim.Native.Char.{code}
use Rattle.cddl_literal.specs.Bytes.{IsAt, is_in_string}
use Rattle.cddl_literal.specs.Escapes.{Escape}
use Rattle.cddl_literal.specs.declared.Quote.{Quote}
use Rattle.cddl_literal.specs.declared.Quote.TheVariants.{Double, Single}

-- `"` around texts, `'` around byte strings
abbrev pub quote_byte : Quote → ℕ
quote_byte Double = code "\""
quote_byte Single = code "'"

-- a byte that stands for itself; in byte strings also a line feed
abbrev pub is_plain : Quote → ℕ → Bool
is_plain Double b = is_in_string b && not (b == code "\"")
is_plain Single b = (is_in_string b && not (b == code "'")) || b == code "\n"

-- From i up to j are characters of a string, whose value is the bytes v. A byte string's value is
-- the UTF-8 of its text, and a carriage return with a line feed is read as a line feed.
pub data Characters (quote : Quote) (s : List ℕ) : ℕ → ℕ → List ℕ → Type 0 where
  none : {i j : ℕ} {v : List ℕ} → i ≡ j → v ≡ [] → Characters quote s i j v
  plain : {i j : ℕ} {v w : List ℕ} → is_plain quote (slice_index s i) ≡ true → Characters quote s (i + 1) j w → v ≡ slice_index s i ∷ w → Characters quote s i j v
  escape : {i j k c : ℕ} {v w : List ℕ} → Escape quote s i k c → Characters quote s k j w → v ≡ encode_utf8 c ++ w → Characters quote s i j v
  line : {i j : ℕ} {v w : List ℕ} → quote ≡ Single → IsAt "\r" s i → IsAt "\n" s (i + 1) → Characters quote s (i + 2) j w → v ≡ code "\n" ∷ w → Characters quote s i j v

-- from i up to p are characters of a string
abbrev pub HoldsCharacters : Quote → List ℕ → ℕ → ℕ → Type 0
HoldsCharacters quote s i p = (v : List ℕ) × Characters quote s i p v

-- from the opening sign at a to the closing one before b is a string with the value v
pub record IsQuoted (quote : Quote) (s : List ℕ) (a b : ℕ) (v : List ℕ) : Type 0 where
  pub end : ℕ
  pub opens : slice_index s a ≡ quote_byte quote
  pub holds : Characters quote s (a + 1) end v
  pub closes : slice_index s end ≡ quote_byte quote
  pub ends : b ≡ end + 1

-- the last offset with P
pub record IsFurthest (P : ℕ → Type 0) (p : ℕ) : Type 0 where
  pub reached : P p
  pub furthest : (q : ℕ) → P q → q ≤ p
