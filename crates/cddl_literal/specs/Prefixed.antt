-- Byte strings in hex and base64 (RFC 8610, appendix B: bytes with bsqual; RFC 4648).
use Rattle.std.specs.Prelude.{◌≡◌, ℕ, ◌+◌, ◌<◌, ◌==◌, true, not, ◌&&◌, if◌then◌else◌, Bool, ◌⊎◌, List, [], ◌∷◌, map, length, slice_index, Option}
use Rattle.std.specs.List.{list_any}
use Rattle.std.specs.Result.{result_ok}
use Rattle.hex.specs.Hex.{decode_of as hex_decode_of}
use Rattle.base64.specs.GeneralPurpose.{decode_of as base64_decode_of}
use Rattle.base64.specs.Engines.{standard, standard_no_pad}
use Prim.Native.Char.{code}
use Rattle.cddl_literal.specs.Bytes.{Each, IsAt, is_h, is_b, is_blank, is_in_comment}
use Rattle.cddl_literal.specs.declared.Coding.{Coding}
use Rattle.cddl_literal.specs.declared.Coding.TheVariants.{Hex, Base64}

-- from a to e is `h'` or `b64'`, with a letter of either case
abbrev pub Opens : Coding → List ℕ → ℕ → ℕ → Type 0
Opens Hex s a e = (is_h (slice_index s a) ≡ true) × IsAt "'" s (a + 1) × (e ≡ a + 2)
Opens Base64 s a e = (is_b (slice_index s a) ≡ true) × IsAt "6" s (a + 1) × IsAt "4" s (a + 2) × IsAt "'" s (a + 3) × (e ≡ a + 4)

-- a carriage return with a line feed
abbrev pub IsCrLf : List ℕ → ℕ → Type 0
IsCrLf s i = IsAt "\r" s i × IsAt "\n" s (i + 1)

-- at k a line ends, or the string closes
abbrev pub EndsComment : List ℕ → ℕ → Type 0
EndsComment s k = (IsAt "\n" s k ⊎ IsCrLf s k) ⊎ IsAt "'" s k

-- a byte of a comment inside a prefixed string: neither `'` nor `\`
abbrev pub is_in_inner_comment : ℕ → Bool
is_in_inner_comment b = is_in_comment b && not (b == code "'") && not (b == code "\\")

-- from `;` at i on and before p is a comment, which may go on
pub record IsCommentTo (s : List ℕ) (i p : ℕ) : Type 0 where
  pub begins : IsAt ";" s i
  pub past : i < p
  pub holds : Each is_in_inner_comment s (i + 1) p

-- neither white space nor the first byte of a comment, nor `'` or `\`
abbrev pub is_other : ℕ → Bool
is_other b = not (is_blank b) && not (b == code ";") && not (b == code "'") && not (b == code "\\")

-- From i up to j is what a prefixed string may hold. Without white space and comments it is d.
pub data Coded (s : List ℕ) : ℕ → ℕ → List ℕ → Type 0 where
  none : {i j : ℕ} {d : List ℕ} → i ≡ j → d ≡ [] → Coded s i j d
  blank : {i j : ℕ} {d : List ℕ} → is_blank (slice_index s i) ≡ true → Coded s (i + 1) j d → Coded s i j d
  line : {i j : ℕ} {d : List ℕ} → IsCrLf s i → Coded s (i + 2) j d → Coded s i j d
  comment : {i k j : ℕ} {d : List ℕ} → IsCommentTo s i k → EndsComment s k → Coded s k j d → Coded s i j d
  other : {i j : ℕ} {d c : List ℕ} → i < length s → is_other (slice_index s i) ≡ true → (IsCrLf s i → ⊥) → Coded s (i + 1) j c → d ≡ slice_index s i ∷ c → Coded s i j d

-- from i up to p is what a prefixed string may hold, maybe the beginning of a comment at last
abbrev pub HoldsCoded : List ℕ → ℕ → ℕ → Type 0
HoldsCoded s i p = (k : ℕ) × (d : List ℕ) × Coded s i k d × ((k ≡ p) ⊎ IsCommentTo s k p)

-- a character of the alphabet for URLs as one of the standard alphabet: `-` as `+`, `_` as `/`
abbrev pub standard_letter : ℕ → ℕ
standard_letter b = if b == code "-" then code "+" else if b == code "_" then code "/" else b

-- `=`
abbrev pub is_padding : ℕ → Bool
is_padding b = b == code "="

-- The bytes that base64 stands for, with all of its padding where there is any. No rest of one
-- character and no nonzero bits to spare are taken.
unfoldable pub base64_bytes : List ℕ → Option (List ℕ)
base64_bytes d =
    if list_any is_padding d then result_ok (base64_decode_of standard (map standard_letter d))
    else result_ok (base64_decode_of standard_no_pad (map standard_letter d))

-- The bytes that hex digits stand for, an even number of them.
unfoldable pub hex_bytes : List ℕ → Option (List ℕ)
hex_bytes d = result_ok (hex_decode_of d)

-- what the characters d stand for, where they are fit for it
abbrev pub coded_bytes : Coding → List ℕ → Option (List ℕ)
coded_bytes Hex d = hex_bytes d
coded_bytes Base64 d = base64_bytes d

-- from the prefix at a to the closing `'` before b is a prefixed string that holds d
pub record IsPrefixed (coding : Coding) (s : List ℕ) (a b : ℕ) (d : List ℕ) : Type 0 where
  pub start : ℕ
  pub end : ℕ
  pub opens : Opens coding s a start
  pub holds : Coded s start end d
  pub closes : IsAt "'" s end
  pub ends : b ≡ end + 1
