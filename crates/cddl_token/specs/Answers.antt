-- What the code's tokens and refusals say.
use Rattle.std.specs.Prelude.{◌≡◌, ℕ, ◌<◌, ◌≤◌, List, [], ◌∷◌, length, slice_range, IsUtf8, ◌⊎◌}
use Rattle.cddl_token.specs.declared.Code.{Code}
use Rattle.cddl_token.specs.declared.Code.TheVariants.{NotUtf8, SourceTooLong}
use Rattle.std.specs.Prelude.{Option, Some, None}
use Rattle.std.specs.Option.{option_map}
use Rattle.cddl_literal.specs.Numbers.{Meaning, TextOf, BytesOf, IsNumber}
use Rattle.cddl_literal.specs.Literals.{IsText, IsBytes, view}
use Rattle.cddl_literal.specs.declared.Literal.{Literal}
use Rattle.cddl_token.specs.declared.Token.{Token}
use Rattle.cddl_token.specs.declared.Kind.{Kind}
use Rattle.cddl_token.specs.declared.Kind.TheVariants.{Number, Text, Bytes, End}
use Rattle.cddl_token.specs.Spelling.{Good, Spells}
use Rattle.cddl_token.specs.declared.Refusal.{Refusal}
use Rattle.cddl_token.specs.declared.Refusal.TheVariants.{At, Memory}
use Rattle.cddl_token.specs.Tokens.{Spanned, Tokenized, Refused}
use Rattle.std.specs.Str.Lossy.{utf8_valid_len}

-- a token without its text
abbrev pub span : Token → Spanned
span t = record { kind = t.kind; start = t.start; end = t.end }

-- the token's text is its part of the source
abbrev pub IsCut : List ℕ → Token → Type 0
IsCut s t = t.text.now ≡ slice_range s t.start t.end

-- the token is read from its part of s, or ends s
abbrev pub IsReadFrom : List ℕ → Token → Type 0
IsReadFrom s t = IsCut s t × ((t.kind ≡ End) ⊎ Spells (Good t.kind) s t.start t.end)

-- a token as `tokens` answers it
abbrev pub IsAnswered : Token → Type 0
IsAnswered t = (s : List ℕ) × IsReadFrom s t

-- each begins at `at` or later, after the one before, and ends at `end` or earlier
abbrev pub InOrder : ℕ → ℕ → List Spanned → Type 0
InOrder at end [] = at ≤ end
InOrder at end (t ∷ ts) = (at ≤ t.start) × (t.start ≤ t.end) × InOrder t.end end ts

-- s is a text of at most 1,048,576 bytes
abbrev pub IsSource : List ℕ → Type 0
IsSource s = (length s ≤ 1048576) × IsUtf8 s

-- s is a text of at most 1,048,576 bytes, and ts are its tokens
abbrev pub IsTokenized : List ℕ → List Spanned → Type 0
IsTokenized s ts = IsSource s × Tokenized s 0 ts

-- Why s has no tokens: it is too long; or it is no text, which shows at the length of its longest valid prefix; or a token can't be read.
abbrev pub IsRefused : List ℕ → Code → ℕ → Type 0
IsRefused s code at = ((1048576 < length s) × (code ≡ SourceTooLong) × (at ≡ 1048576)) ⊎ (((length s ≤ 1048576) × (IsUtf8 s → ⊥) × (code ≡ NotUtf8) × (at ≡ utf8_valid_len s)) ⊎ (IsSource s × Refused s 0 code at))

-- the refusal is why s has no tokens, or memory ran out
abbrev pub Refuses : List ℕ → Refusal → Type 0
Refuses s (At code at) = IsRefused s code at
Refuses s Memory = Unit {0}

-- the refusal is why no token can be read at some offset, or memory ran out
abbrev pub StopsScan : List ℕ → Refusal → Type 0
StopsScan s (At code at) = Refused s 0 code at
StopsScan s Memory = Unit {0}

-- What a token of s stands for: a number, a text, bytes, or nothing.
abbrev pub IsReadAsOf : Kind → List ℕ → ℕ → ℕ → Option Literal → Type 0
IsReadAsOf Number s a b o = (m : Meaning) → IsNumber s a b m → option_map view o ≡ Some m
IsReadAsOf Text s a b o = (v : List ℕ) → IsText s a b v → option_map view o ≡ Some (TextOf v)
IsReadAsOf Bytes s a b o = (v : List ℕ) → IsBytes s a b v → option_map view o ≡ Some (BytesOf v)
IsReadAsOf _ s a b o = o ≡ None

abbrev pub IsReadAs : List ℕ → Token → Option Literal → Type 0
IsReadAs s t o = IsReadAsOf t.kind s t.start t.end o
