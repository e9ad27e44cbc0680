-- The part of a text that a refusal is about.
use Rattle.std.specs.Prelude.{◌≡◌, ◌⊎◌, ℕ, ◌+◌, ◌<◌, ◌≤◌, ◌==◌, ◌||◌, not, min, max, ◌-◌, Bool, true, false, List, [], ◌∷◌, All, Option, Some, None, get_or, length, map, if◌then◌else◌}
use Rattle.std.specs.Char.{is_ascii_alphanumeric}
use Rattle.cddl_token.specs.Answers.{span, IsReadFrom, IsRefused, IsTokenized}
use Rattle.cddl_token.specs.declared.Code.{Code}
use Rattle.cddl_token.specs.declared.Code.TheVariants.{BadCharacter, Unclosed, BadEscape, BadNumber, FloatLiteral, NumberTooLarge, BadBytes, NoRoot, TooManyInstances}
use Rattle.cddl_token.specs.declared.Kind.{Kind}
use Rattle.cddl_token.specs.declared.Kind.TheVariants.{NameOpen, End}
use Rattle.cddl_token.specs.declared.Token.{Token}
use Rattle.text_position.specs.Positions.{begins_character}
use Rattle.text_shown.specs.Places.{ends_line}
use Rattle.cddl_explain.specs.declared.parts.Part.{Part}
use Rattle.cddl_explain.specs.declared.parts.Shape.{Shape}
use Rattle.cddl_explain.specs.declared.parts.Shape.TheVariants.{Character, Rest, Word, Quoted, Nothing}
use Rattle.cddl_explain.specs.declared.stops.Stop.{Stop}
use Rattle.cddl_explain.specs.declared.stops.Stop.TheVariants as stop

-- These are the tokens of the text, each with its part of the text; or the text has none, and these are none.
pub data AreTokens (text : List ℕ) (ts : List Token) : Type 0 where
  found : IsTokenized text (map span ts) → All (IsReadFrom text) ts → AreTokens text ts
  refused : (code : Code) (at : ℕ) → IsRefused text code at → ts ≡ [] → AreTokens text ts

abbrev pub IsWithin : ℕ → Part → Type 0
IsWithin end p = (p.from ≤ p.to) × (p.to ≤ end)

abbrev pub stretch : ℕ → ℕ → Part
stretch from to = record { from = from; to = to; ends = false }

-- a part without bytes
abbrev pub place : ℕ → Part
place at = stretch at at

abbrev pub is_end : Kind → Bool
is_end End = true
is_end _ = false

abbrev pub is_open : Kind → Bool
is_open NameOpen = true
is_open _ = false

-- The part of a token: of a name and `<` the name. The end of the text is reported after the token before it, which ends at `before`.
abbrev pub part_of_token : ℕ → Token → Part
part_of_token before t =
    if is_end t.kind then record { from = before; to = before; ends = true }
    else if is_open t.kind then stretch t.start (max t.start (t.end - 1))
    else stretch t.start t.end

-- the part of the token that begins at the offset, if one does, where the token before these ends at `before`
abbrev pub token_part : ℕ → ℕ → List Token → Option Part
token_part offset before [] = None
token_part offset before (t ∷ ts) = if t.start == offset then Some (part_of_token before t) else token_part offset t.end ts

-- these are reported at 0, wherever the first token is
abbrev pub has_token : Code → Bool
has_token NoRoot = false
has_token TooManyInstances = false
has_token _ = true

-- the marks that stand in names and numbers: `@`, `_`, `$`, `-`, `.`, `+`, `*` and `#`
abbrev pub is_mark : ℕ → Bool
is_mark byte = (byte == 64) || (byte == 95) || (byte == 36) || (byte == 45) || (byte == 46) || (byte == 43) || (byte == 42) || (byte == 35)

abbrev pub is_in_word : ℕ → Bool
is_in_word byte = is_ascii_alphanumeric byte || is_mark byte

-- what ends a run: a line's end; a byte that is in no word; `'`; or the first byte of a character
abbrev pub stops_at : Stop → ℕ → Bool
stops_at stop.Line byte = ends_line byte
stops_at stop.Word byte = not (is_in_word byte)
stops_at stop.Quote byte = byte == 39
stops_at stop.Character byte = begins_character byte

-- From here on is nothing that ends the run, and at the end is such a byte, or the end of the text.
pub record IsRunEnd (what : Stop) (text : List ℕ) (from end : ℕ) : Type 0 where
  pub within : (from ≤ end) × (end ≤ length text)
  pub unbroken : (k : ℕ) → from ≤ k → k < end → stops_at what (get_or text k 0) ≡ false
  pub last : (end ≡ length text) ⊎ (stops_at what (get_or text end 0) ≡ true)

-- from an offset to the end of the run that begins at `begin`
abbrev pub IsRun : Stop → List ℕ → ℕ → ℕ → Part → Type 0
IsRun what text begin from p = (to : ℕ) × IsRunEnd what text begin to × (p ≡ stretch from to)

-- what is shown of a fault for which a text has no tokens
abbrev pub shape_of : Code → Shape
shape_of BadCharacter = Character
shape_of BadEscape = Character
shape_of Unclosed = Rest
shape_of BadNumber = Word
shape_of FloatLiteral = Word
shape_of NumberTooLarge = Word
shape_of BadBytes = Quoted
shape_of _ = Nothing

-- The part with such a fault: a character; the rest of the line; a word; a string up to its second `'`; or nothing.
abbrev pub IsFlawed : Shape → List ℕ → ℕ → Part → Type 0
IsFlawed Character text at p = IsRun stop.Character text (min (length text) (at + 1)) at p
IsFlawed Rest text at p = IsRun stop.Line text at at p
IsFlawed Word text at p = IsRun stop.Word text at at p
IsFlawed Quoted text at p =
    (opened closed : ℕ) × IsRunEnd stop.Quote text at opened × IsRunEnd stop.Quote text (min (length text) (opened + 1)) closed × (p ≡ stretch at (min (length text) (closed + 1)))
IsFlawed Nothing text at p = p ≡ place at

abbrev pub IsPartOr : Option Part → Code → List ℕ → ℕ → Part → Type 0
IsPartOr (Some t) code text at p = p ≡ t
IsPartOr None code text at p = IsFlawed (shape_of code) text at p

abbrev pub IsPartWhere : Bool → Code → List ℕ → ℕ → List Token → Part → Type 0
IsPartWhere true code text offset ts p = IsPartOr (token_part offset 0 ts) code text (min offset (length text)) p
IsPartWhere false code text offset ts p = p ≡ place (min offset (length text))

-- The part that a refusal is about: the token that begins at the offset; where none does, as the code says.
abbrev pub IsPart : Code → List ℕ → ℕ → List Token → Part → Type 0
IsPart code text offset ts p = IsPartWhere (has_token code) code text offset ts p
