-- The line of a reason whose type stands at a place of the text.
use Rattle.std.specs.Prelude.{◌≡◌, ℕ, ◌≤◌, List, [], ◌∷◌, length, slice_range, take}
use Rattle.std.specs.Str.Lossy.{utf8_lossy}
use Rattle.text_position.specs.Positions.{IsAt}
use Rattle.cddl_token.specs.declared.Token.{Token}
use Rattle.source_places.specs.declared.place.Place.{Place}
use Rattle.source_pieces.specs.declared.span.Span.{Span}
use Rattle.mismatch_words.specs.Reasons.{line_text}
use Rattle.mismatch_words.specs.Types.{type_words}
use Rattle.mismatch_words.specs.declared.causes.Cause.{Cause}

-- what stands in the text between the offsets, which are in order and within it
abbrev pub IsPartOf : List ℕ → Span → List ℕ → Type 0
IsPartOf text s words = s.first ≤ s.end → s.end ≤ length text → words ≡ utf8_lossy (slice_range text s.first s.end)

-- the tokens, or these words where there are none
abbrev pub written_or : List ℕ → List ℕ → List ℕ
written_or [] other = other
written_or (b ∷ bs) other = b ∷ bs

-- The line tells the name of the rule, the line and the column where the type begins, and the tokens that show it, or these words.
pub record IsLineAt (text : List ℕ) (tokens : List Token) (file : List ℕ) (p : Place) (found : List ℕ) (cause : Cause) (other told : List ℕ) : Type 0 where
  pub rule : List ℕ
  pub is_rule : IsPartOf text p.name rule
  pub line : ℕ
  pub column : ℕ
  pub at : IsAt (take p.types.first text) line column
  pub is : told ≡ line_text file found line column rule cause (written_or (type_words p.written.first p.written.first p.written.end tokens) other)
