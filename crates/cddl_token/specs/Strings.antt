-- Strings that are not closed, or whose inside has a fault.
use Rattle.std.specs.Prelude.{◌≡◌, ℕ, ◌+◌, ◌<◌, ◌≤◌, ◌⊎◌, List, length, slice_index}
use Rattle.cddl_literal.specs.Bytes.{IsAt}
use Rattle.cddl_literal.specs.Strings.{quote_byte, HoldsCharacters, IsFurthest}
use Rattle.cddl_literal.specs.Prefixed.{Opens, HoldsCoded}
use Rattle.cddl_literal.specs.Literals.{IsBadBytes}
use Rattle.cddl_literal.specs.declared.Quote.{Quote}
use Rattle.cddl_literal.specs.declared.Coding.{Coding}
use Rattle.cddl_token.specs.declared.Code.{Code}
use Rattle.cddl_token.specs.declared.Code.TheVariants.{BadCharacter, Unclosed, BadEscape, BadBytes}

-- Why the string that opens at a can't be read on from p, where its characters end, and where that shows.
pub data StopsAt (s : List ℕ) (a p : ℕ) : Code → ℕ → Type 0 where
  unclosed : {at : ℕ} → length s ≤ p → at ≡ a → StopsAt s a p Unclosed at
  bad_escape : {at : ℕ} → IsAt "\\" s p → at ≡ p → StopsAt s a p BadEscape at
  bad_character : {at : ℕ} → p < length s → (IsAt "\\" s p → ⊥) → at ≡ p → StopsAt s a p BadCharacter at

-- Why the string that opens at a can't be read, and where: what is met first from the left.
pub data StringFault (s : List ℕ) (a : ℕ) (code : Code) (at : ℕ) : Type 0 where
  quoted : (quote : Quote) (p : ℕ) → slice_index s a ≡ quote_byte quote → IsFurthest (HoldsCharacters quote s (a + 1)) p → (slice_index s p ≡ quote_byte quote → ⊥) → StopsAt s a p code at → StringFault s a code at
  prefixed : (coding : Coding) (start p : ℕ) → Opens coding s a start → IsFurthest (HoldsCoded s start) p → (IsAt "'" s p → ⊥) → StopsAt s a p code at → StringFault s a code at
  bad_bytes : (b : ℕ) → IsBadBytes s a b → code ≡ BadBytes → at ≡ a → StringFault s a code at

-- A string opens at a.
abbrev pub OpensString : List ℕ → ℕ → Type 0
OpensString s a = (IsAt "\"" s a ⊎ IsAt "'" s a) ⊎ ((coding : Coding) × (start : ℕ) × Opens coding s a start)

-- At a is the whole word `h` or `b64`, in any letter case, directly before `'`.
abbrev pub OpensPrefixed : List ℕ → ℕ → Type 0
OpensPrefixed s a = (coding : Coding) × (start : ℕ) × Opens coding s a start
