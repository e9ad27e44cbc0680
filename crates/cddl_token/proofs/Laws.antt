-- What the definitions of literals are known to keep.
use Rattle.std.specs.Prelude.{◌≡◌, ℕ, ◌+◌, List, slice_index}
use Rattle.cddl_literal.specs.Numbers.{Meaning, IsNumber, IsTooLarge}
use Rattle.cddl_literal.specs.Strings.{IsQuoted, IsFurthest, HoldsCharacters, quote_byte}
use Rattle.cddl_literal.specs.Prefixed.{IsPrefixed, Opens, HoldsCoded}
use Rattle.cddl_literal.specs.Literals.{IsBytes, IsBadBytes}
use Rattle.cddl_literal.specs.declared.Quote.{Quote}
use Rattle.cddl_literal.specs.declared.Coding.{Coding}

pub record Laws : Type 0 where
  pub not_too_large : (s : List ℕ) (a b : ℕ) (m : Meaning) → IsNumber s a b m → IsTooLarge s a b → ⊥
  pub not_bad : (s : List ℕ) (a b c : ℕ) (v : List ℕ) → IsBytes s a b v → IsBadBytes s a c → ⊥
  pub quoted : (quote : Quote) (s : List ℕ) (a b p : ℕ) (v : List ℕ) → IsQuoted quote s a b v → IsFurthest (HoldsCharacters quote s (a + 1)) p → (b ≡ p + 1) × (slice_index s p ≡ quote_byte quote)
  pub prefixed : (coding : Coding) (s : List ℕ) (a b e p : ℕ) (d : List ℕ) → IsPrefixed coding s a b d → Opens coding s a e → IsFurthest (HoldsCoded s e) p → (b ≡ p + 1) × (slice_index s p ≡ 39)
