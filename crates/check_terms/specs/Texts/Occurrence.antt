-- Occurrences by 64 bits.
use Rattle.std.specs.Prelude.{◌≡◌, ℕ, ◌≤◌, ◌^◌, ◌⊎◌, Option, Some, None}
use Rattle.cddl_meaning.specs.Forms.{Most, at_most, any_number_of}
use Rattle.cddl_language.specs.Terms.{Text}
use Rattle.cddl_language.specs.Numbers as N
use Rattle.check_terms.specs.declared.texts.occurrences.Occurrence.{Occurrence}

-- how often at most
abbrev pub most_in : Option ℕ → Most
most_in None = any_number_of
most_in (Some n) = at_most n

-- the occurrence has these bounds
pub record HasBounds (least : ℕ) (most : Most) (o : Occurrence) : Type 0 where
  pub least_is : o.least ≡ least
  pub most_is : most_in o.most ≡ most

-- 2^64 or more
abbrev pub IsGreat : Most → Type 0
IsGreat (at_most n) = 2 ^ 64 ≤ n
IsGreat any_number_of = ⊥

abbrev pub IsOneGreat : ℕ → Most → Type 0
IsOneGreat least most = (2 ^ 64 ≤ least) ⊎ IsGreat most

-- the occurrence is what the text says
abbrev pub IsOccurrence : Text → Occurrence → Type 0
IsOccurrence text o = HasBounds (N.least_in text) (N.most_in text) o

-- a number in the text is 2^64 or more
abbrev pub IsTooGreat : Text → Type 0
IsTooGreat text = IsOneGreat (N.least_in text) (N.most_in text)
