-- Occurrences with a minimum over their maximum.
use Rattle.std.specs.Prelude.{◌≡◌, ℕ, List, Contains, Option, Some, None, slice_get}
use Rattle.cddl_language.specs.Faults.{IsOver}
use Rattle.cddl_language.specs.Numbers.{least_in, most_in}
use Rattle.cddl_language.specs.Terms.{Text}
use Rattle.check_reading.specs.declared.words.word.Role.{Role}
use Rattle.check_reading.specs.declared.words.word.Role.TheVariants as RoleV
use Rattle.check_reading.specs.declared.words.word.Word.{Word}
use Rattle.check_terms.specs.Texts.Occurrence.{IsTooGreat}

-- the text of a word that is an occurrence, by its number in these texts

abbrev pub occurrence_text : Role → Option Text → Option Text
occurrence_text RoleV.Occurrence o = o
occurrence_text _ o = None

abbrev pub occurrence_in : List Text → Word → Option Text
occurrence_in texts w = occurrence_text w.role (slice_get texts w.text)

-- its minimum is over its maximum

abbrev pub IsOverText : Option Text → ℕ → ℕ → Type 0
IsOverText None start at = ⊥
IsOverText (Some n) start at = IsOver (least_in n) (most_in n) × (at ≡ start)

abbrev pub IsOverWord : List Text → Word → ℕ → Type 0
IsOverWord texts w at = IsOverText (occurrence_in texts w) w.at at

-- its numbers are below 2^64

abbrev pub IsSmallText : Option Text → Type 0
IsSmallText None = Unit {0}
IsSmallText (Some n) = IsTooGreat n → ⊥

abbrev pub IsSmall : List Text → Word → Type 0
IsSmall texts w = IsSmallText (occurrence_in texts w)

abbrev pub AreSmall : List Text → List Word → Type 0
AreSmall texts ws = (w : Word) → Contains ws w → IsSmall texts w
