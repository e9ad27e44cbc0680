-- Occurrences that are exactly once, by the numbers of their texts.
use Rattle.std.specs.Prelude.{ℕ, Bool, true, false, List, Option, Some, None, slice_get}
use Rattle.cddl_language.specs.Numbers.{occurs_once}
use Rattle.cddl_language.specs.Terms.{Text}

abbrev pub is_once_by : Option Text → Bool
is_once_by None = false
is_once_by (Some text) = occurs_once (Some text)

abbrev pub is_once_at : List Text → Option ℕ → Bool
is_once_at texts None = true
is_once_at texts (Some n) = is_once_by (slice_get texts n)
