-- Occurrences that let an entry stand no time, by the numbers of their texts.
use Rattle.std.specs.Prelude.{ℕ, nat_eq, Bool, false, List, Option, Some, None, slice_get}
use Rattle.cddl_language.specs.Numbers.{least_in}
use Rattle.cddl_language.specs.Terms.{Text}

abbrev pub is_optional_by : Option Text → Bool
is_optional_by None = false
is_optional_by (Some text) = nat_eq (least_in text) 0

abbrev pub is_optional_at : List Text → Option ℕ → Bool
is_optional_at texts None = false
is_optional_at texts (Some n) = is_optional_by (slice_get texts n)
