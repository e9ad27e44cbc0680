-- What a survey says of a name, by the number of its text.
use Rattle.std.specs.Prelude.{ℕ, Bool, false, if◌then◌else◌, ◌||◌, is_some, List, length, Option, Some, None, slice_get}
use Rattle.check_terms.specs.declared.definition.Definition.{Definition}
use Rattle.check_names.specs.declared.environment.environment.Name.{Name}

abbrev pub is_defined_there : Option Name → Bool
is_defined_there None = false
is_defined_there (Some n) = is_some n.known || is_some n.first

-- how many parameters a definition has
abbrev pub count_in : Option Definition → Option ℕ
count_in None = None
count_in (Some d) = Some (length d.parameters.items)

abbrev pub count_first : List Definition → Option ℕ → Option ℕ
count_first ds None = None
count_first ds (Some p) = count_in (slice_get ds p)

abbrev pub count_there : List Definition → Option Name → Option ℕ
count_there ds None = None
count_there ds (Some n) = if is_some n.known then Some 0 else count_first ds n.first
