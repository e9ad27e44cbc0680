-- The root of a text.
use Rattle.std.specs.Prelude.{ℕ, Bool, true, false, if◌then◌else◌, ◌||◌, List, [], ◌∷◌, Option, Some, None, slice_get}
use Rattle.cddl_language.specs.Terms.{Text}
use Rattle.cddl_language.specs.Environment.{is_same}
use Rattle.check_terms.specs.declared.definition.Definition.{Definition}
use Rattle.check_names.specs.declared.environment.environment.Name.{Name}
use Rattle.check_names.specs.Kinds.Kinds.{is_group_there}
use Rattle.check_names.specs.declared.kinds.kinds.Kinds.{Kinds}

abbrev pub is_text : Text → Option Text → Bool
is_text n None = false
is_text n (Some t) = is_same t n

abbrev pub number_of_name : List Text → Text → List Definition → Option ℕ
number_of_name texts n [] = None
number_of_name texts n (d ∷ ds) = if is_text n (slice_get texts d.name) then Some d.name else number_of_name texts n ds

abbrev pub first_number : List Definition → Option ℕ
first_number [] = None
first_number (d ∷ ds) = Some d.name

abbrev pub either_number : Option ℕ → Option ℕ → Option ℕ
either_number (Some k) o = Some k
either_number None o = o

abbrev pub root_number : List Text → List Definition → List Definition → Option Text → Option ℕ
root_number texts known own (Some n) = either_number (number_of_name texts n own) (number_of_name texts n known)
root_number texts known own None = first_number own

abbrev pub has_some : List ℕ → Bool
has_some [] = false
has_some (k ∷ ks) = true

-- the offset of the rule, where its name is a group's or has parameters
abbrev pub bad_by : Bool → Option Definition → Option ℕ → Option ℕ
bad_by group (Some d) (Some at) = if group || has_some d.parameters.items then Some at else None
bad_by group _ _ = None

abbrev pub bad_first : Bool → List Definition → List ℕ → Option ℕ → Option ℕ
bad_first group ds starts None = None
bad_first group ds starts (Some p) = bad_by group (slice_get ds p) (slice_get starts p)

abbrev pub bad_at : Kinds → List Definition → List ℕ → ℕ → Option Name → Option ℕ
bad_at ks ds starts k None = None
bad_at ks ds starts k (Some n) = bad_first (is_group_there ks k) ds starts n.first
