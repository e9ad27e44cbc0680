-- The instances of each name, by the number of its text.
use Rattle.std.specs.Prelude.{ℕ, nat_eq, Bool, true, false, if◌then◌else◌, List, [], ◌∷◌, Option, Some, None, slice_get}
use Rattle.cddl_language.specs.Environment.{is_same}
use Rattle.cddl_language.specs.Terms.{Text, Ref, name_of}
use Rattle.check_terms.specs.declared.row.Row.{Row}
use Rattle.check_terms.specs.declared.definition.Definition.{Definition}
use Rattle.check_names.specs.Environment.Places.{added}
use Rattle.check_instances.specs.declared.found.Instance.{Instance}
use Rattle.check_reading.specs.declared.words.word.Word.{Word}

-- the number of the name's text, of the reference of this row
abbrev pub number_in_row : Option Row → Option ℕ
number_in_row None = None
number_in_row (Some r) = r.text

abbrev pub name_number : List Row → ℕ → Option ℕ
name_number rows call = number_in_row (slice_get rows call)

-- the row is added to those of its name

abbrev pub with_number : Option ℕ → ℕ → List (List ℕ) → List (List ℕ)
with_number None call ls = ls
with_number (Some k) call ls = added k call ls

abbrev pub with_call : List Row → ℕ → List (List ℕ) → List (List ℕ)
with_call rows call ls = with_number (name_number rows call) call ls

abbrev pub with_calls : List Row → List Instance → List (List ℕ) → List (List ℕ)
with_calls rows [] ls = ls
with_calls rows (i ∷ is) ls = with_calls rows is (with_call rows i.call ls)

-- the rows of the instances of the name of this number

abbrev pub has_number : ℕ → Option ℕ → Bool
has_number k None = false
has_number k (Some m) = nat_eq m k

abbrev pub calls_named : List Row → ℕ → List Instance → List ℕ
calls_named rows k [] = []
calls_named rows k (i ∷ is) = if has_number k (name_number rows i.call) then i.call ∷ calls_named rows k is else calls_named rows k is

-- the references to the name, in order
abbrev pub refs_named : Text → List Ref → List Ref
refs_named n [] = []
refs_named n (r ∷ rs) = if is_same (name_of r) n then r ∷ refs_named n rs else refs_named n rs

-- whether a name has instances

abbrev pub has_any : Option (List ℕ) → Bool
has_any None = false
has_any (Some []) = false
has_any (Some (n ∷ ns)) = true

abbrev pub has_calls : List (List ℕ) → Option Definition → Bool
has_calls ls None = false
has_calls ls (Some d) = has_any (slice_get ls d.name)

-- the words of the rules whose name has instances
abbrev pub called_in : List (List ℕ) → List Definition → List Word → List Word
called_in ls ds [] = []
called_in ls ds (w ∷ ws) = if has_calls ls (slice_get ds w.rule) then w ∷ called_in ls ds ws else called_in ls ds ws
