-- What is looked up of rows.
use Rattle.std.specs.Prelude.{ℕ, zero, suc, ◌+◌, List, [], ◌∷◌, ◌++◌, Option, Some, None, slice_get, unwrap_or}
use Rattle.check_terms.specs.declared.row.Form.{Form}
use Rattle.check_terms.specs.declared.row.Form.TheVariants as F
use Rattle.check_terms.specs.declared.row.Row.{Row}
use Rattle.check_instances.specs.declared.closed.closed.Meaning.{Meaning}

abbrev pub no_places : ℕ → List (Option ℕ)
no_places zero = []
no_places (suc n) = None ∷ no_places n

-- with this place at the row
abbrev pub placed : ℕ → ℕ → List (Option ℕ) → List (Option ℕ)
placed n p [] = []
placed zero p (o ∷ os) = Some p ∷ os
placed (suc n) p (o ∷ os) = o ∷ placed n p os

-- with the places of these, of which the first has this one
abbrev pub placed_all : ℕ → List Meaning → List (Option ℕ) → List (Option ℕ)
placed_all i [] os = os
placed_all i (m ∷ ms) os = placed_all (i + 1) ms (placed m.call i os)

-- the row in parentheses
abbrev pub parens_of : Form → Option ℕ → Option ℕ
parens_of F.Parens first = first
parens_of f first = None

abbrev pub parens_in : Option Row → Option ℕ
parens_in None = None
parens_in (Some r) = parens_of r.form r.first

abbrev pub parens_at : List Row → ℕ → Option ℕ
parens_at rows n = parens_in (slice_get rows n)

-- what the row is out of its parentheses, by what those before it are
abbrev pub out_by : List ℕ → ℕ → Option ℕ → ℕ
out_by done n None = n
out_by done n (Some i) = unwrap_or (slice_get done i) n

abbrev pub out_of : List Row → List ℕ → ℕ → ℕ
out_of rows done n = out_by done n (parens_at rows n)

-- the same of the first so many rows
abbrev pub all_out : List Row → ℕ → List ℕ
all_out rows zero = []
all_out rows (suc n) = all_out rows n ++ out_of rows (all_out rows n) n ∷ []
