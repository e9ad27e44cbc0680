-- Which names are parameters of which rules, by numbers.
use Rattle.std.specs.Prelude.{◌≡◌, ℕ, nat_eq, Bool, false, ◌&&◌, ◌||◌, List, Option, Some, None, slice_get}
use Rattle.std.specs.List.{list_any}
use Rattle.check_terms.specs.declared.definition.Definition.{Definition}
use Rattle.check_text.specs.declared.site_faults.marks.Mark.{Mark}

-- the rule at this index has the parameter of this number
abbrev pub has_mark : List Mark → ℕ → ℕ → Bool
has_mark ms rule k = list_any (λ m. nat_eq rule m.rule && nat_eq k m.name) ms

abbrev pub is_among : ℕ → List ℕ → Bool
is_among k ps = list_any (nat_eq k) ps

abbrev pub is_parameter_of : Option Definition → ℕ → Bool
is_parameter_of None k = false
is_parameter_of (Some d) k = is_among k d.parameters.items

-- the marks are of the definitions of the rules at their indexes
abbrev pub AreMarks : List Definition → List Mark → Type 0
AreMarks ds ms = (rule k : ℕ) → has_mark ms rule k ≡ is_parameter_of (slice_get ds rule) k

-- the marks have grown by this one, or by those of these parameters

abbrev pub AddsMark : ℕ → ℕ → List Mark → List Mark → Type 0
AddsMark rule name old new = (r k : ℕ) → has_mark new r k ≡ (has_mark old r k || (nat_eq r rule && nat_eq k name))

abbrev pub AddsMarks : ℕ → List ℕ → List Mark → List Mark → Type 0
AddsMarks rule ps old new = (r k : ℕ) → has_mark new r k ≡ (has_mark old r k || (nat_eq r rule && is_among k ps))
