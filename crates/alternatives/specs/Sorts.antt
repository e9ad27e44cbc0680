-- The sorts of alternatives, by which it is known which occurrences a group may have.
use Rattle.std.specs.Prelude.{Bool, true, false, if◌then◌else◌, ◌||◌, not, List, [], ◌∷◌}
use Rattle.std.specs.List.{list_all, list_any}
use Rattle.alternatives.specs.declared.Member.{Member}
use Rattle.alternatives.specs.declared.summary.Sorts.{Sorts}
use Rattle.alternatives.specs.Splices.{Alternatives, is_optional, is_open, is_needed}

-- without members; only members of minimum 0; one member, of minimum 1; other ones
pub data Sort : Type 0 where
  empty optional needed other : Sort

-- of members, of which there is at least one
abbrev pub sort_of_some : List Member → Sort
sort_of_some ms = if list_all is_optional ms then optional else (if is_needed ms then needed else other)

abbrev pub sort : List Member → Sort
sort [] = empty
sort (m ∷ ms) = sort_of_some (m ∷ ms)

abbrev pub no_sorts : Sorts
no_sorts = record { empty = false; optional = false; needed = false; other = false }

abbrev pub only : Sort → Sorts
only empty = record { empty = true; optional = false; needed = false; other = false }
only optional = record { empty = false; optional = true; needed = false; other = false }
only needed = record { empty = false; optional = false; needed = true; other = false }
only other = record { empty = false; optional = false; needed = false; other = true }

abbrev pub joined : Sorts → Sorts → Sorts
joined s t = record { empty = s.empty || t.empty; optional = s.optional || t.optional; needed = s.needed || t.needed; other = s.other || t.other }

-- the sorts that there are among the alternatives
abbrev pub sorts_of : Alternatives → Sorts
sorts_of [] = no_sorts
sorts_of (ms ∷ mss) = joined (only (sort ms)) (sorts_of mss)

-- a maximum is 0
abbrev pub is_closed : Member → Bool
is_closed m = not (is_open m.bounds.most)

abbrev pub any_closed : List Member → Bool
any_closed ms = list_any is_closed ms
