-- The groups through which `&` chooses.
use Rattle.std.specs.Prelude.{◌≡◌, true, List, [], ◌∷◌}
use Rattle.cddl_language.specs.Terms.{Entries, no_entries, entries, Entry, typed, keyed, grouped, Definition, alternatives}
use Rattle.cddl_language.specs.Substitution.{group_choices}
use Rattle.cddl_language.specs.Kinds.{Part, asks_type, names_group, opens, part_of}
use Rattle.cddl_language.specs.Choices.{can_choose}

-- From each group in an entry, in entries and in alternatives it can choose: one that is named, that is opened, or in
-- parentheses.
module _ (ds : List Definition) where
  abbrev pub IsChosenPart : Part → Type 0
  IsChosenPart asks_type = Unit {0}
  IsChosenPart (names_group r) = can_choose ds (group_choices ds r) ≡ true
  IsChosenPart (opens r g) = can_choose ds (alternatives g) ≡ true

  abbrev pub IsChosenEntry : Entry → Type 0
  IsChosenEntry (typed o t) = IsChosenPart (part_of ds t)
  IsChosenEntry (keyed o k t) = Unit {0}
  IsChosenEntry (grouped o g) = can_choose ds (alternatives g) ≡ true

  abbrev pub AreChosenEntries : Entries → Type 0
  AreChosenEntries no_entries = Unit {0}
  AreChosenEntries (entries es e c) = AreChosenEntries es × IsChosenEntry e

  abbrev pub IsChosenEach : List Entries → Type 0
  IsChosenEach [] = Unit {0}
  IsChosenEach (es ∷ ess) = AreChosenEntries es × IsChosenEach ess
