-- Whether what is asked need not be there: a further round of an occurrence that has had enough, for which no item is left.
use Rattle.std.specs.Prelude.{ℕ, zero, suc, Bool, true, false, List, Option, Some, None, length}
use Rattle.cddl_meaning.specs.Moves as M
use Rattle.table_nodes.specs.declared.nodes.GroupId.{GroupId}
use Rattle.table_nodes.specs.declared.nodes.TypeId.{TypeId}
use Rattle.cddl_reasons.specs.Greedy.{is_needed}
use Rattle.cddl_reasons.specs.Known.{last_known}

-- how many items are left for a round of an occurrence that waits so
abbrev pub left_for : M.Pending TypeId GroupId → ℕ
left_for (M.InRepeat least most g base q xs far) = length xs
left_for _ = 0

abbrev pub spared_by : (needed : Bool) → ℕ → Bool
spared_by true n = false
spared_by false zero = true
spared_by false (suc n) = false

-- what waits so asks for such a round
abbrev pub is_spared : M.Pending TypeId GroupId → Bool
is_spared o = spared_by (is_needed o) (left_for o)

-- It is so of what is asked by an open question that waits for such a round. Of another one that was asked of no items it is not known;
-- and where there were items for what is asked, or are, it has begun.
abbrev pub known_by : (spared : Bool) → ℕ → Option Bool
known_by true n = Some true
known_by false zero = None
known_by false (suc n) = Some false

abbrev pub optional_of : M.Question TypeId GroupId → M.Pending TypeId GroupId → Option Bool
optional_of (M.OfGroup g base q xs) o = known_by (is_spared o) (length xs)
optional_of _ o = Some false

-- by the open questions, the last one first
abbrev pub is_optional : List (M.Question TypeId GroupId) → List (M.Pending TypeId GroupId) → Bool
is_optional qs os = last_known optional_of qs os
