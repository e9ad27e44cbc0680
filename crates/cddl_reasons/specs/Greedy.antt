-- Whether what took the last item of an array need not have taken it, as far as the numbers of items tell (RFC 8610 appendix A: an
-- occurrence takes what it can, and nothing is given back).
use Rattle.std.specs.Prelude.{ℕ, ◌<◌, ◌≤◌, zero, suc, ◌-◌, Bool, true, false, nat_lt, if◌then◌else◌, List, [], ◌∷◌, Option, Some, None, length, reverse, take}
use Rattle.cddl_meaning.specs.Forms as F
use Rattle.cddl_meaning.specs.Forms.{Language}
use Rattle.cddl_meaning.specs.Moves as M
use Rattle.table_nodes.specs.declared.nodes.GroupId.{GroupId}
use Rattle.table_nodes.specs.declared.nodes.TypeId.{TypeId}
use Rattle.cddl_reasons.specs.Known.{last_known}

-- How many rounds there may be of a group each of whose rounds takes one item, at least and at most.

abbrev pub each_round : F.Group TypeId GroupId → ℕ → F.Most → Option (ℕ × F.Most)
each_round (F.Entry m) least most = Some (least, most)
each_round _ least most = None

abbrev pub rounds_of : Language TypeId GroupId → F.Group TypeId GroupId → Option (ℕ × F.Most)
rounds_of l (F.Entry m) = Some (1, F.at_most 1)
rounds_of l (F.Repeat least most g) = each_round (l.group_at g) least most
rounds_of l _ = None

-- So many items are more than these parts take at most.

abbrev pub over_most : F.Most → ℕ → (others : ℕ → Bool) → Bool
over_most F.any_number_of n others = false
over_most (F.at_most most) n others = if nat_lt most n then others (n - most) else false

abbrev pub over_rounds : Option (ℕ × F.Most) → ℕ → (others : ℕ → Bool) → Bool
over_rounds None n others = false
over_rounds (Some (least, most)) n others = over_most most n others

abbrev pub is_over : Language TypeId GroupId → List GroupId → ℕ → Bool
is_over l [] n = nat_lt 0 n
is_over l (g ∷ gs) n = over_rounds (rounds_of l (l.group_at g)) n (is_over l gs)

-- So many items were taken by these parts, the last part first. Whatever each has taken, the last that took any need not have taken as
-- many: a part that must take some is the last one, and those before it take too few at most.

abbrev pub by_least : Option (ℕ × F.Most) → ℕ → (optional must : ℕ → Bool) → Bool
by_least None n optional must = false
by_least (Some (least, most)) n optional must = if nat_lt 0 least then (if nat_lt least n then must (n - least) else false) else optional n

abbrev pub is_spare : Language TypeId GroupId → List GroupId → ℕ → Bool
is_spare l [] n = nat_lt 0 n
is_spare l (g ∷ gs) n = by_least (rounds_of l (l.group_at g)) n (is_spare l gs) (is_over l gs)

-- the parts of a sequence before the one that is asked, which has so many after it
abbrev pub parts_before : F.Group TypeId GroupId → (after : ℕ) → List GroupId
parts_before (F.Sequence gs) after = take ((length gs - after) - 1) gs
parts_before _ after = []

-- The same of a sequence that was asked of so many items, and waits so: of its parts before the one that is asked.
abbrev pub is_greedy_in : Language TypeId GroupId → F.Group TypeId GroupId → M.Pending TypeId GroupId → ℕ → Bool
is_greedy_in l g (M.InSequence gs base far) n = is_spare l (reverse (parts_before g (length gs))) n
is_greedy_in l g _ n = false

-- What waits so asks for more than a further round of an occurrence that has had enough.
abbrev pub is_needed : M.Pending TypeId GroupId → Bool
is_needed (M.InRepeat least most g base q xs far) = nat_lt 0 least
is_needed _ = true

-- The same of an open question that was asked of any items. Of one that was asked of no items it is not known, unless what it asks is
-- not needed.
abbrev pub unless_needed : Bool → Option Bool
unless_needed true = None
unless_needed false = Some false

abbrev pub by_count : ℕ → (needed greedy : Bool) → Option Bool
by_count zero needed greedy = unless_needed needed
by_count (suc n) needed greedy = Some greedy

abbrev pub greedy_of : Language TypeId GroupId → M.Question TypeId GroupId → M.Pending TypeId GroupId → Option Bool
greedy_of l (M.OfGroup g base q xs) o = by_count (length xs) (is_needed o) (is_greedy_in l (l.group_at g) o (length xs))
greedy_of l _ o = Some false

-- the same of the last open question of which it is known
abbrev pub is_greedy : Language TypeId GroupId → List (M.Question TypeId GroupId) → List (M.Pending TypeId GroupId) → Bool
is_greedy l qs os = last_known (greedy_of l) qs os

-- What the number of items leaves, whatever each part has taken (the law greedy_is_certain).

abbrev pub is_share : F.Most → ℕ → Type 0
is_share F.any_number_of k = Unit {0}
is_share (F.at_most most) k = k ≤ most

-- a part has taken so many, as its bounds allow, if they are known
abbrev pub IsShare : Option (ℕ × F.Most) → ℕ → Type 0
IsShare None k = Unit {0}
IsShare (Some (least, most)) k = (least ≤ k) × is_share most k

abbrev pub AreShares : Language TypeId GroupId → List GroupId → List ℕ → Type 0
AreShares l [] [] = Unit {0}
AreShares l (g ∷ gs) (k ∷ ks) = IsShare (rounds_of l (l.group_at g)) k × AreShares l gs ks
AreShares l _ _ = ⊥

-- more than a part must take
abbrev pub IsMore : Option (ℕ × F.Most) → ℕ → Type 0
IsMore None k = ⊥
IsMore (Some (least, most)) k = least < k

abbrev pub more_or : Option (ℕ × F.Most) → ℕ → Type 0 → Type 0
more_or r zero others = others
more_or r (suc k) others = IsMore r (suc k)

-- The first of these parts that has taken any has taken more than it must.
abbrev pub HasMore : Language TypeId GroupId → List GroupId → List ℕ → Type 0
HasMore l (g ∷ gs) (k ∷ ks) = more_or (rounds_of l (l.group_at g)) k (HasMore l gs ks)
HasMore l _ _ = ⊥
