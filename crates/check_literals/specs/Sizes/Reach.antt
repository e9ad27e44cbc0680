-- The rows to which a row leads, and the search for them.
use Rattle.std.specs.Prelude.{◌≡◌, ℕ, ◌+◌, ◌<◌, List, [], ◌∷◌, ◌++◌, length, set, Bool, false, cond, not, nat_eq, Option, Some, None, slice_get}
use Rattle.check_literals.specs.declared.sizes.reach.Search.{Search}
use Rattle.check_literals.specs.declared.sizes.sources.Source.{Source}
use Rattle.check_literals.specs.Sizes.Sources.{In, IsPart, View, no_members, numbers, members_of, members_of_choices, view_at}

-- from part to part, in any number of steps
pub data Leads (ss : List Source) : ℕ → ℕ → Type 0 where
  here : {a : ℕ} → Leads ss a a
  onwards : {a b c : ℕ} → IsPart ss a b → Leads ss b c → Leads ss a c

-- all rows to which this one leads
pub record IsReached (ss : List Source) (start : ℕ) (reached : List ℕ) : Type 0 where
  pub only : (m : ℕ) → In reached m → Leads ss start m
  pub all : (m : ℕ) → Leads ss start m → m < length ss → In reached m

pub record State : Type 0 where
  pub marks : List ℕ
  pub mark : ℕ
  pub reached : List ℕ

abbrev pub state : Search → State
state s = record { marks = s.marks.items; mark = s.mark; reached = s.reached.items }

-- whether there is a row, and it has another mark
abbrev pub is_new : ℕ → Option ℕ → Bool
is_new mark None = false
is_new mark (Some m) = not (nat_eq m mark)

abbrev pub found : ℕ → State → State
found p s = record { marks = set s.marks p s.mark; mark = s.mark; reached = s.reached ++ p ∷ [] }

-- a row is looked at
abbrev pub looked : ℕ → State → State
looked p s = cond (is_new s.mark (slice_get s.marks p)) (found p s) s

-- one row after the other
abbrev pub visited : List ℕ → State → State
visited [] s = s
visited (p ∷ ps) s = visited ps (looked p s)

-- how many rows have another mark
abbrev pub unmarked : ℕ → List ℕ → ℕ
unmarked mark [] = 0
unmarked mark (m ∷ ms) = cond (nat_eq m mark) 0 1 + unmarked mark ms

abbrev pub gap : State → ℕ
gap s = unmarked s.mark s.marks + length s.reached

abbrev pub AreBelow : ℕ → List ℕ → Type 0
AreBelow mark marks = (n m : ℕ) → slice_get marks n ≡ Some m → m < mark

-- Just the rows that were reached have the mark.
pub record IsSearch (ss : List Source) (start : ℕ) (s : State) : Type 0 where
  pub all : length s.marks ≡ length ss
  pub marked : (m : ℕ) → slice_get s.marks m ≡ Some s.mark → In s.reached m
  pub reached : (m : ℕ) → In s.reached m → slice_get s.marks m ≡ Some s.mark
  pub only : (m : ℕ) → In s.reached m → Leads ss start m
  pub below : AreBelow (s.mark + 1) s.marks
  pub first : start < length ss → In s.reached start

-- The parts of the first rows of these were reached.
abbrev pub AreVisited : List Source → ℕ → List ℕ → Type 0
AreVisited ss next reached = (j a : ℕ) → j < next → slice_get reached j ≡ Some a → (b : ℕ) → IsPart ss a b → In reached b

-- the numbers of these rows

abbrev pub range_in : View → Option (ℕ × ℕ)
range_in no_members = None
range_in (numbers r) = Some r
range_in (members_of ms) = None
range_in (members_of_choices ms) = None

abbrev pub with_range : Option (ℕ × ℕ) → List (ℕ × ℕ) → List (ℕ × ℕ)
with_range None rs = rs
with_range (Some r) rs = r ∷ rs

abbrev pub ranges_of : List Source → List ℕ → List (ℕ × ℕ)
ranges_of ss [] = []
ranges_of ss (m ∷ ms) = with_range (range_in (view_at ss m)) (ranges_of ss ms)
