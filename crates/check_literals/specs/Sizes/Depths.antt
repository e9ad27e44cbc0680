-- How many names the members of each row take.
use Rattle.std.specs.Prelude.{◌≡◌, ℕ, zero, suc, ◌+◌, ◌<◌, Bool, true, false, if◌then◌else◌, List, [], ◌∷◌, ◌++◌, length, Option, Some, None, nat_le, nat_lt, slice_get}
use Rattle.graphs.specs.declared.cycles.Edge.{Edge}
use Rattle.cddl_language.specs.Reach.{most_instances}
use Rattle.check_literals.specs.declared.sizes.sources.Source.{Source}
use Rattle.check_literals.specs.Sizes.Sources.{View, no_members, numbers, members_of, members_of_choices, parts_in, view_at}

abbrev pub answered : Option (Option ℕ) → Option ℕ
answered None = None
answered (Some o) = o

-- the depth of a row, if it has members
abbrev pub depth_at : List (Option ℕ) → ℕ → Option ℕ
depth_at ds n = answered (slice_get ds n)

-- through one more name, where that is not too many
abbrev pub through_name : Option ℕ → Option ℕ
through_name None = None
through_name (Some d) = if nat_lt d most_instances then Some (d + 1) else None

abbrev pub step : (named : Bool) → Option ℕ → Option ℕ
step true d = through_name d
step false d = d

abbrev pub greater : ℕ → ℕ → ℕ
greater a b = if nat_lt a b then b else a

abbrev pub deeper : Option ℕ → Option ℕ → Option ℕ
deeper (Some a) (Some b) = Some (greater a b)
deeper _ _ = None

-- the depth of what has the members of all these
abbrev pub deepest : (named : Bool) → List (Option ℕ) → List ℕ → Option ℕ
deepest b ds [] = Some 0
deepest b ds (m ∷ ms) = deeper (step b (depth_at ds m)) (deepest b ds ms)

abbrev pub depth_by : List (Option ℕ) → View → Option ℕ
depth_by ds no_members = None
depth_by ds (numbers r) = Some 0
depth_by ds (members_of ms) = deepest false ds ms
depth_by ds (members_of_choices ms) = deepest true ds ms

-- The depth of each row is the one that its parts make it.
pub record AreDepths (ss : List Source) (ds : List (Option ℕ)) : Type 0 where
  pub all : length ds ≡ length ss
  pub each : (n : ℕ) → n < length ss → depth_at ds n ≡ depth_by ds (view_at ss n)

-- an edge to each part

abbrev pub edges_to : ℕ → List ℕ → List Edge
edges_to a [] = []
edges_to a (b ∷ bs) = record { from = a; to = b } ∷ edges_to a bs

-- from the rows before this one
abbrev pub edges_before : List Source → ℕ → List Edge
edges_before ss zero = []
edges_before ss (suc n) = edges_before ss n ++ edges_to n (parts_in (view_at ss n))

-- whether the row has members through so many names
abbrev pub goes : Option ℕ → ℕ → Bool
goes None k = false
goes (Some d) k = nat_le d k

-- whether it has members
abbrev pub is_few : Option ℕ → Bool
is_few d = goes d most_instances
