-- The edges of each node, linked from the last one down, and numbers of components.
use Rattle.std.specs.Prelude.{◌≡◌, ◌⊎◌, ℕ, ◌<◌, ◌≤◌, List, [], ◌∷◌, length, Bool, true, false, cond, Option, Some, None, nat_eq, slice_get, set, replicate}
use Rattle.graphs.specs.declared.cycles.Edge.{Edge}
use Rattle.graphs.specs.Cycles.Graph.{IsEdge, LeadsOn}

-- the edge of this number is one from a to b
pub record Joins (nodes : ℕ) (edges : List Edge) (e a b : ℕ) : Type 0 where
  pub there : slice_get edges e ≡ Some (record { from = a; to = b })
  pub begins : a < nodes
  pub ends : b < nodes

-- the last edge from a below the number, if there is one
pub record IsLastEdge (nodes : ℕ) (edges : List Edge) (a most e : ℕ) : Type 0 where
  pub to : ℕ
  pub joins : Joins nodes edges e a to
  pub below : e < most
  pub last : (k b : ℕ) → Joins nodes edges k a b → k < most → k ≤ e

abbrev pub IsLast : ℕ → List Edge → ℕ → ℕ → Option ℕ → Type 0
IsLast nodes edges a most None = (k b : ℕ) → Joins nodes edges k a b → k < most → ⊥
IsLast nodes edges a most (Some e) = IsLastEdge nodes edges a most e

-- for each node the last of its edges below the number
pub record AreHeads (nodes : ℕ) (edges : List Edge) (most : ℕ) (heads : List (Option ℕ)) : Type 0 where
  pub all : length heads ≡ nodes
  pub each : (a : ℕ) (o : Option ℕ) → slice_get heads a ≡ Some o → IsLast nodes edges a most o

-- for each of so many edges the last before it that leaves the same node
pub record AreLinks (nodes : ℕ) (edges : List Edge) (links : List (Option ℕ)) : Type 0 where
  pub each : (e a b : ℕ) (o : Option ℕ) → Joins nodes edges e a b → slice_get links e ≡ Some o → IsLast nodes edges a e o

pub record IsLinked (nodes : ℕ) (edges : List Edge) (heads links : List (Option ℕ)) : Type 0 where
  pub heads_are : AreHeads nodes edges (length edges) heads
  pub all : length links ≡ length edges
  pub links_are : AreLinks nodes edges links

-- a leads to b over any number of edges
abbrev pub Leads : ℕ → List Edge → ℕ → ℕ → Type 0
Leads nodes edges a b = (a ≡ b) ⊎ LeadsOn nodes edges a b

-- numbers of components: they do not go up along an edge, and where they stay, the edge is on a cycle
pub record AreNumbers (nodes : ℕ) (edges : List Edge) (numbers : List ℕ) : Type 0 where
  pub all : length numbers ≡ nodes
  pub below : (i r : ℕ) → slice_get numbers i ≡ Some r → r < nodes
  pub down : (a b r s : ℕ) → IsEdge nodes edges a b → slice_get numbers a ≡ Some r → slice_get numbers b ≡ Some s → s ≤ r
  pub same : (a b r : ℕ) → slice_get numbers a ≡ Some r → slice_get numbers b ≡ Some r → Leads nodes edges a b

abbrev pub are_same : Option ℕ → Option ℕ → Bool
are_same (Some a) (Some b) = nat_eq a b
are_same (Some a) None = false
are_same None b = false

-- whether the edge is between nodes of one component
abbrev pub inside : List ℕ → Edge → Bool
inside numbers e = are_same (slice_get numbers e.from) (slice_get numbers e.to)

abbrev pub flagged : List ℕ → List Edge → List Bool → List Bool
flagged numbers [] flags = flags
flagged numbers (e ∷ edges) flags = flagged numbers edges (cond (inside numbers e) (set flags e.from true) flags)

abbrev pub flags_of : List ℕ → List Edge → List Bool
flags_of numbers edges = flagged numbers edges (replicate (length numbers) false)
