-- Graphs of nodes by number: their edges, where these lead, ranks that go down along them, and the nodes on cycles.
use Rattle.std.specs.Prelude.{◌≡◌, ◌↔◌, ℕ, ◌<◌, List, length, Bool, true, Some, slice_get, Contains}
use Rattle.graphs.specs.declared.cycles.Edge.{Edge}
use Rattle.graphs.specs.declared.cycles.Order.{Order}
use Rattle.graphs.specs.declared.cycles.Order.TheVariants as OrderV

-- an edge of the list, from one node to another. An edge whose end is no node is none.
pub record IsEdge (nodes : ℕ) (edges : List Edge) (a b : ℕ) : Type 0 where
  pub place : ℕ
  pub there : slice_get edges place ≡ Some (record { from = a; to = b })
  pub begins : a < nodes
  pub ends : b < nodes

-- a leads to b over one or more edges
pub data LeadsOn (nodes : ℕ) (edges : List Edge) : ℕ → ℕ → Type 0 where
  at_once : {a b : ℕ} → IsEdge nodes edges a b → LeadsOn nodes edges a b
  onwards : {a b c : ℕ} → IsEdge nodes edges a b → LeadsOn nodes edges b c → LeadsOn nodes edges a c

-- a rank for each node, which goes down along each edge
pub record AreRanks (nodes : ℕ) (edges : List Edge) (ranks : List ℕ) : Type 0 where
  pub all : length ranks ≡ nodes
  pub below : (i r : ℕ) → slice_get ranks i ≡ Some r → r < nodes
  pub down : (a b r s : ℕ) → IsEdge nodes edges a b → slice_get ranks a ≡ Some r → slice_get ranks b ≡ Some s → s < r

-- for each node whether it leads back to itself, as some node does
pub record AreOnCycles (nodes : ℕ) (edges : List Edge) (flags : List Bool) : Type 0 where
  pub all : length flags ≡ nodes
  pub each : (i : ℕ) → (slice_get flags i ≡ Some true) ↔ LeadsOn nodes edges i i
  pub one : (i : ℕ) × (slice_get flags i ≡ Some true)

abbrev pub IsOrder : ℕ → List Edge → Order → Type 0
IsOrder nodes edges (OrderV.Ranks v) = AreRanks nodes edges v.items
IsOrder nodes edges (OrderV.Cycles v) = AreOnCycles nodes edges v.items

-- Nodes in an order in which each comes after those to which its edges lead, and comes once. It has all that can be
-- ordered so: each other node leads to one that is not in it.
pub record IsBottomUp (nodes : ℕ) (edges : List Edge) (order : List ℕ) : Type 0 where
  pub within : (i a : ℕ) → slice_get order i ≡ Some a → a < nodes
  pub once : (i j a : ℕ) → slice_get order i ≡ Some a → slice_get order j ≡ Some a → i ≡ j
  pub after : (i a b : ℕ) → slice_get order i ≡ Some a → IsEdge nodes edges a b → (j : ℕ) × (j < i) × (slice_get order j ≡ Some b)
  pub others : (a : ℕ) → a < nodes → (Contains order a → ⊥) → (b : ℕ) × IsEdge nodes edges a b × (Contains order b → ⊥)
