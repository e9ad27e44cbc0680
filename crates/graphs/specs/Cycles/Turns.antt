-- Nodes that are taken in turn, those of low components first, and what is left of them.
use Rattle.std.specs.Prelude.{◌≡◌, ◌⊎◌, ℕ, ◌+◌, ◌<◌, ◌≤◌, List, length, Bool, true, false, Option, Some, None, slice_get}
use Rattle.graphs.specs.declared.cycles.Edge.{Edge}
use Rattle.graphs.specs.declared.cycles.turns.Numbered.{Numbered}
use Rattle.graphs.specs.Cycles.Graph.{IsEdge}
use Rattle.graphs.specs.Cycles.Links.{Joins}

-- so many nodes with their numbers, in their own order
pub record AreNumbered (numbers : List ℕ) (count : ℕ) (numbered : List Numbered) : Type 0 where
  pub all : length numbered ≡ count
  pub each : (i : ℕ) (n : Numbered) → slice_get numbered i ≡ Some n → (n.node ≡ i) × (slice_get numbers i ≡ Some n.number)

-- each node with the number of its component, low numbers first
pub record AreSorted (numbers : List ℕ) (sorted : List Numbered) : Type 0 where
  pub each : (i : ℕ) (n : Numbered) → slice_get sorted i ≡ Some n → slice_get numbers n.node ≡ Some n.number
  pub all : (a c : ℕ) → slice_get numbers a ≡ Some c → (i : ℕ) × (slice_get sorted i ≡ Some (record { number = c; node = a }))
  pub rising : (i j : ℕ) (m n : Numbered) → slice_get sorted i ≡ Some m → slice_get sorted j ≡ Some n → i ≤ j → m.number ≤ n.number

-- the node is not placed, and its edges lead to nodes that are
pub record IsReady (nodes : ℕ) (edges : List Edge) (placed : List Bool) (a : ℕ) : Type 0 where
  pub fresh : slice_get placed a ≡ Some true → ⊥
  pub below : (b : ℕ) → IsEdge nodes edges a b → slice_get placed b ≡ Some true

-- one of the node's edges leads to a node that is not placed
pub record IsHeld (nodes : ℕ) (edges : List Edge) (placed : List Bool) (a : ℕ) : Type 0 where
  pub by : ℕ
  pub edge : IsEdge nodes edges a by
  pub not_yet : slice_get placed by ≡ Some true → ⊥

-- an edge of this number is at the one at hand or before it
abbrev pub IsLeft : Option ℕ → ℕ → Type 0
IsLeft None e = ⊥
IsLeft (Some f) e = e ≤ f

abbrev pub left_at_most : Option ℕ → ℕ
left_at_most None = 0
left_at_most (Some e) = e + 1

-- each edge of the node is left, or leads to a node that is placed
pub record AreBelow (nodes : ℕ) (edges : List Edge) (placed : List Bool) (a : ℕ) (next : Option ℕ) : Type 0 where
  pub fresh : slice_get placed a ≡ Some true → ⊥
  pub there : (e : ℕ) → next ≡ Some e → (b : ℕ) × Joins nodes edges e a b
  pub below : (e b : ℕ) → Joins nodes edges e a b → IsLeft next e ⊎ (slice_get placed b ≡ Some true)

-- whether the node comes next
abbrev pub IsNext : ℕ → List Edge → List Bool → ℕ → Bool → Type 0
IsNext nodes edges placed a true = IsReady nodes edges placed a
IsNext nodes edges placed a false = (slice_get placed a ≡ Some true) ⊎ IsHeld nodes edges placed a

abbrev pub IsIn : List ℕ → ℕ → Type 0
IsIn order a = (i : ℕ) × (slice_get order i ≡ Some a)

-- a node of this place or a later one
pub record ComesLater (sorted : List Numbered) (k b : ℕ) : Type 0 where
  pub place : ℕ
  pub later : k ≤ place
  pub what : Numbered
  pub there : slice_get sorted place ≡ Some what
  pub is : what.node ≡ b

-- the node of this place was left out for one of its edges: that node is not in the order, or was taken no sooner
pub record WasHeld (nodes : ℕ) (edges : List Edge) (sorted : List Numbered) (order : List ℕ) (k a : ℕ) : Type 0 where
  pub by : ℕ
  pub edge : IsEdge nodes edges a by
  pub if_in : IsIn order by → ComesLater sorted k by

-- the order after so many of the nodes were taken in turn
pub record AreTaken (nodes : ℕ) (edges : List Edge) (sorted : List Numbered) (count : ℕ) (order : List ℕ) : Type 0 where
  pub within : (i a : ℕ) → slice_get order i ≡ Some a → a < nodes
  pub once : (i j a : ℕ) → slice_get order i ≡ Some a → slice_get order j ≡ Some a → i ≡ j
  pub after : (i a b : ℕ) → slice_get order i ≡ Some a → IsEdge nodes edges a b → (j : ℕ) × (j < i) × (slice_get order j ≡ Some b)
  pub left : (k : ℕ) (n : Numbered) → k < count → slice_get sorted k ≡ Some n → IsIn order n.node ⊎ WasHeld nodes edges sorted order k n.node

-- for each node whether it is in the order
pub record ArePlaced (placed : List Bool) (order : List ℕ) : Type 0 where
  pub in_order : (a : ℕ) → slice_get placed a ≡ Some true → IsIn order a
  pub flagged_so : (i a : ℕ) → slice_get order i ≡ Some a → slice_get placed a ≡ Some true
