-- The nodes of the graph by number, and its edges.
use Rattle.std.specs.Prelude.{ℕ, zero, suc, ◌+◌, ◌*◌, Bool, false, List, [], ◌∷◌, ◌++◌, Option, Some, None, slice_get}
use Rattle.graphs.specs.declared.cycles.Edge.{Edge}
use Rattle.alternatives.specs.declared.Part.{Part}
use Rattle.alternatives.specs.declared.Part.TheVariants.{Same, Both, Either, Occurs}
use Rattle.check_maps.specs.declared.spliced.listing.Spliced.{Spliced}
use Rattle.check_maps.specs.declared.spliced.owners.Owner.{Owner}
use Rattle.check_maps.specs.declared.spliced.owners.Owner.TheVariants as OwnerV
use Rattle.check_maps.specs.declared.map_cycles.layout.Layout.{Layout}

abbrev pub nodes : Layout → ℕ
nodes l = l.parts + l.entries + 2 * l.places

abbrev pub entry_node : Layout → ℕ → ℕ
entry_node l i = l.parts + i

abbrev pub owner_node : Layout → Owner → Option ℕ
owner_node l OwnerV.Map = None
owner_node l (OwnerV.Named k) = Some (l.parts + l.entries + 2 * k)
owner_node l (OwnerV.Opened k) = Some (l.parts + l.entries + 2 * k + 1)

abbrev pub edge_to : ℕ → Option ℕ → List Edge
edge_to n None = []
edge_to n (Some m) = record { from = n; to = m } ∷ []

-- from the rows

abbrev pub node_of : Layout → Option (Option Owner) → Option ℕ
node_of l (Some (Some w)) = owner_node l w
node_of l _ = None

abbrev pub target_node : Layout → List (Option Owner) → ℕ → Option ℕ
target_node l targets n = node_of l (slice_get targets n)

abbrev pub edges_by : Layout → List (Option Owner) → ℕ → Part → List Edge
edges_by l targets n (Same a) = edge_to n (Some a)
edges_by l targets n (Both a b) = edge_to n (Some a) ++ edge_to n (Some b)
edges_by l targets n (Either a b) = edge_to n (Some a) ++ edge_to n (Some b)
edges_by l targets n (Occurs _ a) = edge_to n (Some a) ++ edge_to n (target_node l targets n)
edges_by l targets n _ = []

abbrev pub part_edges : Layout → List (Option Owner) → ℕ → Option Part → List Edge
part_edges l targets n None = []
part_edges l targets n (Some p) = edges_by l targets n p

-- of the rows below the number
abbrev pub rows_edges : Layout → List Part → List (Option Owner) → ℕ → List Edge
rows_edges l parts targets zero = []
rows_edges l parts targets (suc n) = rows_edges l parts targets n ++ part_edges l targets n (slice_get parts n)

-- to and from the entries

abbrev pub owned_edges : (node row : ℕ) → Option ℕ → List Edge
owned_edges m r None = []
owned_edges m r (Some o) = edge_to o (Some m) ++ edge_to m (Some r)

abbrev pub entry_edges : Layout → ℕ → Option Spliced → List Edge
entry_edges l i None = []
entry_edges l i (Some x) = owned_edges (entry_node l i) x.row (owner_node l x.owner)

-- of the entries below the number
abbrev pub entries_edges : Layout → List Spliced → ℕ → List Edge
entries_edges l spliced zero = []
entries_edges l spliced (suc n) = entries_edges l spliced n ++ entry_edges l n (slice_get spliced n)

abbrev pub all_edges : Layout → List Part → List (Option Owner) → List Spliced → List Edge
all_edges l parts targets spliced = rows_edges l parts targets l.parts ++ entries_edges l spliced l.entries

-- the marks of the entries' nodes

abbrev pub mark_in : Option Bool → Bool
mark_in None = false
mark_in (Some m) = m

abbrev pub flags_below : Layout → List Bool → ℕ → List Bool
flags_below l marks zero = []
flags_below l marks (suc n) = flags_below l marks n ++ mark_in (slice_get marks (entry_node l n)) ∷ []
