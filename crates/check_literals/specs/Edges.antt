-- The edges of a graph of rows: from each to those whose literals it needs.
use Rattle.std.specs.Prelude.{ℕ, suc, List, [], ◌∷◌, ◌++◌, map}
use Rattle.graphs.specs.declared.cycles.Edge.{Edge}
use Rattle.check_literals.specs.Needs.{Need, parts}

abbrev pub edge_to : ℕ → ℕ → Edge
edge_to n m = record { from = n; to = m }

abbrev pub edges_at : ℕ → Need → List Edge
edges_at n d = map (edge_to n) (parts d)

-- of these rows, from the number of the first on
abbrev pub edges_from : ℕ → List Need → List Edge
edges_from n [] = []
edges_from n (d ∷ ds) = edges_at n d ++ edges_from (suc n) ds
