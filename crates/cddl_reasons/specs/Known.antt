-- What is known of open questions, each by itself and by how it waits.
use Rattle.std.specs.Prelude.{Bool, false, List, ◌∷◌, Option, Some, None}
use Rattle.cddl_meaning.specs.Moves as M
use Rattle.table_nodes.specs.declared.nodes.GroupId.{GroupId}
use Rattle.table_nodes.specs.declared.nodes.TypeId.{TypeId}

abbrev pub first_known : Option Bool → Bool → Bool
first_known (Some b) next = b
first_known None next = next

-- of the last one of which it is known, with the last one first; where it is known of none, it is not so
abbrev pub last_known : (M.Question TypeId GroupId → M.Pending TypeId GroupId → Option Bool) → List (M.Question TypeId GroupId) → List (M.Pending TypeId GroupId) → Bool
last_known known (q ∷ qs) (o ∷ os) = first_known (known q o) (last_known known qs os)
last_known known _ _ = false
