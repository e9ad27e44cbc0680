-- Members of choices in buckets, by the literals that their forms are.
use Rattle.std.specs.Prelude.{ℕ, List, length, map, slice_get}
use Rattle.cddl_meaning.specs.Forms as F
use Rattle.cddl_meaning.specs.Forms.{equals}
use Rattle.table_nodes.specs.Codes.{bucket_of}
use Rattle.table_nodes.specs.Nodes.{type_or_none}
use Rattle.table_nodes.specs.declared.nodes.GroupId.{GroupId}
use Rattle.table_nodes.specs.declared.nodes.Node.{Node}
use Rattle.table_nodes.specs.declared.nodes.TypeId.{TypeId}

-- the type at each number of a list
abbrev pub type_in : List Node → TypeId → F.Node TypeId GroupId
type_in types n = type_or_none (slice_get types n.number)

-- A literal is in the bucket of its value, and what is no literal in the last one.
abbrev pub form_bucket : {N G : Type 0} → ℕ → F.Node N G → ℕ
form_bucket buckets (F.Plain (equals v)) = bucket_of buckets v
form_bucket buckets _ = buckets

-- the bucket of a member; and of each of these, in as many as there are members
abbrev pub member_bucket : {N G : Type 0} → (N → F.Node N G) → ℕ → N → ℕ
member_bucket type_at buckets m = form_bucket buckets (type_at m)

abbrev pub buckets_in : {N G : Type 0} → (N → F.Node N G) → List N → List ℕ
buckets_in type_at ms = map (member_bucket type_at (length ms)) ms
