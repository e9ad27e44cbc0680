-- Entries of maps in buckets, by the literals that their keys are known to be.
use Rattle.std.specs.Prelude.{ℕ, List, length, map, Option, Some, None}
use Rattle.cbor_data.specs.Value.{Value}
use Rattle.cddl_meaning.specs.Forms as F
use Rattle.cddl_meaning.specs.Forms.{key_in, most_forms}
use Rattle.table_nodes.specs.Codes.{bucket_of}

-- A literal is in the bucket of its value, and what is not known to be one in the last bucket.
abbrev pub literal_bucket : ℕ → Option Value → ℕ
literal_bucket buckets (Some v) = bucket_of buckets v
literal_bucket buckets None = buckets

-- the bucket of an entry; and of each of these, in as many as there are entries
abbrev pub entry_bucket : {N G : Type 0} → (N → F.Node N G) → ℕ → F.MapEntry N → ℕ
entry_bucket type_at buckets e = literal_bucket buckets (key_in type_at most_forms e.key_type)

abbrev pub entry_buckets_in : {N G : Type 0} → (N → F.Node N G) → List (F.MapEntry N) → List ℕ
entry_buckets_in type_at es = map (entry_bucket type_at (length es)) es
