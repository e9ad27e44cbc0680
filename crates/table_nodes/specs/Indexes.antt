-- What contracts see of indexes by literals.
use Rattle.std.specs.Prelude.{◌≡◌, ℕ, min, List, [], ◌∷◌, ◌++◌, length, Some, false, slice_get}
use Rattle.std.specs.Coded.{×_prop, Π_prop}
use Rattle.cbor_data.specs.Same.{same_value}
use Rattle.cbor_data.specs.Value.{Value}
use Rattle.cddl_meaning.specs.Forms as F
use Rattle.cddl_meaning.specs.Forms.{equals}
use Rattle.next_same.specs.Chains.{IsNext}
use Rattle.next_same.specs.Linked.{AreChains, are_chains_once}
use Rattle.table_nodes.specs.Choices.{buckets_in, type_in}
use Rattle.table_nodes.specs.Codes.{bucket_of}
use Rattle.table_nodes.specs.Entries.{entry_buckets_in}
use Rattle.table_nodes.specs.declared.indexes.Candidates.{Candidates}
use Rattle.table_nodes.specs.declared.indexes.LiteralIndex.{LiteralIndex}
use Rattle.table_nodes.specs.declared.nodes.Node.{Node}
use Rattle.table_nodes.specs.declared.nodes.TypeId.{TypeId}

-- It has the members of a choice, each in its bucket; or the entries of an alternative.
abbrev pub IsIndexOf : {N G : Type 0} → (N → F.Node N G) → List N → LiteralIndex → Type 0
IsIndexOf type_at ms index = AreChains (buckets_in type_at ms) index.chains

abbrev pub IsEntryIndexOf : {N G : Type 0} → (N → F.Node N G) → List (F.MapEntry N) → LiteralIndex → Type 0
IsEntryIndexOf type_at es index = AreChains (entry_buckets_in type_at es) index.chains

-- the first of the next ones
abbrev pub first_of : Candidates → ℕ
first_of c = min c.literal c.other

-- These are the next positions, from one on, of so many with their buckets: in the bucket of a value, and in the last one.
abbrev pub AreNextIn : List ℕ → (buckets : ℕ) → Value → ℕ → Candidates → Type 0
AreNextIn bs buckets x from c = IsNext bs (bucket_of buckets x) from c.literal × IsNext bs buckets from c.other

-- They are the next members of a choice; or the next entries of an alternative.
abbrev pub AreNext : {N G : Type 0} → (N → F.Node N G) → List N → Value → ℕ → Candidates → Type 0
AreNext type_at ms x from c = AreNextIn (buckets_in type_at ms) (length ms) x from c

abbrev pub AreNextEntries : {N G : Type 0} → (N → F.Node N G) → List (F.MapEntry N) → Value → ℕ → Candidates → Type 0
AreNextEntries type_at es x from c = AreNextIn (entry_buckets_in type_at es) (length es) x from c

-- The member is a literal of another value.
abbrev pub IsOther : {N G : Type 0} → F.Node N G → Value → Type 0
IsOther f x = (v : Value) × (f ≡ F.Plain (equals v)) × (same_value x v ≡ false)

-- Each index of a list has the members of its choice, or the entries of its alternative.
abbrev pub IsIndexed : List Node → LiteralIndex → Type 0
IsIndexed types index = ((ms : List TypeId) → type_in types index.of ≡ F.Choice ms → IsIndexOf (type_in types) ms index) × ((ways : List (List (F.MapEntry TypeId))) (es : List (F.MapEntry TypeId)) → type_in types index.of ≡ F.MapOf ways → slice_get ways index.way ≡ Some es → IsEntryIndexOf (type_in types) es index)

abbrev pub AreIndexed : List Node → List LiteralIndex → Type 0
AreIndexed types indexes = (i : ℕ) (index : LiteralIndex) → slice_get indexes i ≡ Some index → IsIndexed types index

-- One index comes after the others, of these buckets.
pub record IsOneMore (before : List LiteralIndex) (of : TypeId) (way : ℕ) (buckets : List ℕ) (after : List LiteralIndex) : Type 0 where
  pub index : LiteralIndex
  pub last : after ≡ before ++ index ∷ []
  pub same_type : index.of ≡ of
  pub same_way : index.way ≡ way
  pub chains : AreChains buckets index.chains

-- That has one proof at most, so a table may hold it.
pub are_indexed_once : (types : List Node) (indexes : List LiteralIndex) → IsProp (AreIndexed types indexes)
are_indexed_once types indexes = Π_prop (λ i. Π_prop (λ index. Π_prop (λ e. ×_prop (Π_prop (λ ms. Π_prop (λ f. are_chains_once (buckets_in (type_in types) ms) index.chains))) (Π_prop (λ ways. Π_prop (λ es. Π_prop (λ f. Π_prop (λ g. are_chains_once (entry_buckets_in (type_in types) es) index.chains))))))))
