-- What a search for nodes keeps.
use Rattle.std.specs.Prelude.{◌≡◌, ℕ, true, false, List, length, Some, slice_get}
use Rattle.cddl_meaning.specs.Alike.{AlikeGroups, AlikeTypes}
use Rattle.cddl_language.specs.Language.{GroupName, TypeName, first_of, group_form, reference, type_node}
use Rattle.cddl_language.specs.Kinds.{is_group}
use Rattle.cddl_language.specs.Substitution.{group_choices}
use Rattle.cddl_language.specs.Terms.{Ref, name_of}
use Rattle.check_terms.specs.Table.{Table}
use Rattle.table_nodes.specs.Nodes.{group_view, type_view}
use Rattle.table_nodes.specs.declared.nodes.Group.{Group}
use Rattle.table_nodes.specs.declared.nodes.GroupId.{GroupId}
use Rattle.table_nodes.specs.declared.nodes.Node.{Node}
use Rattle.table_nodes.specs.declared.nodes.TypeId.{TypeId}
use Rattle.table_making.specs.Basis.{Sense}
use Rattle.table_making.specs.Numbers.{AreNamed, HasGroupNumber, HasTypeNumber, Keys, keys_of}
use Rattle.table_making.specs.Origins.{IsGroupOrigin, IsTypeOrigin}
use Rattle.table_making.specs.declared.origin.GroupOrigin.{GroupOrigin}
use Rattle.table_making.specs.declared.origin.TypeOrigin.{TypeOrigin}
use Rattle.table_making.specs.declared.search.Search.{Search}

-- These types and groups are made, for the first of the numbers.
pub record IsSearch (s : Sense) (t : Table) (ks : Keys) (types : List Node) (groups : List Group) : Type 0 where
  pub named : AreNamed s t ks
  pub types_there : (i : ℕ) (m : Node) → slice_get types i ≡ Some m → (o : TypeOrigin) × (slice_get ks.types i ≡ Some o)
  pub groups_there : (i : ℕ) (m : Group) → slice_get groups i ≡ Some m → (o : GroupOrigin) × (slice_get ks.groups i ≡ Some o)
  pub types_made : (i : ℕ) (m : Node) (o : TypeOrigin) (n : TypeName) → slice_get types i ≡ Some m → slice_get ks.types i ≡ Some o → IsTypeOrigin s t n o → AlikeTypes (HasTypeNumber s t ks) (HasGroupNumber s t ks) (type_node s.worth s.definitions n) (type_view m)
  pub groups_made : (i : ℕ) (m : Group) (o : GroupOrigin) (n : GroupName) → slice_get groups i ≡ Some m → slice_get ks.groups i ≡ Some o → IsGroupOrigin s t n o → AlikeGroups (HasTypeNumber s t ks) (HasGroupNumber s t ks) (group_form s.worth s.definitions n) (group_view m)

abbrev pub keys_in : Search → Keys
keys_in v = keys_of v.numbers

abbrev pub HasSearch : Sense → Table → Search → Type 0
HasSearch s t v = IsSearch s t (keys_in v) v.types.items v.groups.items

-- no number is left
pub record IsWhole (v : Search) : Type 0 where
  pub types : (o : TypeOrigin) → slice_get (keys_in v).types (length v.types.items) ≡ Some o → ⊥
  pub groups : (o : GroupOrigin) → slice_get (keys_in v).groups (length v.groups.items) ≡ Some o → ⊥

-- what an instance means has a number, as a type or as a group
pub data HasNumber (s : Sense) (t : Table) (ks : Keys) (r : Ref) : Type 0 where
  of_type : (m : TypeId) → is_group s.definitions (name_of r) ≡ false → HasTypeNumber s t ks (reference r) m → HasNumber s t ks r
  of_group : (m : GroupId) → is_group s.definitions (name_of r) ≡ true → HasGroupNumber s t ks (first_of (group_choices s.definitions r)) m → HasNumber s t ks r
