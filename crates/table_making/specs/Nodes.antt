-- The nodes of a table, alike to the language of closed terms.
use Rattle.std.specs.Prelude.{◌≡◌, ℕ, List, length, Contains, Some, slice_get}
use Rattle.cddl_meaning.specs.Alike.{AreAlike}
use Rattle.cddl_language.specs.Terms.{Ref, call, no_terms}
use Rattle.cddl_language.specs.Language.{GroupName, TypeName, language, reference}
use Rattle.cddl_language.specs.StandsFor.{HasNode}
use Rattle.check_terms.specs.Table.{Table}
use Rattle.table_nodes.specs.Nodes.{language_in}
use Rattle.table_nodes.specs.declared.nodes.TypeId.{TypeId}
use Rattle.table_nodes.specs.declared.nodes.GroupId.{GroupId}
use Rattle.table_making.specs.Basis.{Sense}
use Rattle.table_making.specs.Origins.{IsGroupOrigin, IsTypeOrigin}
use Rattle.table_making.specs.declared.making.Nodes.{Nodes}
use Rattle.table_making.specs.declared.origin.GroupOrigin.{GroupOrigin}
use Rattle.table_making.specs.declared.origin.TypeOrigin.{TypeOrigin}

-- The names are of what the numbers are of.
module _ (s : Sense) (t : Table) (v : Nodes) where
  pub record IsNameOfType (n : TypeName) (m : TypeId) : Type 0 where
    pub origin : TypeOrigin
    pub there : slice_get v.type_origins.items m.number ≡ Some origin
    pub named : IsTypeOrigin s t n origin

  pub record IsNameOfGroup (n : GroupName) (m : GroupId) : Type 0 where
    pub origin : GroupOrigin
    pub there : slice_get v.group_origins.items m.number ≡ Some origin
    pub named : IsGroupOrigin s t n origin

  -- Each number has a name that is of what the number is of, and the form of the name. All instances and the root have numbers.
  pub record AreNodes : Type 0 where
    pub type_names : List (TypeName × TypeId)
    pub group_names : List (GroupName × GroupId)
    pub type_count : length v.types.items ≡ length v.type_origins.items
    pub group_count : length v.groups.items ≡ length v.group_origins.items
    pub types_named : (i : ℕ) (o : TypeOrigin) → slice_get v.type_origins.items i ≡ Some o → (n : TypeName) × IsTypeOrigin s t n o
    pub groups_named : (i : ℕ) (o : GroupOrigin) → slice_get v.group_origins.items i ≡ Some o → (n : GroupName) × IsGroupOrigin s t n o
    pub types_told : (n : TypeName) (m : TypeId) → Contains type_names (n, m) → IsNameOfType n m
    pub groups_told : (n : GroupName) (m : GroupId) → Contains group_names (n, m) → IsNameOfGroup n m
    pub types_found : (n : TypeName) (m : TypeId) → IsNameOfType n m → Contains type_names (n, m)
    pub groups_found : (n : GroupName) (m : GroupId) → IsNameOfGroup n m → Contains group_names (n, m)
    pub alike : AreAlike (language s.worth s.definitions) (language_in v.types.items v.groups.items) (λ (n : TypeName) (m : TypeId). Contains type_names (n, m)) (λ (n : GroupName) (m : GroupId). Contains group_names (n, m))
    pub root_node : Contains type_names (reference (call s.root no_terms), v.root)
    pub have_nodes : (r : Ref) → Contains s.refs r → HasNode s.definitions type_names group_names r
