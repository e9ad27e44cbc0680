-- What the kinds of names are, by the numbers of their texts.
use Rattle.std.specs.Prelude.{◌≡◌, ℕ, nat_eq, Bool, true, ◌&&◌, if◌then◌else◌, List, Option, Some, None, slice_get}
use Rattle.graphs.specs.declared.chains.Link.{Link}
use Rattle.graphs.specs.declared.chains.Link.TheVariants as LinkV
use Rattle.cddl_language.specs.Terms as L
use Rattle.cddl_language.specs.Terms.{Text, Ref, Terms, call}
use Rattle.cddl_language.specs.Kinds.{Opened, opens_group, opens_type, opened, is_group}
use Rattle.check_terms.specs.declared.definition.Sign.{Sign}
use Rattle.check_names.specs.Environment.Places.{is_equals}
use Rattle.check_names.specs.declared.kinds.heads.Head.{Head}
use Rattle.check_names.specs.declared.kinds.kinds.Kinds.{Kinds}
use Rattle.check_names.specs.declared.kinds.kinds.Shape.{Shape}
use Rattle.check_names.specs.declared.kinds.kinds.Shape.TheVariants as ShapeV
use Rattle.check_names.specs.Kinds.Links as N

-- what is opened, without it
pub data Sort : Type 0 where
  a_group : Sort
  a_content : Sort

abbrev pub sort_of : Option Opened → Option Sort
sort_of None = None
sort_of (Some (opens_group g)) = Some a_group
sort_of (Some (opens_type t)) = Some a_content

abbrev pub sort_in : Shape → Sort
sort_in ShapeV.Group = a_group
sort_in ShapeV.Content = a_content

abbrev pub answered_sort : Option ℕ → Option Sort
answered_sort None = None
answered_sort (Some a) = if nat_eq a N.group_answer then Some a_group else (if nat_eq a N.type_answer then Some a_content else None)

abbrev pub answered_there : Option (Option ℕ) → Option ℕ
answered_there None = None
answered_there (Some a) = a

abbrev pub shape_there : Kinds → ℕ → Option Sort
shape_there ks k = answered_sort (answered_there (slice_get ks.opened.items k))

abbrev pub is_group_there : Kinds → ℕ → Bool
is_group_there ks k = N.opens_group (slice_get ks.groups.items k)

-- whether the chain that goes on by this link ends at a group
abbrev pub leads_to_group : Kinds → Link → Bool
leads_to_group ks (LinkV.End a) = nat_eq a N.group_answer
leads_to_group ks (LinkV.Next k) = is_group_there ks k

-- whether a definition of this sign and head is a group's; (socket: its name is `$$` and a name)
abbrev pub defines_group_by : Kinds → (socket : Bool) → Sign → Head → Bool
defines_group_by ks socket s h = if socket && is_equals s then true else leads_to_group ks (N.kind_of ks.opened.items s h)

-- for each name; what is opened has one sort for all arguments
pub record AreKinds (texts : List Text) (xs : List L.Definition) (ks : Kinds) : Type 0 where
  pub groups : (k : ℕ) (n : Text) → slice_get texts k ≡ Some n → is_group_there ks k ≡ is_group xs n
  pub openings : (k : ℕ) (n : Text) (ts : Terms) → slice_get texts k ≡ Some n → shape_there ks k ≡ sort_of (opened xs (call n ts))
