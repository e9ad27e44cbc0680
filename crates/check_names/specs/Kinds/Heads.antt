-- What a body is, out of its parentheses: in the words of the definitions, and by numbers.
use Rattle.std.specs.Prelude.{◌≡◌, ℕ, if◌then◌else◌, nat_eq, Bool, true, false, List, [], ◌∷◌, Option, Some, None, slice_get}
use Rattle.std.specs.List.{list_any}
use Rattle.cddl_language.specs.Terms as L
use Rattle.cddl_language.specs.Terms.{Text, Term, named, map_of, array_of, unwrapped, tagged, tagged_by, of_types, of_entry, name_of, stripped}
use Rattle.cddl_language.specs.Environment.{is_in}
use Rattle.check_terms.specs.declared.definition.Definition.{Definition}
use Rattle.check_terms.specs.declared.row.Form.{Form}
use Rattle.check_terms.specs.declared.row.Form.TheVariants as F
use Rattle.check_terms.specs.declared.row.Row.{Row}
use Rattle.check_terms.specs.Definitions.{IsDefinition}
use Rattle.check_terms.specs.Table.{Table, Tree, node, Holds, HoldsText}
use Rattle.check_terms.specs.Trees.{IsTerm}
use Rattle.check_names.specs.declared.kinds.heads.Head.{Head}
use Rattle.check_names.specs.declared.kinds.heads.Head.TheVariants as HeadV

pub data Top : Type 0 where
  names : Text → Top
  unwraps : Text → Top
  container : Top
  tag : Top
  in_group : Top
  other : Top

abbrev pub unless : List Text → Text → Top → Top
unless ps n x = if is_in ps n then other else x

-- of a type out of its parentheses, where these are parameters
abbrev pub top_type : List Text → Term → Top
top_type ps (named r) = unless ps (name_of r) (names (name_of r))
top_type ps (unwrapped r) = unless ps (name_of r) (unwraps (name_of r))
top_type ps (map_of g) = container
top_type ps (array_of g) = container
top_type ps (tagged n t) = tag
top_type ps (tagged_by h t) = tag
top_type ps _ = other

abbrev pub top_body : List Text → L.Body → Top
top_body ps (of_types t) = top_type ps (stripped t)
top_body ps (of_entry e) = in_group

-- the head tells this, by the numbers of texts
pub data IsHead (texts : List Text) : Head → Top → Type 0 where
  is_name : {m : ℕ} {n : Text} → slice_get texts m ≡ Some n → IsHead texts (HeadV.Name m) (names n)
  is_unwrapped : {m : ℕ} {n : Text} → slice_get texts m ≡ Some n → IsHead texts (HeadV.Unwrapped m) (unwraps n)
  is_container : IsHead texts HeadV.Container container
  is_tag : IsHead texts HeadV.Tag tag
  is_in_group : IsHead texts HeadV.Entry in_group
  is_other : IsHead texts HeadV.Other other

abbrev pub HasHead : Table → Definition → Head → Type 0
HasHead t d h = (x : L.Definition) → IsDefinition t d x → IsHead t.texts h (top_body x.parameters x.body)

-- one for one
pub data AreHeads (t : Table) : List Definition → List Head → Type 0 where
  no_heads : AreHeads t [] []
  further_head : {d : Definition} {h : Head} {ds : List Definition} {hs : List Head} → HasHead t d h → AreHeads t ds hs → AreHeads t (d ∷ ds) (h ∷ hs)

-- where no name is a parameter
abbrev pub HasTop : Table → ℕ → Head → Type 0
HasTop t n h = (x : Term) → IsTerm t n x → IsHead t.texts h (top_type [] (stripped x))

-- where these are parameters
abbrev pub without : List ℕ → Head → Head
without ps (HeadV.Name m) = if list_any (λ p. nat_eq p m) ps then HeadV.Other else HeadV.Name m
without ps (HeadV.Unwrapped m) = if list_any (λ p. nat_eq p m) ps then HeadV.Other else HeadV.Unwrapped m
without ps h = h

-- Of a row, by its form and the number of the name that it refers to.

abbrev pub text_in : Option Row → Option ℕ
text_in None = None
text_in (Some r) = r.text

abbrev pub name_at : List Row → Option ℕ → Option ℕ
name_at rows None = None
name_at rows (Some n) = text_in (slice_get rows n)

abbrev pub name_head : Option ℕ → Head
name_head None = HeadV.Other
name_head (Some m) = HeadV.Name m

abbrev pub unwrapped_head : Option ℕ → Head
unwrapped_head None = HeadV.Other
unwrapped_head (Some m) = HeadV.Unwrapped m

abbrev pub head_by : Form → Option ℕ → Head
head_by F.Named m = name_head m
head_by F.Unwrapped m = unwrapped_head m
head_by F.MapOf m = HeadV.Container
head_by F.ArrayOf m = HeadV.Container
head_by F.Tagged m = HeadV.Tag
head_by F.TaggedBy m = HeadV.Tag
head_by _ m = HeadV.Other

abbrev pub is_parens : Form → Bool
is_parens F.Parens = true
is_parens _ = false

-- the row stands for the tree
pub data HoldsRow (t : Table) (r : Row) : Tree → Type 0 where
  row_of : {f : Form} {x : Option Text} {a b : Tree} → r.form ≡ f → HoldsText t.texts r.text x → Holds t r.first a → Holds t r.second b → HoldsRow t r (node f x a b)
