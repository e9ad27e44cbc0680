-- Of what the members of a row's type are, one step down, by rows.
use Rattle.std.specs.Prelude.{◌≡◌, ◌⊎◌, ◌<◌, ℕ, zero, suc, Bool, true, false, if◌then◌else◌, List, [], ◌∷◌, length, Option, Some, None, slice_get}
use Rattle.cddl_literal.specs.Numbers.{Meaning, UintOf}
use Rattle.cddl_language.specs.Terms.{Text}
use Rattle.check_terms.specs.declared.row.Form.{Form}
use Rattle.check_terms.specs.declared.row.Form.TheVariants as F
use Rattle.check_terms.specs.declared.row.Row.{Row}
use Rattle.check_terms.specs.Table.{Table}
use Rattle.check_names.specs.declared.kinds.kinds.Kinds.{Kinds}
use Rattle.check_names.specs.Kinds.Kinds.{is_group_there}
use Rattle.check_instances.specs.declared.closed.closed.Closed.{Closed}
use Rattle.check_instances.specs.declared.closed.closed.Meaning as M
use Rattle.cddl_language.specs.Controls.{Membership}
use Rattle.cddl_language.specs.Sizes.{opens_choices}
use Rattle.check_groups.specs.declared.causes.rows.GroupRow.{GroupRow}
use Rattle.check_groups.specs.declared.causes.rows.GroupRow.TheVariants as RowV
use Rattle.check_groups.specs.Causes.Rows.{occurrence_at}
use Rattle.check_groups.specs.Choosing.Occurrences.{is_once_at}
use Rattle.check_literals.specs.declared.known.Literals.{Literals}
use Rattle.check_literals.specs.Literals.{literal_at}
use Rattle.table_nodes.specs.Sizes.{size_view}
use Rattle.check_literals.specs.declared.sizes.sources.Source.{Source}
use Rattle.check_literals.specs.declared.sizes.sources.Source.TheVariants as SourceV

-- A row has no members as it has to have them, or the numbers from a first to a last, or the members of other rows: of what
-- it is made of, or of what stands behind the name that it is.
pub data View : Type 0 where
  no_members : View
  numbers : ℕ × ℕ → View
  members_of : List ℕ → View
  members_of_choices : List ℕ → View

abbrev pub source_view : Source → View
source_view SourceV.Nothing = no_members
source_view (SourceV.Numbers r) = numbers (size_view r)
source_view (SourceV.Rows v) = members_of v.items
source_view (SourceV.Choices v) = members_of_choices v.items

abbrev pub viewed : Option Source → View
viewed None = no_members
viewed (Some s) = source_view s

abbrev pub view_at : List Source → ℕ → View
view_at ss n = viewed (slice_get ss n)

-- the unsigned number that a row is

abbrev pub uint_in : Option Meaning → Option ℕ
uint_in (Some (UintOf n)) = Some n
uint_in _ = None

abbrev pub uint_at : Literals → Option ℕ → Option ℕ
uint_at ls None = None
uint_at ls (Some n) = uint_in (literal_at ls n)

abbrev pub one_number : Option ℕ → View
one_number None = no_members
one_number (Some n) = numbers (n, n)

-- from one number to another, with or without it
abbrev pub range_to : Bool → ℕ → ℕ → ℕ × ℕ
range_to true a b = (a, b)
range_to false a zero = (1, 0)
range_to false a (suc b) = (a, b)

abbrev pub numbers_between : Bool → Option ℕ → Option ℕ → View
numbers_between c (Some a) (Some b) = numbers (range_to c a b)
numbers_between c _ _ = no_members

abbrev pub row_view : Option ℕ → View
row_view None = no_members
row_view (Some a) = members_of (a ∷ [])

abbrev pub both_view : Option ℕ → Option ℕ → View
both_view (Some a) (Some b) = members_of (a ∷ b ∷ [])
both_view _ _ = no_members

-- the choices of a name that is no group's

abbrev pub has_group_text : Kinds → Option ℕ → Bool
has_group_text ks None = false
has_group_text ks (Some k) = is_group_there ks k

abbrev pub has_group_name : Kinds → Option Row → Bool
has_group_name ks None = false
has_group_name ks (Some r) = has_group_text ks r.text

abbrev pub choices_in : Option M.Meaning → View
choices_in None = no_members
choices_in (Some m) = members_of_choices m.types.items

abbrev pub choices_at : List M.Meaning → Option (Option ℕ) → View
choices_at ms (Some (Some k)) = choices_in (slice_get ms k)
choices_at ms _ = no_members

abbrev pub named_view : List Row → Closed → Kinds → Option ℕ → View
named_view rows c ks None = no_members
named_view rows c ks (Some a) = if has_group_name ks (slice_get rows a) then no_members else choices_at c.meanings.items (slice_get c.places.items a)

-- what `&` chooses from

-- no numbers, as of a group without alternatives
abbrev pub no_numbers : View
no_numbers = numbers (1, 0)

-- the group behind a name
abbrev pub group_view : Option ℕ → View
group_view None = no_numbers
group_view (Some n) = members_of_choices (n ∷ [])

abbrev pub alternatives_in : Option M.Meaning → View
alternatives_in None = no_members
alternatives_in (Some m) = group_view m.group

abbrev pub alternatives_at : List M.Meaning → Option (Option ℕ) → View
alternatives_at ms (Some (Some k)) = alternatives_in (slice_get ms k)
alternatives_at ms _ = no_members

abbrev pub by_name_view : Closed → Option ℕ → View
by_name_view c None = no_members
by_name_view c (Some a) = alternatives_at c.meanings.items (slice_get c.places.items a)

-- What stands at a row of a group, of entries or of an entry: the group in an entry is in parentheses, or behind a name.

abbrev pub inner_view : Form → Option ℕ → View
inner_view F.Grouped g = row_view g
inner_view _ g = group_view g

abbrev pub standing_view : Form → Option ℕ → Option ℕ → GroupRow → View
standing_view f i j RowV.Other = no_members
standing_view f i j (RowV.Sole n) = members_of (n ∷ [])
standing_view f i j (RowV.OrElse n m) = members_of (n ∷ m ∷ [])
standing_view f i j RowV.NoEntries = no_numbers
standing_view f i j (RowV.Entries n m) = members_of (n ∷ m ∷ [])
standing_view f i j (RowV.Type k) = row_view i
standing_view f i j (RowV.Pair k) = row_view j
standing_view f i j (RowV.Group k g) = inner_view f g

-- an entry has to occur once
abbrev pub once_view : List Text → Form → Option ℕ → Option ℕ → GroupRow → View
once_view texts f i j r = if is_once_at texts (occurrence_at r) then standing_view f i j r else no_members

abbrev pub group_row_view : List Text → Form → Option ℕ → Option ℕ → Option GroupRow → View
group_row_view texts f i j None = no_members
group_row_view texts f i j (Some r) = once_view texts f i j r

-- a type without ways through `&`
module _ (t : Table) (c : Closed) (ks : Kinds) (ls : Literals) where
  abbrev pub type_view : ℕ → Form → Option ℕ → Option ℕ → View
  type_view n F.Number i j = one_number (uint_in (literal_at ls n))
  type_view n F.Text i j = one_number (uint_in (literal_at ls n))
  type_view n F.Bytes i j = one_number (uint_in (literal_at ls n))
  type_view n F.Control i j = one_number (uint_in (literal_at ls n))
  type_view n F.Range i j = numbers_between true (uint_at ls i) (uint_at ls j)
  type_view n F.RangeBelow i j = numbers_between false (uint_at ls i) (uint_at ls j)
  type_view n F.Parens i j = row_view i
  type_view n F.Or i j = both_view i j
  type_view n F.Named i j = named_view t.rows c ks i
  type_view n _ i j = no_members

module _ (which : Membership) (t : Table) (c : Closed) (ks : Kinds) (ls : Literals) (gs : List GroupRow) where
  abbrev pub in_group : ℕ → Form → Option ℕ → Option ℕ → View
  in_group n f i j = group_row_view t.texts f i j (slice_get gs n)

  abbrev pub form_view : ℕ → Form → Option ℕ → Option ℕ → View
  form_view n F.ChoiceOf i j = if opens_choices which then row_view i else no_members
  form_view n F.ChoiceOfName i j = if opens_choices which then by_name_view c i else no_members
  form_view n F.Sole i j = in_group n F.Sole i j
  form_view n F.OrElse i j = in_group n F.OrElse i j
  form_view n F.NoEntries i j = in_group n F.NoEntries i j
  form_view n F.Entries i j = in_group n F.Entries i j
  form_view n F.EntriesComma i j = in_group n F.EntriesComma i j
  form_view n F.Typed i j = in_group n F.Typed i j
  form_view n F.Keyed i j = in_group n F.Keyed i j
  form_view n F.Grouped i j = in_group n F.Grouped i j
  form_view n f i j = type_view t c ks ls n f i j

  abbrev pub row_source : ℕ → Option Row → View
  row_source n None = no_members
  row_source n (Some r) = form_view n r.form r.first r.second

  abbrev pub source_of : ℕ → View
  source_of n = row_source n (slice_get t.rows n)

  -- for each row its source
  pub record AreSources (ss : List Source) : Type 0 where
    pub all : length ss ≡ length t.rows
    pub each : (n : ℕ) → n < length t.rows → view_at ss n ≡ source_of n

-- the rows that a row leads to at once

abbrev pub parts_in : View → List ℕ
parts_in no_members = []
parts_in (numbers r) = []
parts_in (members_of ms) = ms
parts_in (members_of_choices ms) = ms

abbrev pub In : List ℕ → ℕ → Type 0
In [] b = ⊥
In (x ∷ xs) b = (x ≡ b) ⊎ In xs b

pub record IsPart (ss : List Source) (a b : ℕ) : Type 0 where
  pub there : In (parts_in (view_at ss a)) b
  pub within : b < length ss
