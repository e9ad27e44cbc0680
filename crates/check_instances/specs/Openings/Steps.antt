-- What is done with one row, or with one instance.
use Rattle.std.specs.Prelude.{ℕ, ◌+◌, Bool, false, if◌then◌else◌, List, [], ◌∷◌, Option, Some, None, is_some, slice_get}
use Rattle.graphs.specs.declared.chains.Link.{Link}
use Rattle.graphs.specs.declared.chains.Link.TheVariants as LinkV
use Rattle.check_terms.specs.declared.row.Form.{Form}
use Rattle.check_terms.specs.declared.row.Form.TheVariants as F
use Rattle.check_terms.specs.declared.row.Row.{Row}
use Rattle.check_names.specs.declared.kinds.kinds.Kinds.{Kinds}
use Rattle.check_names.specs.Kinds.Heads.{name_at}
use Rattle.check_names.specs.Kinds.Kinds.{is_group_there, shape_there}
use Rattle.check_instances.specs.declared.closed.closed.Meaning.{Meaning}
use Rattle.check_instances.specs.declared.openings.openings.Opening.{Opening}
use Rattle.check_instances.specs.declared.openings.openings.Opening.TheVariants as OpeningV
use Rattle.check_instances.specs.declared.openings.openings.Part.{Part}
use Rattle.check_instances.specs.declared.openings.openings.Part.TheVariants as PartV

-- what a list of numbers, or of nothing, has at a place
abbrev pub there : Option (Option ℕ) → Option ℕ
there None = None
there (Some n) = n

-- the row of the number, if there is one
abbrev pub row_in : List Row → Option ℕ → Option Row
row_in rows None = None
row_in rows (Some n) = slice_get rows n

-- the place of the instance of this reference
abbrev pub place_at : List (Option ℕ) → Option ℕ → Option ℕ
place_at places None = None
place_at places (Some n) = there (slice_get places n)

-- How `~` of an instance leads to another.

abbrev pub place_by : List (Option ℕ) → Form → Option ℕ → Option ℕ
place_by places F.Named first = place_at places first
place_by places _ first = None

abbrev pub place_in : List (Option ℕ) → Option Row → Option ℕ
place_in places None = None
place_in places (Some r) = place_by places r.form r.first

-- the place of the instance whose name is used at the row
abbrev pub named_place : List Row → List (Option ℕ) → ℕ → Option ℕ
named_place rows places n = place_in places (slice_get rows n)

abbrev pub link_to : ℕ → Option ℕ → Link
link_to n None = LinkV.End n
link_to n (Some k) = LinkV.Next k

abbrev pub link_from : List Row → List (Option ℕ) → ℕ → Link
link_from rows places n = link_to n (named_place rows places n)

-- the row of the only type, out of its parentheses
abbrev pub sole_row : List ℕ → List ℕ → Option ℕ
sole_row stripped (n ∷ []) = slice_get stripped n
sole_row stripped _ = None

-- the number of no link
abbrev pub nowhere : ℕ
nowhere = 0xffff_ffff

abbrev pub link_by : List Row → List (Option ℕ) → Option ℕ → Link
link_by rows places None = LinkV.Next nowhere
link_by rows places (Some n) = link_from rows places n

abbrev pub link_of : List Row → List (Option ℕ) → List ℕ → Meaning → Link
link_of rows places stripped m = link_by rows places (sole_row stripped m.types.items)

abbrev pub links_of : List Row → List (Option ℕ) → List ℕ → List Meaning → List Link
links_of rows places stripped [] = []
links_of rows places stripped (m ∷ ms) = link_of rows places stripped m ∷ links_of rows places stripped ms

-- the same with the instance's own row at the end

abbrev pub ended_at : ℕ → Link → Link
ended_at call (LinkV.End n) = LinkV.End call
ended_at call (LinkV.Next k) = LinkV.Next k

abbrev pub own_link_of : List Row → List (Option ℕ) → List ℕ → Meaning → Link
own_link_of rows places stripped m = ended_at m.call (link_of rows places stripped m)

abbrev pub own_links_of : List Row → List (Option ℕ) → List ℕ → List Meaning → List Link
own_links_of rows places stripped [] = []
own_links_of rows places stripped (m ∷ ms) = own_link_of rows places stripped m ∷ own_links_of rows places stripped ms

-- What is opened at the end of a way.

abbrev pub group_opening : Option ℕ → Opening
group_opening None = OpeningV.Nothing
group_opening (Some n) = OpeningV.Group n

abbrev pub type_opening : Option ℕ → Opening
type_opening None = OpeningV.Nothing
type_opening (Some n) = OpeningV.Type n

abbrev pub opening_in : Form → Option ℕ → Option ℕ → Opening
opening_in F.MapOf first second = group_opening first
opening_in F.ArrayOf first second = group_opening first
opening_in F.Tagged first second = type_opening first
opening_in F.TaggedBy first second = type_opening second
opening_in _ first second = OpeningV.Nothing

abbrev pub opening_by : Option Row → Opening
opening_by None = OpeningV.Nothing
opening_by (Some r) = opening_in r.form r.first r.second

abbrev pub opening_at : List Row → Option ℕ → Opening
opening_at rows n = opening_by (row_in rows n)

-- whether `~` of the name unwraps anything
abbrev pub opens : Kinds → Option ℕ → Bool
opens ks None = false
opens ks (Some n) = is_some (shape_there ks n)

abbrev pub opening_of : List Row → Kinds → ℕ → Option ℕ → Opening
opening_of rows ks call end = if opens ks (name_at rows (Some call)) then opening_at rows end else OpeningV.Nothing

abbrev pub openings_of : List Row → Kinds → List (Option ℕ) → ℕ → List Meaning → List Opening
openings_of rows ks ends k [] = []
openings_of rows ks ends k (m ∷ ms) = opening_of rows ks m.call (there (slice_get ends k)) ∷ openings_of rows ks ends (k + 1) ms

-- What the type of an entry is.

abbrev pub stripped_row : List Row → List ℕ → ℕ → Option Row
stripped_row rows stripped n = row_in rows (slice_get stripped n)

abbrev pub is_group_by : Kinds → Option ℕ → Bool
is_group_by ks None = false
is_group_by ks (Some n) = is_group_there ks n

abbrev pub names_group : List Row → Kinds → Option ℕ → Bool
names_group rows ks reference = is_group_by ks (name_at rows reference)

abbrev pub named_group : Option ℕ → Part
named_group None = PartV.AsksType
named_group (Some k) = PartV.NamesGroup k

abbrev pub opened_by : ℕ → Opening → Part
opened_by k (OpeningV.Group n) = PartV.Opens k n
opened_by k _ = PartV.AsksType

abbrev pub opened_at : ℕ → Option Opening → Part
opened_at k None = PartV.AsksType
opened_at k (Some o) = opened_by k o

abbrev pub opened_part : List Opening → Option ℕ → Part
opened_part openings None = PartV.AsksType
opened_part openings (Some k) = opened_at k (slice_get openings k)

abbrev pub part_at : List Row → List (Option ℕ) → Kinds → List Opening → Form → Option ℕ → Part
part_at rows places ks openings F.Named first = if names_group rows ks first then named_group (place_at places first) else PartV.AsksType
part_at rows places ks openings F.Unwrapped first = opened_part openings (place_at places first)
part_at rows places ks openings _ first = PartV.AsksType

abbrev pub part_in : List Row → List (Option ℕ) → Kinds → List Opening → Option Row → Part
part_in rows places ks openings None = PartV.AsksType
part_in rows places ks openings (Some r) = part_at rows places ks openings r.form r.first
