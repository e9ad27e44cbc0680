-- The steps that the code takes, by rows and places, and the edges that it makes of them.
use Rattle.std.specs.Prelude.{◌≡◌, ◌⊎◌, ℕ, zero, suc, ◌+◌, ◌*◌, ◌<◌, ltb, cond, Bool, ◌||◌, true, false, List, [], ◌∷◌, ◌++◌, Contains, Option, Some, None, slice_get}
use Rattle.graphs.specs.declared.cycles.Edge.{Edge}
use Rattle.cddl_language.specs.Controls.{control_of, is_asked_here}
use Rattle.cddl_language.specs.Terms.{Text}
use Rattle.check_terms.specs.declared.row.Form.{Form}
use Rattle.check_terms.specs.declared.row.Form.TheVariants as F
use Rattle.check_terms.specs.declared.row.Row as R
use Rattle.check_names.specs.declared.kinds.kinds.Kinds.{Kinds}
use Rattle.check_names.specs.Kinds.Kinds.{is_group_there}
use Rattle.check_instances.specs.declared.closed.closed.Meaning.{Meaning}
use Rattle.check_instances.specs.declared.openings.openings.Opening.{Opening}
use Rattle.check_instances.specs.declared.openings.openings.Opening.TheVariants as OpeningV
use Rattle.check_instances.specs.declared.openings.openings.Part.{Part}
use Rattle.check_instances.specs.declared.openings.openings.Part.TheVariants as PartV
use Rattle.check_recursion.specs.declared.node.Node.{Node}
use Rattle.check_recursion.specs.declared.node.Node.TheVariants as N
use Rattle.check_recursion.specs.declared.steps.Steps.{Steps}

-- what is known of rows and of places
pub record Known : Type 0 where
  pub texts : List Text
  pub rows : List R.Row
  pub kinds : Kinds
  pub places : List (Option ℕ)
  pub meanings : List Meaning
  pub openings : List Opening
  pub parts : List Part
  pub choosable : List Bool
  pub may_be_empty : List Bool

abbrev pub row_node : Option ℕ → Option Node
row_node None = None
row_node (Some n) = Some (N.Row n)

abbrev pub chosen_node : Option ℕ → Option Node
chosen_node None = None
chosen_node (Some n) = Some (N.Chosen n)

abbrev pub name_node : Option ℕ → Option Node
name_node None = None
name_node (Some k) = Some (N.Name k)

abbrev pub unwrapping_node : Option ℕ → Option Node
unwrapping_node None = None
unwrapping_node (Some k) = Some (N.Unwrapping k)

abbrev pub choice_node : Option ℕ → Option Node
choice_node None = None
choice_node (Some k) = Some (N.Choice k)

abbrev pub place_in : Option (Option ℕ) → Option ℕ
place_in None = None
place_in (Some o) = o

-- the place of the instance whose reference the row is
abbrev pub place_of : List (Option ℕ) → Option ℕ → Option ℕ
place_of places None = None
place_of places (Some n) = place_in (slice_get places n)

abbrev pub if_set : ℕ → Option Bool → Option ℕ
if_set n (Some true) = Some n
if_set n (Some false) = None
if_set n None = None

-- the row, where its flag is set
abbrev pub flagged : List Bool → Option ℕ → Option ℕ
flagged flags None = None
flagged flags (Some n) = if_set n (slice_get flags n)

abbrev pub if_some : Option ℕ → Option ℕ → Option ℕ
if_some None o = None
if_some (Some n) o = o

abbrev pub part_in : Option Part → Part
part_in None = PartV.AsksType
part_in (Some p) = p

abbrev pub part_at : List Part → Option ℕ → Part
part_at parts None = PartV.AsksType
part_at parts (Some n) = part_in (slice_get parts n)

abbrev pub opening_at : List Opening → ℕ → Option Opening
opening_at openings k = slice_get openings k

abbrev pub opened_group : Option Opening → Option ℕ
opened_group None = None
opened_group (Some OpeningV.Nothing) = None
opened_group (Some (OpeningV.Group n)) = Some n
opened_group (Some (OpeningV.Type n)) = None

abbrev pub opened_row : Option Opening → Option ℕ
opened_row None = None
opened_row (Some OpeningV.Nothing) = None
opened_row (Some (OpeningV.Group n)) = Some n
opened_row (Some (OpeningV.Type n)) = Some n

abbrev pub text_asks : Option Text → Bool
text_asks None = false
text_asks (Some x) = is_asked_here (control_of x)

abbrev pub asks_here : List Text → Option ℕ → Bool
asks_here texts None = false
asks_here texts (Some n) = text_asks (slice_get texts n)

abbrev pub when : Bool → Option ℕ → Option ℕ
when true o = o
when false o = None

abbrev pub none : Steps
none = record { first = None; second = None }

abbrev pub one : Option Node → Steps
one o = record { first = o; second = None }

abbrev pub both : Option Node → Option Node → Steps
both o p = record { first = o; second = p }

-- from an entry of a type
abbrev pub part_node : Part → Option Node
part_node PartV.AsksType = None
part_node (PartV.NamesGroup k) = Some (N.Name k)
part_node (PartV.Opens k n) = Some (N.Unwrapping k)

abbrev pub chosen_part : Option ℕ → Part → Option Node
chosen_part o PartV.AsksType = row_node o
chosen_part o (PartV.NamesGroup k) = Some (N.ChosenName k)
chosen_part o (PartV.Opens k n) = Some (N.OpenedChoice k)

-- from a row of this form, with this text and these parts
abbrev pub steps_by : Known → Form → Option ℕ → Option ℕ → Option ℕ → Steps
steps_by b F.Named x o p = one (name_node (place_of b.places o))
steps_by b F.Unwrapped x o p = one (unwrapping_node (place_of b.places o))
steps_by b F.ChoiceOfName x o p = one (choice_node (place_of b.places o))
steps_by b F.ChoiceOf x o p = one (chosen_node o)
steps_by b F.Parens x o p = one (row_node o)
steps_by b F.ArrayOf x o p = one (row_node o)
steps_by b F.SimpleBy x o p = one (row_node o)
steps_by b F.Sole x o p = one (row_node o)
steps_by b F.Grouped x o p = one (row_node o)
steps_by b F.Or x o p = both (row_node o) (row_node p)
steps_by b F.OrElse x o p = both (row_node o) (row_node p)
steps_by b F.Control x o p = both (row_node o) (row_node (when (asks_here b.texts x) p))
steps_by b F.Entries x o p = both (row_node o) (row_node (if_some (flagged b.may_be_empty o) p))
steps_by b F.EntriesComma x o p = both (row_node o) (row_node (if_some (flagged b.may_be_empty o) p))
steps_by b F.Typed x o p = one (part_node (part_at b.parts o))
steps_by b _ x o p = none

abbrev pub row_steps : Known → R.Row → Steps
row_steps b r = steps_by b r.form r.text r.first r.second

-- from which `&` chooses
abbrev pub chosen_by : Known → Form → Option ℕ → Option ℕ → Steps
chosen_by b F.Sole o p = one (chosen_node o)
chosen_by b F.Grouped o p = one (chosen_node o)
chosen_by b F.OrElse o p = both (chosen_node o) (chosen_node p)
chosen_by b F.Entries o p = both (chosen_node o) (chosen_node p)
chosen_by b F.EntriesComma o p = both (chosen_node o) (chosen_node p)
chosen_by b F.Typed o p = one (chosen_part o (part_at b.parts o))
chosen_by b F.Keyed o p = one (row_node p)
chosen_by b _ o p = none

abbrev pub chosen_steps : Known → R.Row → Steps
chosen_steps b r = chosen_by b r.form r.first r.second

abbrev pub text_of : Option R.Row → Option ℕ
text_of None = None
text_of (Some r) = r.text

abbrev pub names_group : Kinds → Option ℕ → Bool
names_group kinds None = false
names_group kinds (Some n) = is_group_there kinds n

-- whether what is called by the reference of this row is a group
abbrev pub is_group_call : Known → ℕ → Bool
is_group_call b n = names_group b.kinds (text_of (slice_get b.rows n))

-- either of two steps
abbrev pub Has : Steps → Node → Type 0
Has s n = (s.first ≡ Some n) ⊎ (s.second ≡ Some n)

pub data Leads (b : Known) : Node → Node → Type 0 where
  by_row : {n : ℕ} {r : R.Row} {m : Node} → slice_get b.rows n ≡ Some r → Has (row_steps b r) m → Leads b (N.Row n) m
  by_chosen : {n : ℕ} {r : R.Row} {m : Node} → slice_get b.rows n ≡ Some r → Has (chosen_steps b r) m → Leads b (N.Chosen n) m
  by_group : {k : ℕ} {w : Meaning} {m : Node} → slice_get b.meanings k ≡ Some w → is_group_call b w.call ≡ true → row_node w.group ≡ Some m → Leads b (N.Name k) m
  by_type : {k : ℕ} {w : Meaning} {n : ℕ} → slice_get b.meanings k ≡ Some w → is_group_call b w.call ≡ false → Contains w.types.items n → Leads b (N.Name k) (N.Row n)
  by_opening : {k : ℕ} {w : Meaning} {m : Node} → slice_get b.meanings k ≡ Some w → row_node (opened_row (slice_get b.openings k)) ≡ Some m → Leads b (N.Unwrapping k) m
  by_choice : {k : ℕ} {w : Meaning} → slice_get b.meanings k ≡ Some w → Leads b (N.Choice k) (N.ChosenName k)
  by_chosen_name : {k : ℕ} {w : Meaning} {m : Node} → slice_get b.meanings k ≡ Some w → chosen_node (flagged b.choosable w.group) ≡ Some m → Leads b (N.ChosenName k) m
  by_opened_choice : {k : ℕ} {w : Meaning} {m : Node} → slice_get b.meanings k ≡ Some w → chosen_node (flagged b.choosable (opened_group (slice_get b.openings k))) ≡ Some m → Leads b (N.OpenedChoice k) m

-- Nodes by number: two for each row, and five for each place after these.

abbrev pub within : ℕ → ℕ → ℕ → Option ℕ
within n most x = cond (ltb n most) (Some x) None

abbrev pub number : ℕ → ℕ → Node → Option ℕ
number rows places (N.Row n) = within n rows (2 * n)
number rows places (N.Chosen n) = within n rows (2 * n + 1)
number rows places (N.Name k) = within k places (2 * rows + 5 * k)
number rows places (N.Unwrapping k) = within k places (2 * rows + 5 * k + 1)
number rows places (N.Choice k) = within k places (2 * rows + 5 * k + 2)
number rows places (N.ChosenName k) = within k places (2 * rows + 5 * k + 3)
number rows places (N.OpenedChoice k) = within k places (2 * rows + 5 * k + 4)

abbrev pub edge_by : Option ℕ → Option ℕ → Option Edge
edge_by None o = None
edge_by (Some i) None = None
edge_by (Some i) (Some j) = Some (record { from = i; to = j })

abbrev pub listed : Option Edge → List Edge
listed None = []
listed (Some e) = e ∷ []

module _ (rows places : ℕ) where
  abbrev pub number_there : Option Node → Option ℕ
  number_there None = None
  number_there (Some n) = number rows places n

  abbrev pub edge_between : Node → Option Node → Option Edge
  edge_between n o = edge_by (number rows places n) (number_there o)

  abbrev pub edge_to : Node → Option Node → List Edge
  edge_to n o = listed (edge_between n o)

  abbrev pub steps_edges : Node → Steps → List Edge
  steps_edges n s = edge_to n s.first ++ edge_to n s.second

  abbrev pub types_edges : ℕ → List ℕ → List Edge
  types_edges k [] = []
  types_edges k (n ∷ ns) = edge_to (N.Name k) (Some (N.Row n)) ++ types_edges k ns

  abbrev pub name_edges : ℕ → Meaning → Bool → List Edge
  name_edges k w true = edge_to (N.Name k) (row_node w.group)
  name_edges k w false = types_edges k w.types.items

  module _ (b : Known) where
    abbrev pub row_edges : ℕ → Option R.Row → List Edge
    row_edges n None = []
    row_edges n (Some r) = steps_edges (N.Row n) (row_steps b r) ++ steps_edges (N.Chosen n) (chosen_steps b r)

    -- of the rows below the number
    abbrev pub rows_edges : ℕ → List Edge
    rows_edges zero = []
    rows_edges (suc n) = rows_edges n ++ row_edges n (slice_get b.rows n)

    abbrev pub place_edges : ℕ → Option Meaning → List Edge
    place_edges k None = []
    place_edges k (Some w) =
        name_edges k w (is_group_call b w.call)
        ++ (edge_to (N.Unwrapping k) (row_node (opened_row (slice_get b.openings k)))
        ++ (edge_to (N.Choice k) (Some (N.ChosenName k))
        ++ (edge_to (N.ChosenName k) (chosen_node (flagged b.choosable w.group))
        ++ edge_to (N.OpenedChoice k) (chosen_node (flagged b.choosable (opened_group (slice_get b.openings k)))))))

    -- of the places below the number
    abbrev pub places_edges : ℕ → List Edge
    places_edges zero = []
    places_edges (suc k) = places_edges k ++ place_edges k (slice_get b.meanings k)

    abbrev pub all_edges : List Edge
    all_edges = rows_edges rows ++ places_edges places

-- Of each place whether it is reported: by the marks of its references, where there are any, and else by those of the choices through
-- its name.

abbrev pub mark_in : Option Bool → Bool
mark_in None = false
mark_in (Some m) = m

abbrev pub mark_at : List Bool → Option ℕ → Bool
mark_at marks None = false
mark_at marks (Some i) = mark_in (slice_get marks i)

module _ (rows places : ℕ) (marks : List Bool) where
  abbrev pub has_reference : ℕ → Bool
  has_reference k = mark_at marks (number rows places (N.Name k)) || (mark_at marks (number rows places (N.Unwrapping k)) || mark_at marks (number rows places (N.Choice k)))

  abbrev pub has_choice : ℕ → Bool
  has_choice k = mark_at marks (number rows places (N.ChosenName k)) || mark_at marks (number rows places (N.OpenedChoice k))

  -- by references or not
  abbrev pub is_told : Bool → ℕ → Bool
  is_told true k = has_reference k
  is_told false k = has_choice k

  abbrev pub flags_below : Bool → ℕ → List Bool
  flags_below by zero = []
  flags_below by (suc k) = flags_below by k ++ is_told by k ∷ []

  pub data AreFlags (flags : List Bool) : Type 0 where
    of_references : {k : ℕ} → k < places → has_reference k ≡ true → flags ≡ flags_below true places → AreFlags flags
    of_choices : ((k : ℕ) → k < places → has_reference k ≡ false) → flags ≡ flags_below false places → AreFlags flags
