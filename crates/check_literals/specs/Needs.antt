-- What the literal of a row is determined from, by the form of the row.
use Rattle.std.specs.Prelude.{◌≡◌, ℕ, length, Bool, false, if◌then◌else◌, List, [], ◌∷◌, Option, Some, None, slice_get}
use Rattle.cddl_language.specs.Controls.{Computation, Control, computation_in, control_of}
use Rattle.cddl_language.specs.Terms.{Text}
use Rattle.check_terms.specs.declared.row.Form.{Form}
use Rattle.check_terms.specs.declared.row.Form.TheVariants as F
use Rattle.check_terms.specs.declared.row.Row.{Row}
use Rattle.check_terms.specs.Table.{Table}
use Rattle.check_terms.specs.Texts.Controls.{computation_view}
use Rattle.check_names.specs.declared.kinds.kinds.Kinds.{Kinds}
use Rattle.check_names.specs.Kinds.Kinds.{is_group_there}
use Rattle.check_instances.specs.declared.closed.closed.Closed.{Closed}
use Rattle.check_instances.specs.declared.closed.closed.Meaning.{Meaning}
use Rattle.check_literals.specs.declared.needs.Need as D
use Rattle.check_literals.specs.declared.needs.Need.TheVariants as N
use Rattle.check_literals.specs.Written.{text_by}

pub data Need : Type 0 where
  -- it is none
  nothing : Need
  -- the text of the row
  written : ℕ → Need
  -- the type in its parentheses
  inside : ℕ → Need
  -- the one choice of its name
  choice : ℕ → Need
  -- both sides of its control
  both : Computation → ℕ → ℕ → Need

abbrev pub need_view : D.Need → Need
need_view N.Nothing = nothing
need_view (N.Written n) = written n
need_view (N.Inside n) = inside n
need_view (N.Choice n) = choice n
need_view (N.Both c a b) = both (computation_view c) a b

-- the rows whose literals are asked for
abbrev pub parts : Need → List ℕ
parts nothing = []
parts (written n) = []
parts (inside n) = n ∷ []
parts (choice n) = n ∷ []
parts (both c a b) = a ∷ b ∷ []

-- parentheses

abbrev pub inside_of : Option ℕ → Need
inside_of None = nothing
inside_of (Some n) = inside n

-- a name: the one choice of the instance at its place, where it has the name of a type

abbrev pub answer_there : Option (Option ℕ) → Option ℕ
answer_there None = None
answer_there (Some o) = o

abbrev pub place_of : List (Option ℕ) → Option ℕ → Option ℕ
place_of places None = None
place_of places (Some n) = answer_there (slice_get places n)

abbrev pub is_group_name : Kinds → Option ℕ → Bool
is_group_name ks None = false
is_group_name ks (Some k) = is_group_there ks k

abbrev pub has_group_name : Kinds → Option Row → Bool
has_group_name ks None = false
has_group_name ks (Some r) = is_group_name ks r.text

abbrev pub lone : List ℕ → Option ℕ
lone (n ∷ []) = Some n
lone _ = None

abbrev pub only_type : List Row → Kinds → Meaning → Option ℕ
only_type rows ks m = if has_group_name ks (slice_get rows m.call) then None else lone m.types.items

abbrev pub type_in : List Row → Kinds → Option Meaning → Option ℕ
type_in rows ks None = None
type_in rows ks (Some m) = only_type rows ks m

abbrev pub type_there : List Row → Kinds → List Meaning → Option ℕ → Option ℕ
type_there rows ks ms None = None
type_there rows ks ms (Some k) = type_in rows ks (slice_get ms k)

abbrev pub choice_of : Option ℕ → Need
choice_of None = nothing
choice_of (Some n) = choice n

-- a control, where it computes

abbrev pub control_by : Option Text → Option Control
control_by None = None
control_by (Some n) = control_of n

abbrev pub both_of : Option Computation → Option ℕ → Option ℕ → Need
both_of (Some c) (Some a) (Some b) = both c a b
both_of _ _ _ = nothing

module _ (t : Table) (c : Closed) (ks : Kinds) where
  abbrev pub need_by : ℕ → Form → Row → Need
  need_by n F.Number r = written n
  need_by n F.Text r = written n
  need_by n F.Bytes r = written n
  need_by n F.Parens r = inside_of r.first
  need_by n F.Named r = choice_of (type_there t.rows ks c.meanings.items (place_of c.places.items r.first))
  need_by n F.Control r = both_of (computation_in (control_by (text_by t.texts r.text))) r.first r.second
  need_by n _ r = nothing

  abbrev pub need_in : ℕ → Option Row → Need
  need_in n None = nothing
  need_in n (Some r) = need_by n r.form r

  abbrev pub need_at : ℕ → Need
  need_at n = need_in n (slice_get t.rows n)

  -- of each of so many rows
  pub record AreNeeds (count : ℕ) (ds : List Need) : Type 0 where
    pub all : length ds ≡ count
    pub each : (n : ℕ) (d : Need) → slice_get ds n ≡ Some d → d ≡ need_at n
