-- Which rows are controllers of `.size`, or of `.bits`, and the lists of their numbers.
use Rattle.std.specs.Prelude.{◌≡◌, ℕ, ◌+◌, ◌<◌, Bool, true, false, if◌then◌else◌, List, length, Option, Some, None, slice_get}
use Rattle.cddl_meaning.specs.Alike.{SameTest}
use Rattle.cddl_meaning.specs.Forms as T
use Rattle.cddl_language.specs.Controls.{Membership, of_size, of_bits, membership_in, control_of}
use Rattle.cddl_language.specs.Terms.{Text}
use Rattle.check_terms.specs.declared.row.Form.{Form}
use Rattle.check_terms.specs.declared.row.Form.TheVariants as F
use Rattle.check_terms.specs.declared.row.Row.{Row}
use Rattle.check_terms.specs.Table.{Table}
use Rattle.table_nodes.specs.SizeSets.{set_view}
use Rattle.table_nodes.specs.declared.sizes.NumberSet.{NumberSet}
use Rattle.check_literals.specs.declared.sizes.known.Sizes.{Sizes}
use Rattle.check_literals.specs.declared.sizes.reach.Search.{Search}
use Rattle.check_literals.specs.declared.sizes.sources.Source.{Source}
use Rattle.check_literals.specs.Sizes.Reach.{AreBelow, IsReached, ranges_of}
use Rattle.check_literals.specs.Sizes.Sizes.{flag_at}

abbrev pub is_same_membership : Membership → Membership → Bool
is_same_membership of_size of_size = true
is_same_membership of_bits of_bits = true
is_same_membership _ _ = false

module _ (m : Membership) where
  abbrev pub is_one : Option Membership → Bool
  is_one None = false
  is_one (Some d) = is_same_membership d m

  abbrev pub is_such_name : Option Text → Bool
  is_such_name None = false
  is_such_name (Some n) = is_one (membership_in (control_of n))

  abbrev pub is_such_text : List Text → Option ℕ → Bool
  is_such_text texts None = false
  is_such_text texts (Some k) = is_such_name (slice_get texts k)

  abbrev pub is_such_form : List Text → Form → Option ℕ → Bool
  is_such_form texts F.Control k = is_such_text texts k
  is_such_form texts _ k = false

  -- the controller, where the row is such a control
  abbrev pub controller_in : List Text → Option Row → Option ℕ
  controller_in texts None = None
  controller_in texts (Some r) = if is_such_form texts r.form r.text then r.second else None

  abbrev pub controller_at : Table → ℕ → Option ℕ
  controller_at t n = controller_in t.texts (slice_get t.rows n)

-- whether there is a row, without a list
abbrev pub is_free : Option (Option ℕ) → Bool
is_free (Some None) = true
is_free _ = false

-- whether the row may be a controller and has no list
abbrev pub is_wanted : Bool → Option (Option ℕ) → Bool
is_wanted true o = is_free o
is_wanted false o = false

-- the numbers of all rows to which this one leads
pub record IsList (ss : List Source) (n : ℕ) (z : NumberSet) : Type 0 where
  pub reached : List ℕ
  pub are_reached : IsReached ss n reached
  pub same : SameTest (T.sized (ranges_of ss reached)) (T.sized (set_view z))

pub record IsListed (ss : List Source) (n i : ℕ) (lists : List NumberSet) : Type 0 where
  pub list : NumberSet
  pub there : slice_get lists i ≡ Some list
  pub is_list : IsList ss n list

-- what rows have lists, of those that may be controllers
pub record AreListed (ss : List Source) (flags : List Bool) (z : Sizes) : Type 0 where
  pub all : length z.rows.items ≡ length ss
  pub each : (n i : ℕ) → slice_get z.rows.items n ≡ Some (Some i) → IsListed ss n i z.lists.items
  pub flagged : (n i : ℕ) → slice_get z.rows.items n ≡ Some (Some i) → flag_at flags n ≡ true

-- the search is ready for a further list
pub record IsReady (ss : List Source) (z : Sizes) (s : Search) : Type 0 where
  pub all : length s.marks.items ≡ length ss
  pub below : AreBelow (length z.lists.items + 1) s.marks.items

-- the row has a list, where it may be a controller
pub record HasList (flags : List Bool) (n : ℕ) (z : Sizes) : Type 0 where
  pub place : flag_at flags n ≡ true → n < length z.rows.items → (i : ℕ) × (slice_get z.rows.items n ≡ Some (Some i))

-- each row that has a list keeps one
abbrev pub KeepsLists : Sizes → Sizes → Type 0
KeepsLists old new = (n i : ℕ) → slice_get old.rows.items n ≡ Some (Some i) → (j : ℕ) × (slice_get new.rows.items n ≡ Some (Some j))

-- the controllers of the rows before this one have lists
abbrev pub HaveLists : Membership → Table → List Bool → ℕ → Sizes → Type 0
HaveLists m t flags before z = (j n : ℕ) → j < before → controller_at m t j ≡ Some n → HasList flags n z
