-- The members of controllers of `.size` and `.bits`, by rows.
use Rattle.std.specs.Prelude.{◌≡◌, ℕ, Bool, true, false, List, Option, Some, None, option_map, is_some, slice_get}
use Rattle.cddl_meaning.specs.Alike.{SameTest}
use Rattle.cddl_language.specs.Controls.{Membership, of_size, of_bits, member, control_of}
use Rattle.cddl_language.specs.Language.{membership_test}
use Rattle.cddl_language.specs.Literals.{Values}
use Rattle.cddl_language.specs.Sizes as L
use Rattle.cddl_language.specs.Sizes.{members_of}
use Rattle.cddl_language.specs.Terms.{Definition, Term, Text, control}
use Rattle.check_terms.specs.Table.{Table}
use Rattle.check_terms.specs.Trees.{IsTerm}
use Rattle.table_nodes.specs.SizeSets.{set_view}
use Rattle.table_nodes.specs.declared.sizes.NumberSet.{NumberSet}
use Rattle.check_literals.specs.Literals.{IsKnown}
use Rattle.check_literals.specs.declared.sizes.known.Controllers.{Controllers}
use Rattle.check_literals.specs.declared.sizes.known.Members.{Members}
use Rattle.check_literals.specs.declared.sizes.known.Sizes.{Sizes}

-- the members of the row of this number

abbrev pub list_at : List NumberSet → Option (Option ℕ) → Option L.Sizes
list_at zs (Some (Some i)) = option_map set_view (slice_get zs i)
list_at zs _ = None

abbrev pub sizes_at : Sizes → ℕ → Option L.Sizes
sizes_at z n = list_at z.lists.items (slice_get z.rows.items n)

-- for one of both controls

abbrev pub flags_of : Controllers → Membership → List Bool
flags_of c of_size = c.sizes.items
flags_of c of_bits = c.bits.items

abbrev pub sizes_of : Members → Membership → Sizes
sizes_of z of_size = z.sizes
sizes_of z of_bits = z.bits

-- the same items have numbers that are such members, or neither are members as they have to be
abbrev pub SameSizes : Option L.Sizes → Option L.Sizes → Type 0
SameSizes None None = Unit {0}
SameSizes (Some rs) (Some ss) = (m : Membership) → SameTest (membership_test m rs) (membership_test m ss)
SameSizes _ _ = ⊥

-- the row is of the controller of such a control
pub record IsController (m : Membership) (t : Table) (n : ℕ) : Type 0 where
  pub row : ℕ
  pub left : Term
  pub name : Text
  pub right : Term
  pub there : IsTerm t row (control left name right)
  pub asks : control_of name ≡ Some (member m)
  pub controller : IsTerm t n right

abbrev pub is_flagged : Option Bool → Bool
is_flagged (Some true) = true
is_flagged _ = false

abbrev pub flag_at : List Bool → ℕ → Bool
flag_at flags n = is_flagged (slice_get flags n)

module _ (xs : List Definition) (root : Text) (worth : Values) (t : Table) where
  -- for each row of a type whether it may be such a controller
  abbrev pub AreSizable : Membership → List Bool → Type 0
  AreSizable m flags = (n : ℕ) (x : Term) → IsTerm t n x → IsKnown xs root worth x → flag_at flags n ≡ is_some (members_of m worth xs x)

  abbrev pub AreControllers : Controllers → Type 0
  AreControllers c = (m : Membership) → AreSizable m (flags_of c m)

  -- the members of each such controller
  abbrev pub AreSizes : Membership → Sizes → Type 0
  AreSizes m z = (n : ℕ) (x : Term) → IsController m t n → IsTerm t n x → IsKnown xs root worth x → SameSizes (members_of m worth xs x) (sizes_at z n)

  abbrev pub AreMembers : Members → Type 0
  AreMembers z = (m : Membership) → AreSizes m (sizes_of z m)
