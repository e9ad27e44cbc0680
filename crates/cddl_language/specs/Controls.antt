-- The controls by their names, given without the `.` (RFC 8610 section 3.8; RFC 9165): the type on the left of a control is
-- asked of an item first, and the controller on its right as the name says.
use Rattle.std.specs.Prelude.{Bool, true, false, if◌then◌else◌, List, [], ◌∷◌, Option, Some, None, codes}
use Rattle.cddl_literal.specs.declared.operators.Joining.{Joining}
use Rattle.cddl_literal.specs.declared.operators.Joining.TheVariants.{AsTheyAre, Dedented}
use Rattle.cddl_language.specs.Terms.{Text}
use Rattle.cddl_language.specs.Environment.{is_in}

-- how an item is compared with a literal (section 3.8.6)
pub data Comparison : Type 0 where
  equal : Comparison
  different : Comparison
  less : Comparison
  at_most : Comparison
  greater : Comparison
  at_least : Comparison

-- whether the literal has to be a whole number
abbrev pub is_ordering : Comparison → Bool
is_ordering equal = false
is_ordering different = false
is_ordering _ = true

-- how a literal is computed from two (RFC 9165 section 2)
pub data Computation : Type 0 where
  sum : Computation
  join : Joining → Computation

-- which numbers of an item have to be members of the controller: its size (section 3.8.1), or the number of each bit that is
-- set in it (section 3.8.2)
pub data Membership : Type 0 where
  of_size : Membership
  of_bits : Membership

pub data Control : Type 0 where
  -- the controller is not asked (section 3.8.6)
  left_alone : Control
  -- the controller is asked of the same item (section 3.8.5)
  left_and_right : Control
  -- the controller is asked of the item that a byte string holds, or of the array of those that it holds (section 3.8.4)
  held_item : Control
  held_sequence : Control
  -- the item is compared with the controller, a literal
  compared : Comparison → Control
  -- numbers of the item are members of the controller
  member : Membership → Control
  -- the item is the literal that is computed from both sides
  computed : Computation → Control

abbrev pub controls_that_compute : List (List Text × Control)
controls_that_compute = (codes "plus" ∷ [], computed sum) ∷ (codes "cat" ∷ [], computed (join AsTheyAre)) ∷ (codes "det" ∷ [], computed (join Dedented)) ∷ []

abbrev pub controls_by_values : List (List Text × Control)
controls_by_values = (codes "eq" ∷ [], compared equal) ∷ (codes "ne" ∷ [], compared different) ∷ (codes "lt" ∷ [], compared less) ∷ (codes "le" ∷ [], compared at_most) ∷ (codes "gt" ∷ [], compared greater) ∷ (codes "ge" ∷ [], compared at_least) ∷ (codes "size" ∷ [], member of_size) ∷ (codes "bits" ∷ [], member of_bits) ∷ controls_that_compute

abbrev pub controls : List (List Text × Control)
controls = (codes "default" ∷ [], left_alone) ∷ (codes "and" ∷ codes "within" ∷ [], left_and_right) ∷ (codes "cbor" ∷ [], held_item) ∷ (codes "cborseq" ∷ [], held_sequence) ∷ controls_by_values

abbrev pub control_among : List (List Text × Control) → Text → Option Control
control_among [] n = None
control_among (c ∷ cs) n = if is_in c.0 n then Some c.1 else control_among cs n

-- the control of this name, where it is known
abbrev pub control_of : Text → Option Control
control_of n = control_among controls n

-- how it compares, if it does
abbrev pub comparison_in : Option Control → Option Comparison
comparison_in (Some (compared c)) = Some c
comparison_in _ = None

-- of which numbers it asks whether they are members, if it does
abbrev pub membership_in : Option Control → Option Membership
membership_in (Some (member m)) = Some m
membership_in _ = None

-- how it computes a literal, if it does
abbrev pub computation_in : Option Control → Option Computation
computation_in (Some (computed c)) = Some c
computation_in _ = None

-- The controller is asked before an item is surely taken or gone into: of the same item, or of the array of all that a byte
-- string holds. The one item that a byte string holds is smaller than the string.
abbrev pub is_asked_here : Option Control → Bool
is_asked_here (Some left_and_right) = true
is_asked_here (Some held_sequence) = true
is_asked_here _ = false
