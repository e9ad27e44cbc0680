-- What is wrong with what stands beside a control, by rows.
use Rattle.std.specs.Prelude.{◌≡◌, ℕ, Bool, true, false, not, ◌||◌, is_some, List, Contains, Option, Some, None, slice_get}
use Rattle.cddl_literal.specs.Numbers.{Meaning}
use Rattle.cddl_literal.specs.declared.operators.Fault.{Fault}
use Rattle.cddl_literal.specs.declared.operators.Fault.TheVariants.{NotUtf8, OutOfRange}
use Rattle.cddl_literal.specs.declared.operators.Joining.TheVariants.{AsTheyAre}
use Rattle.cddl_language.specs.Controls.{Computation, Membership, of_size, of_bits, computation_in, control_of, join, sum}
use Rattle.cddl_language.specs.Faults.{is_operand}
use Rattle.cddl_language.specs.Literals.{Values, literal_of, whole}
use Rattle.cddl_language.specs.Sizes.{members_of}
use Rattle.cddl_language.specs.Terms.{Definition, Term, Text, control}
use Rattle.check_terms.specs.declared.row.Row.{Row}
use Rattle.check_terms.specs.Table.{Table}
use Rattle.check_terms.specs.Trees.{IsTerm}
use Rattle.check_literals.specs.declared.known.Literals.{Literals}
use Rattle.check_literals.specs.Literals.{IsKnown, computed_fault, fault_at, literal_at}
use Rattle.check_literals.specs.Sizes.Sizes.{AreControllers, flag_at, flags_of}
use Rattle.check_reached.specs.declared.asked.Asked.{Asked}
use Rattle.check_reading.specs.declared.parts.part.Question.{Question}
use Rattle.check_reading.specs.declared.parts.part.Question.TheVariants as QuestionV
use Rattle.check_root.specs.declared.control_faults.controllers.Wrong.{Wrong}
use Rattle.check_root.specs.declared.control_faults.controllers.Wrong.TheVariants as WrongV

-- What is wrong with a type that is this literal, or none, and may be a controller with members or not.

abbrev pub is_wrong_literal : Question → Option Meaning → Bool
is_wrong_literal QuestionV.IsLiteral m = not (is_some m)
is_wrong_literal QuestionV.IsNumber m = not (is_some m)
is_wrong_literal QuestionV.IsAddend m = not (is_operand sum m)
is_wrong_literal QuestionV.IsString m = not (is_operand (join AsTheyAre) m)
is_wrong_literal _ m = false

abbrev pub is_bad_controller : Question → Option Meaning → Bool → Bool
is_bad_controller QuestionV.IsNumber None z = false
is_bad_controller QuestionV.IsNumber (Some v) z = not (is_some (whole (Some v)))
is_bad_controller QuestionV.HasSizes m z = not z
is_bad_controller QuestionV.HasBits m z = not z
is_bad_controller _ m z = false

abbrev pub is_wrong_type : Wrong → Question → Option Meaning → Bool → Bool
is_wrong_type WrongV.NotLiteral q m z = is_wrong_literal q m
is_wrong_type (WrongV.BadController b) q m z = is_bad_controller q m z

-- What is wrong with a computation whose right side is this literal, or none, and which fails so, if it does.

abbrev pub is_out_of_range : Option Fault → Bool
is_out_of_range (Some OutOfRange) = true
is_out_of_range _ = false

abbrev pub is_not_utf8 : Option Fault → Bool
is_not_utf8 (Some NotUtf8) = true
is_not_utf8 _ = false

abbrev pub is_wrong_computation : Wrong → Computation → Option Meaning → Option Fault → Bool
is_wrong_computation WrongV.NotLiteral c m f = not (is_operand c m) || is_out_of_range f
is_wrong_computation (WrongV.BadController b) c m f = is_not_utf8 f

-- The same by rows.

-- the literal of the right side's row is not one that the computation takes
abbrev pub has_other_right : Literals → Option Computation → Option ℕ → Bool
has_other_right ls None n = false
has_other_right ls (Some c) None = false
has_other_right ls (Some c) (Some n) = not (is_operand c (literal_at ls n))

abbrev pub is_wrong_control : Wrong → Literals → Option Computation → Option ℕ → Option Fault → Bool
is_wrong_control WrongV.NotLiteral ls c n f = has_other_right ls c n || is_out_of_range f
is_wrong_control (WrongV.BadController b) ls c n f = is_not_utf8 f

-- how the control of the row computes a literal, and the row of its right side

abbrev pub text_in : Option Row → Option ℕ
text_in None = None
text_in (Some r) = r.text

abbrev pub computation_named : Option Text → Option Computation
computation_named None = None
computation_named (Some x) = computation_in (control_of x)

abbrev pub computation_by : List Text → Option ℕ → Option Computation
computation_by texts None = None
computation_by texts (Some k) = computation_named (slice_get texts k)

abbrev pub computation_at : Table → ℕ → Option Computation
computation_at t n = computation_by t.texts (text_in (slice_get t.rows n))

abbrev pub right_in : Option Row → Option ℕ
right_in None = None
right_in (Some r) = r.second

abbrev pub right_at : List Row → ℕ → Option ℕ
right_at rows n = right_in (slice_get rows n)

-- which members are asked for, where some are
abbrev pub membership_asked : Question → Membership
membership_asked QuestionV.HasBits = of_bits
membership_asked _ = of_size

-- whether the row's flag says that it may be such a controller, where that is asked
abbrev pub has_members : Wrong → Question → ℕ → Bool
has_members WrongV.NotLiteral q n = true
has_members (WrongV.BadController b) q n = flag_at (flags_of b.now (membership_asked q)) n

abbrev pub is_wrong_row : Table → Literals → Wrong → Question → ℕ → Bool
is_wrong_row t ls w QuestionV.Computes n = is_wrong_control w ls (computation_at t n) (right_at t.rows n) (fault_at ls n)
is_wrong_row t ls w q n = is_wrong_type w q (literal_at ls n) (has_members w q n)

-- whether it is asked of a literal, of members or of a computation
abbrev pub is_asked : Question → Bool
is_asked QuestionV.IsLiteral = true
is_asked QuestionV.IsNumber = true
is_asked QuestionV.HasSizes = true
is_asked QuestionV.HasBits = true
is_asked QuestionV.IsAddend = true
is_asked QuestionV.IsString = true
is_asked QuestionV.Computes = true
is_asked _ = false

-- the type is a control that computes a literal
pub record IsComputed (x : Term) : Type 0 where
  pub left : Term
  pub name : Text
  pub right : Term
  pub computation : Computation
  pub same : x ≡ control left name right
  pub computes : computation_in (control_of name) ≡ Some computation

module _ (xs : List Definition) (root : Text) (worth : Values) (t : Table) where
  -- The row is of a type in which all references are instances, and written values are taken for what they stand for.
  pub record IsThere (a : Asked) : Type 0 where
    pub term : Term
    pub row : IsTerm t a.row term
    pub known : IsKnown xs root worth term
    pub computed : a.question ≡ QuestionV.Computes → IsComputed term

  -- so it is where it is asked for one of these
  abbrev pub AreThere : List Asked → Type 0
  AreThere asked = (a : Asked) → Contains asked a → is_asked a.question ≡ true → IsThere a

  -- the flags say which types may be such controllers, where that is asked
  abbrev pub AreFlags : Wrong → Type 0
  AreFlags WrongV.NotLiteral = Unit {0}
  AreFlags (WrongV.BadController b) = AreControllers xs root worth t b.now

module _ (xs : List Definition) (worth : Values) where
  -- what is wrong with a type

  abbrev pub is_wrong_by : Wrong → Option Computation → Term → Term → Bool
  is_wrong_by w None x y = false
  is_wrong_by w (Some c) x y = is_wrong_computation w c (literal_of worth xs y) (computed_fault c (literal_of worth xs x) (literal_of worth xs y))

  abbrev pub is_wrong_computed : Wrong → Term → Bool
  is_wrong_computed w (control x n y) = is_wrong_by w (computation_in (control_of n)) x y
  is_wrong_computed w _ = false

  abbrev pub is_wrong : Wrong → Question → Term → Bool
  is_wrong w QuestionV.Computes x = is_wrong_computed w x
  is_wrong w q x = is_wrong_type w q (literal_of worth xs x) (is_some (members_of (membership_asked q) worth xs x))

  -- The question asks for it, and it is wrong with the type.
  pub record IsWrong (t : Table) (w : Wrong) (a : Asked) (at : ℕ) : Type 0 where
    pub term : Term
    pub row : IsTerm t a.row term
    pub wrong : is_wrong w a.question term ≡ true
    pub offset : at ≡ a.at
