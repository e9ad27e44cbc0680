-- The literals that types are, by rows.
use Rattle.std.specs.Prelude.{◌≡◌, ℕ, List, Option, Some, None, option_map, Result, Ok, Err, slice_get}
use Rattle.cddl_literal.specs.Literals.{view}
use Rattle.cddl_literal.specs.Numbers.{Meaning}
use Rattle.cddl_literal.specs.declared.Literal.{Literal}
use Rattle.cddl_literal.specs.declared.operators.Fault.{Fault}
use Rattle.cddl_language.specs.Controls.{Computation, computation_in, control_of}
use Rattle.cddl_language.specs.Literals.{Values, computed_from, literal_of}
use Rattle.cddl_language.specs.Reach.{points}
use Rattle.cddl_language.specs.Terms.{Definition, Term, Text, control}
use Rattle.check_terms.specs.Table.{Table}
use Rattle.check_terms.specs.Trees.{IsTerm}
use Rattle.check_instances.specs.Closed.Closed.{AreReached}
use Rattle.cddl_language.specs.Written.Written.{AllIn, IsMeant}
use Rattle.check_literals.specs.declared.known.Literals.{Literals}
use Rattle.check_literals.specs.declared.known.Outcome.{Outcome}
use Rattle.check_literals.specs.declared.known.Outcome.TheVariants as OutcomeV

-- what the row of this number is

abbrev pub value_by : List Literal → Option Outcome → Option Meaning
value_by vs (Some (OutcomeV.Value i)) = option_map view (slice_get vs i)
value_by vs _ = None

abbrev pub literal_at : Literals → ℕ → Option Meaning
literal_at ls n = value_by ls.values.items (slice_get ls.rows.items n)

abbrev pub fault_in : Option Outcome → Option Fault
fault_in (Some (OutcomeV.Faulty f)) = Some f
fault_in _ = None

abbrev pub fault_at : Literals → ℕ → Option Fault
fault_at ls n = fault_in (slice_get ls.rows.items n)

-- why no literal is computed from two, where there are two

abbrev pub fault_of : Result Meaning Fault → Option Fault
fault_of (Ok m) = None
fault_of (Err f) = Some f

abbrev pub computed_fault : Computation → Option Meaning → Option Meaning → Option Fault
computed_fault c (Some u) (Some v) = fault_of (computed_from c u v)
computed_fault c _ _ = None

module _ (xs : List Definition) (root : Text) (worth : Values) where
  -- All references in the type are instances, and each written value in it is taken for what it stands for.
  abbrev pub IsKnown : Term → Type 0
  IsKnown x = AreReached xs root (points x) × AllIn (IsMeant worth) x

  -- The table's rows are these literals, where they are of such types.
  pub record AreLiterals (t : Table) (ls : Literals) : Type 0 where
    pub values : (n : ℕ) (x : Term) → IsTerm t n x → IsKnown x → literal_at ls n ≡ literal_of worth xs x
    pub faults : (n : ℕ) (a b : Term) (m : Text) (c : Computation) → IsTerm t n (control a m b) → IsKnown (control a m b) → computation_in (control_of m) ≡ Some c → fault_at ls n ≡ computed_fault c (literal_of worth xs a) (literal_of worth xs b)
