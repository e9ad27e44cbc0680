-- The first fault of a list of codes: of the first of them that stands anywhere, the least offset.
use Rattle.std.specs.Prelude.{◌≡◌, ◌⊎◌, ℕ, List, [], ◌∷◌, Option, Some, None}
use Rattle.cddl_token.specs.declared.Code.{Code}
use Rattle.lists.specs.Least.{IsLeast}
use Rattle.check_text.specs.declared.fault.Fault.{Fault}

-- the fault is of this code, and at the least offset where the code stands
abbrev pub IsOf : (Code → ℕ → Type 0) → Code → Fault → Type 0
IsOf P c f = (f.code ≡ c) × IsLeast (P c) (Some f.at)

abbrev pub IsFirst : (Code → ℕ → Type 0) → List Code → Option Fault → Type 0
IsFirst P [] None = Unit {0}
IsFirst P [] (Some f) = ⊥
IsFirst P (c ∷ cs) None = IsLeast (P c) None × IsFirst P cs None
IsFirst P (c ∷ cs) (Some f) = IsOf P c f ⊎ (IsLeast (P c) None × IsFirst P cs (Some f))

-- the first of two answers
abbrev pub first_in : Option Fault → Option Fault → Option Fault
first_in (Some f) o = Some f
first_in None o = o
