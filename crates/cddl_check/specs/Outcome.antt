-- What is reported for a specification.
use Rattle.std.specs.Prelude.{◌≡◌, Option, Some}
use Rattle.cddl_token.specs.declared.Refusal.{Refusal}
use Rattle.cddl_token.specs.declared.Refusal.TheVariants as RefusalV
use Rattle.tree_nodes.specs.Syntax.Syntax.{Cddl}
use Rattle.cddl_language.specs.Terms.{Text}
use Rattle.cddl_language.specs.Faults.{IsAccepted, IsRefused, Specification, root_of}
use Rattle.cddl_language.specs.Literals.{AreRight, Values}
use Rattle.cddl_check.specs.declared.stopped.Stopped.{Stopped}
use Rattle.cddl_check.specs.declared.stopped.Stopped.TheVariants as StoppedV

abbrev pub specification : Cddl → Option Text → Specification
specification x given = record { tree = x; given = given }

-- The specification of this tree, with this name given as its root or none, has no fault, and this is its root.
pub record IsChecked (x : Cddl) (given : Option Text) (root : Text) : Type 0 where
  pub rooted : root_of (specification x given) ≡ Some root
  pub accepted : (worth : Values) → AreRight x worth → IsAccepted (specification x given) worth

-- Why it is refused; where memory was refused nothing is reported.
abbrev pub IsFaulty : Cddl → Option Text → Refusal → Type 0
IsFaulty x given (RefusalV.At code at) = (worth : Values) → AreRight x worth → IsRefused (specification x given) worth code at
IsFaulty x given RefusalV.Memory = Unit {0}

-- The same, as the stages tell one another.
abbrev pub IsStopped : Specification → Values → Stopped → Type 0
IsStopped s worth (StoppedV.Refused f) = IsRefused s worth f.code f.at
IsStopped s worth StoppedV.Memory = Unit {0}
