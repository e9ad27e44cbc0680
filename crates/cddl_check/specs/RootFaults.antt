-- All faults of what the root reaches.
use Rattle.std.specs.Prelude.{ℕ, ◌<◌, ◌≤◌, Option, Some, None}
use Rattle.cddl_token.specs.declared.Code.{Code}
use Rattle.cddl_token.specs.declared.Code.TheVariants.{TooManyInstances, NotUnwrappable, Recursion, NotLiteral, BadRange, BadController, NoKey, MapShape, TooManyAlternatives}
use Rattle.all_offsets.specs.Offsets.{AreOffsets}
use Rattle.cddl_language.specs.Faults.{IsFaultAt, Specification, number_of, rules}
use Rattle.cddl_language.specs.Literals.{Values}
use Rattle.cddl_language.specs.MapFaults.{HasMapShape, HasNoKey, HasTooManyAlternatives}
use Rattle.cddl_language.specs.Terms.{Text}
use Rattle.cddl_check.specs.declared.all_faults.FaultsOfMaps.{FaultsOfMaps}
use Rattle.cddl_check.specs.declared.all_faults.RootFaults.{RootFaults}
use Rattle.cddl_check.specs.declared.stopped.Stopped.{Stopped}
use Rattle.cddl_check.specs.declared.stopped.Stopped.TheVariants as StoppedV

-- of each code all offsets at which it stands
pub record AreFaults (s : Specification) (worth : Values) (x : RootFaults) : Type 0 where
  pub not_unwrappable : AreOffsets (IsFaultAt s worth NotUnwrappable) x.not_unwrappable.items
  pub recursion : AreOffsets (IsFaultAt s worth Recursion) x.recursion.items
  pub not_literal : AreOffsets (IsFaultAt s worth NotLiteral) x.not_literal.items
  pub bad_range : AreOffsets (IsFaultAt s worth BadRange) x.bad_range.items
  pub bad_controller : AreOffsets (IsFaultAt s worth BadController) x.bad_controller.items
  pub no_key : AreOffsets (IsFaultAt s worth NoKey) x.no_key.items
  pub map_shape : AreOffsets (IsFaultAt s worth MapShape) x.map_shape.items
  pub too_many_alternatives : AreOffsets (IsFaultAt s worth TooManyAlternatives) x.too_many_alternatives.items

-- a fault of C1 to C10 stands, and it is not known what the root reaches
pub record IsUnreached (s : Specification) (worth : Values) : Type 0 where
  pub code : Code
  pub at : ℕ
  pub stands : IsFaultAt s worth code at
  pub early : number_of code ≤ number_of TooManyInstances

-- none of these stands
abbrev pub IsLater : Specification → Values → Type 0
IsLater s worth = (code : Code) (at : ℕ) → IsFaultAt s worth code at → number_of TooManyInstances < number_of code

abbrev pub AreRootFaults : Specification → Values → Option RootFaults → Type 0
AreRootFaults s worth None = IsUnreached s worth
AreRootFaults s worth (Some x) = IsLater s worth × AreFaults s worth x

-- The same, as the stages tell one another.

abbrev pub HasEarlyFault : Specification → Values → Stopped → Type 0
HasEarlyFault s worth (StoppedV.Refused f) = IsUnreached s worth
HasEarlyFault s worth StoppedV.Memory = Unit {0}

pub record AreOfMaps (s : Specification) (root : Text) (x : FaultsOfMaps) : Type 0 where
  pub no_key : AreOffsets (HasNoKey (rules s) root) x.no_key.items
  pub map_shape : AreOffsets (HasMapShape (rules s) root) x.map_shape.items
  pub too_many_alternatives : AreOffsets (HasTooManyAlternatives (rules s) root) x.too_many_alternatives.items
