use Rattle.std.proofs.Common.{◌≡◌, ℕ, List, length, Some, slice_get}
use Rattle.cddl_language.specs.Terms.{Definition, Ref, Text}
use Rattle.alternatives.specs.declared.Part.{Part}
use Rattle.check_groups.specs.Causes.Resolved.{IsResolved}
use Rattle.check_groups.specs.Splices.Parts.{IsPartAt}
use Rattle.check_groups.proofs.splices.parts.parts_of.Given as goal

abbrev pub invariant-loop-number : goal.invariant-loop-number
invariant-loop-number l = record {
  all : length l.parts.items ≡ l.number;
  each : (xs : List Definition) (root : Text) (refs : List Ref) → IsResolved xs root refs l.terms l.closed l.kinds l.openings → (n : ℕ) (p : Part) → slice_get l.parts.items n ≡ Some p → IsPartAt xs root l.terms n p;
}
