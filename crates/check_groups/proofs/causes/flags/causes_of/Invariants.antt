use Rattle.std.proofs.Common.{◌≡◌, ℕ, List, length, Some, slice_get}
use Rattle.cddl_language.specs.Terms.{Definition, Ref, Text}
use Rattle.check_groups.specs.Causes.Flags.{IsCauseAt}
use Rattle.check_groups.specs.Causes.Resolved.{IsResolved}
use Rattle.check_groups.specs.declared.causes.cause.RowCause.{RowCause}
use Rattle.check_groups.proofs.causes.flags.causes_of.Given as goal

abbrev pub invariant-loop-number : goal.invariant-loop-number
invariant-loop-number l = record {
  all : length l.causes.items ≡ l.number;
  each : (xs : List Definition) (root : Text) (refs : List Ref) → IsResolved xs root refs l.terms l.closed l.kinds l.openings → (n : ℕ) (c : RowCause) → slice_get l.causes.items n ≡ Some c → IsCauseAt l.property xs root l.terms n c;
}
