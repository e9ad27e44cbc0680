use Rattle.std.proofs.Common.{◌≡◌, ℕ, List, length, Some, slice_get}
use Rattle.cddl_language.specs.Terms.{Definition, Ref, Text}
use Rattle.check_groups.specs.Causes.Resolved.{IsResolved}
use Rattle.check_groups.specs.Causes.Rows.{IsRowAt}
use Rattle.check_groups.specs.declared.causes.rows.GroupRow.{GroupRow}
use Rattle.check_groups.proofs.rows.group_rows.Given as goal

abbrev pub invariant-loop-number : goal.invariant-loop-number
invariant-loop-number l = record {
  all : length l.rows.items ≡ l.number;
  each : (xs : List Definition) (root : Text) (refs : List Ref) → IsResolved xs root refs l.terms l.closed l.kinds l.openings → (n : ℕ) (r : GroupRow) → slice_get l.rows.items n ≡ Some r → IsRowAt xs root l.terms n r;
}
