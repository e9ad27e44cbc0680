use Rattle.std.proofs.Common.{◌≡◌, ◌<◌, ℕ, length, slice_get}
use Rattle.table_nodes.specs.Majors.{row_tells}
use Rattle.table_nodes.proofs.Rowing.{Next}
use Rattle.table_nodes.proofs.majors.further.Given as goal

-- a row for each of the first types
abbrev pub invariant-loop-form : goal.invariant-loop-form
invariant-loop-form l = record {
  many : length l.rows.items ≡ l.form-index;
  each : (j m : ℕ) → j < l.form-index → row_tells (slice_get l.rows.items j) m ≡ Next l.fn.types l.fn.known j m;
}
