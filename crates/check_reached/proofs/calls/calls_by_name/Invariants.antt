use Rattle.std.proofs.Common.{◌≡◌, drop, length}
use Rattle.check_names.specs.Environment.Places.{lists, no_places}
use Rattle.check_reached.specs.Calls.{with_calls}
use Rattle.check_reached.proofs.calls.calls_by_name.Given as goal

abbrev pub invariant-loop-instance : goal.invariant-loop-instance
invariant-loop-instance l = with_calls l.terms.rows (drop l.instance-index l.found) (lists l.calls.items) ≡ with_calls l.terms.rows l.found (no_places (length l.terms.texts))
