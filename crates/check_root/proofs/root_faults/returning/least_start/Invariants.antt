use Rattle.std.proofs.Common.{◌≡◌, drop}
use Rattle.check_root.specs.Least.{least_from}
use Rattle.check_root.specs.RootFaults.Starts.{least_start, start_if}
use Rattle.check_root.proofs.root_faults.returning.least_start.Given as goal

abbrev pub invariant-loop-place : goal.invariant-loop-place
invariant-loop-place l = least_from (start_if l.terms l.starts l.names l.closed) l.place l.least (drop l.place l.flags) ≡ least_start l.terms l.starts l.names l.closed l.flags
