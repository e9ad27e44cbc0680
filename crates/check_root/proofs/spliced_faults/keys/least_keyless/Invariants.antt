use Rattle.std.proofs.Common.{◌≡◌, None, drop}
use Rattle.check_root.specs.Least.{least_over}
use Rattle.check_root.specs.SplicedFaults.Lookups.{keyless_at}
use Rattle.check_root.proofs.spliced_faults.keys.least_keyless.Given as goal

abbrev pub invariant-loop-entry : goal.invariant-loop-entry
invariant-loop-entry l = least_over (keyless_at l.faults) l.least (drop l.entry-index l.spliced) ≡ least_over (keyless_at l.faults) None l.spliced
