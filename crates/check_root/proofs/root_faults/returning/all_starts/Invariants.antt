use Rattle.check_root.specs.RootFaults.Starts.{start_if}
use Rattle.all_offsets.specs.Offsets.{IsSaid}
use Rattle.all_offsets.proofs.Lemmas.{Gathers}
use Rattle.check_root.proofs.root_faults.returning.all_starts.Given as goal

abbrev pub invariant-loop-place : goal.invariant-loop-place
invariant-loop-place l = Gathers (IsSaid (start_if l.terms l.starts l.names l.closed)) l.flags l.place l.offsets.items
