use Rattle.check_root.specs.SplicedFaults.Lookups.{keyless_at}
use Rattle.all_offsets.specs.Offsets.{IsSaid}
use Rattle.all_offsets.proofs.Lemmas.{Gathers}
use Rattle.check_root.proofs.spliced_faults.keys.all_keyless.Given as goal

abbrev pub invariant-loop-entry : goal.invariant-loop-entry
invariant-loop-entry l = Gathers (IsSaid (λ k. keyless_at l.faults)) l.spliced l.entry-index l.offsets.items
