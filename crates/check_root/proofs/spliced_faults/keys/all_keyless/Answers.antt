use Rattle.std.proofs.lemmas.Option.{slice_get-get_or}
use Rattle.check_root.specs.SplicedFaults.Lookups.{keyless_at}
use Rattle.all_offsets.specs.Offsets.{IsAtPlace, IsSaid}
use Rattle.all_offsets.proofs.Lemmas.{begins, ends, goes_on_said, in_order}
use Rattle.check_root.proofs.spliced_faults.keys.all_keyless.Goals as goal

pub loop-entry-init : goal.loop-entry-init
loop-entry-init c = begins (IsSaid (λ k. keyless_at c.args.faults.now)) c.args.spliced.now c.new-offsets.result.items c.new-offsets.ensures.items

pub loop-entry-preserved : goal.loop-entry-preserved
loop-entry-preserved c = goes_on_said (λ k. keyless_at c.args.faults.now) c.args.spliced.now c.loop-entry.entry-index _ c.keyless_at.result _ _ (slice_get-get_or c.args.spliced.now c.loop-entry.entry-index _ c.loop-entry-test.true) c.keyless_at.ensures c.in_ok-push_found.ensures c.loop-entry.invariant

pub returns : goal.returns
returns c = in_order (IsAtPlace (IsSaid (λ k. keyless_at c.args.faults.now)) c.args.spliced.now) c.loop-entry.offsets.items _ (ends (IsSaid (λ k. keyless_at c.args.faults.now)) c.args.spliced.now c.loop-entry.entry-index c.loop-entry.offsets.items c.loop-entry-test.false c.loop-entry.invariant) c.sort.ensures.rising c.sort.ensures.same
