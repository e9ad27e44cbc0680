use Rattle.std.proofs.lemmas.Option.{slice_get-get_or}
use Rattle.check_root.specs.RootFaults.Starts.{start_if}
use Rattle.all_offsets.specs.Offsets.{IsAtPlace, IsSaid}
use Rattle.all_offsets.proofs.Lemmas.{begins, ends, goes_on_said, in_order}
use Rattle.check_root.proofs.root_faults.returning.all_starts.Goals as goal

pub loop-place-init : goal.loop-place-init
loop-place-init c = begins (IsSaid (start_if c.args.terms.now c.args.starts.now c.args.names.now c.args.closed.now)) c.args.flags.now c.new-offsets.result.items c.new-offsets.ensures.items

pub loop-place-preserved : goal.loop-place-preserved
loop-place-preserved c = goes_on_said (start_if c.args.terms.now c.args.starts.now c.args.names.now c.args.closed.now) c.args.flags.now c.loop-place.place _ c.start_if-start.result _ _ (slice_get-get_or c.args.flags.now c.loop-place.place _ c.loop-place-test.true) c.start_if-start.ensures c.in_ok-push_found.ensures c.loop-place.invariant

pub returns : goal.returns
returns c = in_order (IsAtPlace (IsSaid (start_if c.args.terms.now c.args.starts.now c.args.names.now c.args.closed.now)) c.args.flags.now) c.loop-place.offsets.items _ (ends (IsSaid (start_if c.args.terms.now c.args.starts.now c.args.names.now c.args.closed.now)) c.args.flags.now c.loop-place.place c.loop-place.offsets.items c.loop-place-test.false c.loop-place.invariant) c.sort.ensures.rising c.sort.ensures.same
