use Rattle.std.proofs.lemmas.Option.{slice_get-get_or}
use Rattle.check_root.specs.SplicedFaults.Lookups.{shape_at}
use Rattle.all_offsets.specs.Offsets.{IsAtPlace, IsSaid}
use Rattle.all_offsets.proofs.Lemmas.{begins, ends, goes_on_said, in_order}
use Rattle.check_root.proofs.spliced_faults.shapes.all_shapes.Goals as goal

pub loop-place-init : goal.loop-place-init
loop-place-init c = begins (IsSaid (shape_at c.args.faults.now c.args.coming_back.now)) c.args.spliced.now c.new-offsets.result.items c.new-offsets.ensures.items

pub loop-place-preserved : goal.loop-place-preserved
loop-place-preserved c = goes_on_said (shape_at c.args.faults.now c.args.coming_back.now) c.args.spliced.now c.loop-place.place _ c.shape_at-wrong.result _ _ (slice_get-get_or c.args.spliced.now c.loop-place.place _ c.loop-place-test.true) c.shape_at-wrong.ensures c.in_ok-push_found.ensures c.loop-place.invariant

pub returns : goal.returns
returns c = in_order (IsAtPlace (IsSaid (shape_at c.args.faults.now c.args.coming_back.now)) c.args.spliced.now) c.loop-place.offsets.items _ (ends (IsSaid (shape_at c.args.faults.now c.args.coming_back.now)) c.args.spliced.now c.loop-place.place c.loop-place.offsets.items c.loop-place-test.false c.loop-place.invariant) c.sort.ensures.rising c.sort.ensures.same
