use Rattle.std.proofs.Common.{rules}
use Rattle.std.proofs.lemmas.Option.{slice_get-get_or}
use Rattle.check_text.proofs.OfEverywhere.Repeating.{begins, ends, goes_on}
use Rattle.check_text.proofs.everywhere.repeats.push_repeated.Goals as goal

pub loop-place-init : goal.loop-place-init
loop-place-init c = begins c.args.parameters.now c.args.starts.now c.new-seen.result.keys c.args.offsets.now.items (search rules)

pub loop-place-preserved : goal.loop-place-preserved
loop-place-preserved c = goes_on c.args.parameters.now c.args.starts.now c.loop-place.seen.keys c.loop-place.place _ _ c.loop-place.invariant _ (slice_get-get_or c.args.parameters.now c.loop-place.place _ c.loop-place-test.true) _ c.in_ok-is_new.is_new c.start_again.result _ c.in_ok-is_new.ensures.added c.in_ok-is_new.ensures.keeps c.start_again.ensures c.in_ok-push_found.ensures

pub returns : goal.returns
returns c = ends c.args.parameters.now c.args.starts.now c.loop-place.seen.keys c.loop-place.place _ _ c.loop-place-test.false c.loop-place.invariant
