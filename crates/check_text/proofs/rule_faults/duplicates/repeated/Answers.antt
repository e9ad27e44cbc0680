use Rattle.std.proofs.Common.{rules}
use Rattle.std.proofs.lemmas.Option.{slice_get-get_or}
use Rattle.check_text.proofs.OfRuleFaults.Repeats.{all_read, next_read, none_read}
use Rattle.check_text.proofs.rule_faults.duplicates.repeated.Goals as goal

pub loop-place-init : goal.loop-place-init
loop-place-init c = none_read c.args.parameters.now c.args.starts.now c.new-seen.result.keys (search rules)

pub loop-place-preserved : goal.loop-place-preserved
loop-place-preserved c = next_read c.args.parameters.now c.args.starts.now c.loop-place.seen.keys c.loop-place.place c.loop-place.least c.loop-place.invariant _ (slice_get-get_or c.args.parameters.now c.loop-place.place _ c.loop-place-test.true) _ c.in_ok-is_new.is_new c.start_again.result c.lesser-least.result c.in_ok-is_new.ensures.added c.in_ok-is_new.ensures.keeps c.start_again.ensures c.lesser-least.ensures

pub returns : goal.returns
returns c = all_read c.args.parameters.now c.args.starts.now c.loop-place.seen.keys c.loop-place.place c.loop-place.least c.loop-place-test.false c.loop-place.invariant
