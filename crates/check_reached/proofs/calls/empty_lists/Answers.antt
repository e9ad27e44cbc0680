use Rattle.std.proofs.Common.{◌++◌, ◌+◌, ◌-◌, sym, ap, ◌∙◌}
use Rattle.check_names.specs.Environment.Places.{lists, no_places}
use Rattle.check_reached.proofs.Listing.{next_empty, one_more}
use Rattle.check_reached.proofs.calls.empty_lists.Goals as goal

pub loop-preserved : goal.loop-preserved
loop-preserved c =
    let further = no_places (c.args.count - (c.loop.counter + 1)) in
    ap (λ ls. ls ++ further) (ap lists c.in_ok-push.ensures.items) ∙ one_more c.loop.empty.items c.new.result (c.new.ensures.items) further ∙ ap (λ ls. lists c.loop.empty.items ++ ls) (sym (next_empty c.loop.counter c.args.count c.loop-test.true)) ∙ c.loop.invariant
