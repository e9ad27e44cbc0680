use Rattle.std.proofs.Common.{subst, sym, ap, ◌∙◌, ◌≡◌, ◌++◌, ◌+◌, ◌-◌}
use Rattle.graphs.specs.Chains.Steps.{numbers_from, own_numbers}
use Rattle.graphs.proofs.OfChains.Joining.{next_number, one_before}
use Rattle.graphs.proofs.chains.first_links.Goals as goal

pub loop-number-preserved : goal.loop-number-preserved
loop-number-preserved c =
    let n = c.loop-number.number in
    let further = numbers_from (n + 1) (c.args.count - (n + 1)) in
    let so_far = c.loop-number.links.items in
    subst (λ xs. xs ++ further ≡ own_numbers c.args.count) (sym c.in_ok-push.ensures.items) (one_before so_far _ further ∙ ap (λ r. so_far ++ r) (sym (next_number n c.args.count c.loop-number-test.true)) ∙ c.loop-number.invariant)
