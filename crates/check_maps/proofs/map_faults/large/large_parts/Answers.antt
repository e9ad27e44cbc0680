use Rattle.std.proofs.Common.{rules, ◌≡◌, ◌+◌, ◌∙◌, ◌↔◌, true, None, Some, ap, length, subst, sym, slice_get}
use Rattle.lists.proofs.Lemmas.{push_length}
use Rattle.check_maps.specs.MapFaults.Large.{IsLarge}
use Rattle.check_maps.proofs.OfMapFaults.Flags.{are_flags, large_within, one_more}
use Rattle.check_maps.proofs.OfMapFaults.Lists.{at_place}
use Rattle.check_maps.proofs.map_faults.large.large_parts.Goals as goal

pub loop-summary-preserved : goal.loop-summary-preserved
loop-summary-preserved c =
    let items = c.loop-summary.large.items in
    let place = c.loop-summary.summary-index in
    let known = c.loop-summary.invariant in
    record {
      all = ap length c.in_ok-push.ensures.items ∙ (push_length items c.is_large.result ∙ ap (λ n. n + 1) known.all);
      told = λ parts are n b e. one_more (λ m x. (x ≡ true) ↔ IsLarge parts m) items c.is_large.result (known.told parts are) (subst (λ m. (c.is_large.result ≡ true) ↔ IsLarge parts m) (sym known.all) (c.is_large.ensures parts place (are.each place _ (at_place c.args.summaries.now place None c.loop-summary-test.true)))) n b (subst (λ xs. slice_get xs n ≡ Some b) c.in_ok-push.ensures.items e);
    }

pub returns : goal.returns
returns c parts are =
    let whole : length c.loop-summary.large.items ≡ length c.args.summaries.now = search rules in
    are_flags (IsLarge parts) parts c.loop-summary.large.items (whole ∙ are.all) (large_within parts) (c.loop-summary.invariant.told parts are)
