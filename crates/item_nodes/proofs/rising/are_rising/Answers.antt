use Rattle.std.proofs.Common.{◌≡◌, length, ap, ◌∙◌, rules}
use Rattle.std.specs.Cmp.Lexicographic.{slice_cmp}
use Rattle.std.specs.Ordering.{nat_cmp, ordering_then}
use Rattle.std.specs.declared.cmp.Ordering.TheVariants.{Less, Equal}
use Rattle.item_nodes.proofs.HeadOrder.{cmp-append}
use Rattle.item_nodes.proofs.rising.are_rising.Goals as goal

pub returns-in-Less : goal.returns-in-Less
returns-in-Less c t =
    let len : length c.args.head.now ≡ length c.args.next.now = search rules in
    let is : slice_cmp nat_cmp c.args.head.now c.args.next.now ≡ Less = search rules in
    cmp-append c.args.head.now c.args.next.now c.args.string.now c.args.next_string.now len ∙ ap (λ o. ordering_then o (slice_cmp nat_cmp c.args.string.now c.args.next_string.now)) is

pub returns-in-Equal : goal.returns-in-Equal
returns-in-Equal c t =
    let len : length c.args.head.now ≡ length c.args.next.now = search rules in
    let is : slice_cmp nat_cmp c.args.head.now c.args.next.now ≡ Equal = search rules in
    cmp-append c.args.head.now c.args.next.now c.args.string.now c.args.next_string.now len
    ∙ (ap (λ o. ordering_then o (slice_cmp nat_cmp c.args.string.now c.args.next_string.now)) is ∙ c.is_before.ensures t)
