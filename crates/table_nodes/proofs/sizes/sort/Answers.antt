use Rattle.std.proofs.Common.{◌∙◌, sym, rules}
use Rattle.std.proofs.lemmas.List.Sorted.{IsNonDecreasingBy-from_sort_by_key, list_any-IsPermutation}
use Rattle.table_nodes.specs.declared.sizes.NumberRange.{NumberRange}
use Rattle.table_nodes.proofs.Members.{any_has, has}
use Rattle.table_nodes.proofs.sizes.sort.Goals as goal

pub returns-clause-sorted : goal.returns-clause-sorted
returns-clause-sorted c = IsNonDecreasingBy-from_sort_by_key (λ (r : NumberRange). r.least) _ c.sort_unstable_by_key.ensures.sorted (λ a r q k. search rules)

pub returns-clause-members : goal.returns-clause-members
returns-clause-members c = λ n.
    let before = c.args.ranges.now.items in
    let after = c.sort_unstable_by_key.new.self.items in
    any_has n after ∙ sym (any_has n before ∙ list_any-IsPermutation (has n) before after c.sort_unstable_by_key.ensures.permutation)
