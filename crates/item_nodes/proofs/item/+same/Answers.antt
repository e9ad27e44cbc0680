use Rattle.std.proofs.Common.{◌≢◌, length, rules, sym}
use Rattle.item_nodes.proofs.Walks.{same_values-len, same_pairs-len}
use Rattle.item_nodes.proofs.item.+same.Goals as goal

pub are_members_same-returns-then-len : goal.are_members_same-returns-then-len
are_members_same-returns-then-len t c =
    let other : length c.args.xs.now.items ≢ length c.args.ys.now.items = search rules in
    sym (same_values-len c.args.xs.now.items c.args.ys.now.items other)

pub are_pairs_same-returns-then-len : goal.are_pairs_same-returns-then-len
are_pairs_same-returns-then-len t c =
    let other : length c.args.ps.now.items ≢ length c.args.qs.now.items = search rules in
    sym (same_pairs-len c.args.ps.now.items c.args.qs.now.items other)
