use Rattle.std.proofs.Common.{◌≡◌, ◌<◌, ◌≤◌, nat_lt, sym, arith, rules}
use Rattle.std.proofs.lemmas.List.Sorted.{IsPartitionPoint-from_clause, IsPartitionedBy-ltb}
use Rattle.std.proofs.lemmas.Map.Keys.{non_decreasing_from_sorted, sorted_from_strictly_increasing}
use Rattle.lists.proofs.Lemmas.{less, not_below}
use Rattle.cddl_table.proofs.Places.{place_by}
use Rattle.cddl_table.proofs.order.place_of.Goals as goal

pub returns : goal.returns
returns c =
    let used = c.args.used.now in
    let rank = c.args.rank in
    let rise = IsPartitionedBy-ltb (λ n. n) used rank (non_decreasing_from_sorted used (sorted_from_strictly_increasing used c.requires)) in
    let point = IsPartitionPoint-from_clause (λ n. nat_lt n rank) used c.partition_point.result c.partition_point.ensures.partitioned rise (λ a r q k. search rules) in
    sym (place_by 0 rank used c.partition_point.result c.partition_point.ensures.bound (λ i l. less _ _ (point.0 i 0 (omega arith) l)) (λ i l w. not_below _ _ (point.1 i 0 l w)))
