use Rattle.std.proofs.Common.{◌≡◌, ◌<◌, ◌≤◌, ◌∙◌, ℕ, nat_lt, true, false, sym, rules, arith}
use Rattle.std.proofs.lemmas.Bool.Decides.{nat_tests}
use Rattle.std.proofs.lemmas.List.Sorted.{IsPartitionPoint-from_clause, IsPartitionedBy-ltb}
use Rattle.table_nodes.specs.declared.sizes.NumberRange.{NumberRange}
use Rattle.table_nodes.proofs.Finding.{found, last_rise}
use Rattle.table_nodes.proofs.sizes.is_in.Goals as goal

below : (a b : ℕ) → nat_lt a b ≡ true → a < b
below a b h = grind (arith, nat_tests)

not_below : (a b : ℕ) → nat_lt a b ≡ false → b ≤ a
not_below a b h = grind (arith, nat_tests)

pub returns : goal.returns
returns c =
    let rise = IsPartitionedBy-ltb (λ (r : NumberRange). r.last) c.args.ranges.now c.args.number (last_rise c.args.ranges.now c.requires) in
    let point = IsPartitionPoint-from_clause (λ (r : NumberRange). nat_lt r.last c.args.number) c.args.ranges.now c.partition_point-place.result c.partition_point-place.ensures.partitioned rise (λ a r q k. search rules) in
    c.begins_by.ensures ∙ sym (found c.args.number c.args.ranges.now c.partition_point-place.result c.requires (λ k d l. below _ _ (point.0 k d (omega arith) l)) (λ k d l w. not_below _ _ (point.1 k d l w)))
