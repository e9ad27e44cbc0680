use Rattle.std.proofs.Common.{◌≡◌, ◌++◌, drop, length, map}
use Rattle.table_nodes.specs.Choices.{buckets_in, member_bucket, type_in}
use Rattle.table_nodes.proofs.choices.buckets_of.Given as goal

-- with those that are left, all of them
abbrev pub invariant-loop-member : goal.invariant-loop-member
invariant-loop-member l = l.buckets.items ++ map (member_bucket (type_in l.fn.types) (length l.fn.members)) (drop l.member-index l.fn.members) ≡ buckets_in (type_in l.fn.types) l.fn.members
