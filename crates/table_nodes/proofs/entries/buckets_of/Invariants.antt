use Rattle.std.proofs.Common.{◌≡◌, ◌++◌, drop, length, map}
use Rattle.table_nodes.specs.Choices.{type_in}
use Rattle.table_nodes.specs.Entries.{entry_bucket, entry_buckets_in}
use Rattle.table_nodes.specs.Nodes.{entries_view}
use Rattle.table_nodes.proofs.entries.buckets_of.Given as goal

-- with those that are left, all of them
abbrev pub invariant-loop-entry : goal.invariant-loop-entry
invariant-loop-entry l = l.buckets.items ++ map (entry_bucket (type_in l.fn.types) (length l.fn.entries)) (entries_view (drop l.entry-index l.fn.entries)) ≡ entry_buckets_in (type_in l.fn.types) (entries_view l.fn.entries)
