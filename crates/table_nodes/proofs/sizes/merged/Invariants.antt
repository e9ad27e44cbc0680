use Rattle.std.proofs.Common.{◌≡◌, ◌||◌, ◌<◌, ◌≤◌, ℕ, drop, length, slice_index_or}
use Rattle.cddl_meaning.specs.Forms.{is_member}
use Rattle.table_nodes.specs.declared.sizes.NumberRange.{NumberRange}
use Rattle.table_nodes.specs.Sizes.{AreInOrder, BeginBy, sizes_view}
use Rattle.table_nodes.proofs.sizes.merged.Given as goal

-- the numbers of those so far and of those that are left are all
abbrev pub invariant-loop-range : goal.invariant-loop-range
invariant-loop-range l = record {
  in_order : AreInOrder l.merged.items;
  begins : (k : ℕ) (d : NumberRange) → l.range-index ≤ k → k < length l.ranges → BeginBy (slice_index_or l.ranges k d).least l.merged.items;
  members : (n : ℕ) → (is_member n (sizes_view l.merged.items) || is_member n (sizes_view (drop l.range-index l.ranges))) ≡ is_member n (sizes_view l.ranges);
}
