use Rattle.std.proofs.Common.{slice_index_or, arith}
use Rattle.table_nodes.proofs.Joining.{begins_later, members_step}
use Rattle.table_nodes.proofs.sizes.merged.Goals as goal

pub loop-range-preserved : goal.loop-range-preserved
loop-range-preserved c =
    let xs = c.args.ranges.now in
    let i = c.loop-range.range-index in
    record {
      in_order = c.in_ok-add.ensures.in_order;
      begins = λ k d l w. c.in_ok-add.ensures.begins (slice_index_or xs k d).least (begins_later xs i k d _ c.requires (omega (arith, l)) w) (c.loop-range.invariant.begins k d (omega (arith, l)) w);
      members = λ n. members_step n xs c.loop-range.merged.items c.add.new.merged.items i _ c.loop-range-test.true (c.in_ok-add.ensures.members n) (c.loop-range.invariant.members n);
    }
