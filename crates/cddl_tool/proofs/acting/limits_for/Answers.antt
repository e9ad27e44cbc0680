use Rattle.cddl_tool.proofs.Ranges.{within}
use Rattle.cddl_tool.proofs.acting.limits_for.Goals as goal

pub unreachable-requires : goal.unreachable-requires
unreachable-requires c = within _ _ c.args.options.now.depth_in_range c.args.options.now.item_bytes_in_range c.in-None.ensures.outside
