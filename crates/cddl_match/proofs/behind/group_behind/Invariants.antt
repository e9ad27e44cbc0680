use Rattle.std.proofs.Common.{◌-◌}
use Rattle.table_nodes.specs.Language.{language_of}
use Rattle.cddl_match.specs.Ahead.{IsGroupOf}
use Rattle.cddl_match.proofs.behind.group_behind.Given as goal

abbrev pub invariant-loop-asked : goal.invariant-loop-asked
invariant-loop-asked l = IsGroupOf (language_of l.fn.table) l.fn.group l.behind l.asked

abbrev pub decreases-loop-asked : goal.decreases-loop-asked
decreases-loop-asked l = 8 - l.asked
