use Rattle.std.proofs.Common.{◌-◌, ◌≤◌}
use Rattle.table_nodes.specs.Language.{language_of}
use Rattle.tape_match.specs.Says.{DoesAs}
use Rattle.tape_match.proofs.asking.behind_group_names.Given as goal

abbrev pub invariant-loop-names : goal.invariant-loop-names
invariant-loop-names l = record {
  few : l.names ≤ 16;
  stands : DoesAs (language_of l.fn.table) ((language_of l.fn.table).group_at l.fn.group) ((language_of l.fn.table).group_at l.at) l.names;
}

abbrev pub decreases-loop-names : goal.decreases-loop-names
decreases-loop-names l = 16 - l.names
