use Rattle.std.proofs.Common.{◌≡◌, ◌≤◌, ◌-◌}
use Rattle.table_nodes.specs.Language.{language_of}
use Rattle.table_nodes.specs.Nodes.{type_view}
use Rattle.cddl_match.specs.Ahead.{ComesTo, IsEntered}
use Rattle.match_moves.specs.Views.{rounds_move}
use Rattle.cddl_match.proofs.looking.rounds_of.Given as goal

-- the rounds that are left are of the same group, and the first ones come to them
abbrev pub invariant-loop-base : goal.invariant-loop-base
invariant-loop-base l = record {
  within : l.asked ≤ l.fn.steps;
  group : l.rounds.group ≡ l.fn.rounds.group;
  comes : IsEntered (language_of l.fn.table) l.fn.rounds.group l.fn.entered.node (type_view l.fn.entered.form.now) l.fn.entered.groups l.fn.entered.types → ComesTo (language_of l.fn.table) (rounds_move l.fn.rounds) (rounds_move l.rounds) l.asked;
}

abbrev pub decreases-loop-base : goal.decreases-loop-base
decreases-loop-base l = l.fn.steps - l.asked
