use Rattle.std.proofs.Common.{◌≡◌, ◌++◌, drop}
use Rattle.check_names.specs.Environment.Places.{lists}
use Rattle.check_reading.specs.Survey.Survey.{parameters_at}
use Rattle.tree_nodes.specs.View.{token_of}
use Rattle.check_reading.proofs.OfSurvey.Starting.{of_each}
use Rattle.check_reading.proofs.survey.parameters.all_parameters.Given as goal

abbrev pub invariant-loop-rule : goal.invariant-loop-rule
invariant-loop-rule l = lists l.starts.items ++ of_each parameters_at (token_of l.tree) (drop l.rule-index l.rule-items) ≡ of_each parameters_at (token_of l.tree) l.rule-items
