use Rattle.std.proofs.Common.{◌≡◌, ◌++◌, drop}
use Rattle.cddl_language.specs.Reading.{name_at}
use Rattle.tree_nodes.specs.View.{token_of}
use Rattle.check_reading.proofs.OfSurvey.Starting.{of_each}
use Rattle.check_reading.proofs.survey.starts.starts_of.Given as goal

abbrev pub invariant-loop-rule : goal.invariant-loop-rule
invariant-loop-rule l = l.starts.items ++ of_each name_at (token_of l.tree) (drop l.rule-index l.rule-items) ≡ of_each name_at (token_of l.tree) l.rule-items
