use Rattle.std.proofs.Common.{◌≡◌, ◌++◌, drop, map}
use Rattle.cddl_language.specs.Reading.{parameters_of}
use Rattle.check_reading.specs.Survey.Survey.{token_at}
use Rattle.tree_nodes.specs.View.{token_of, view_parm}
use Rattle.check_reading.proofs.OfSurvey.Starting.{further}
use Rattle.check_reading.proofs.survey.parameters.of_list.Given as goal

abbrev pub invariant-loop-parameter : goal.invariant-loop-parameter
invariant-loop-parameter l = l.starts.items ++ further (token_of l.tree) (drop l.parameter-index l.parameter-items) ≡ map token_at (parameters_of (view_parm (token_of l.tree) l.parameters))
