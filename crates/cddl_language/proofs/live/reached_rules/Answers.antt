use Rattle.cddl_language.proofs.OfLive.Reached.{in_body_there, is_defined}
use Rattle.cddl_language.proofs.live.reached_rules.Goals as goal

pub returns-clause-defined : goal.returns-clause-defined
returns-clause-defined c = is_defined

pub returns-clause-body : goal.returns-clause-body
returns-clause-body c = in_body_there
