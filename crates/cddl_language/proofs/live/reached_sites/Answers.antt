use Rattle.cddl_language.proofs.OfLive.Reached.{reached}
use Rattle.cddl_language.proofs.OfLive.Lemmas.{in_instance, live as reached_is_live}
use Rattle.cddl_language.proofs.live.reached_sites.Goals as goal

pub returns-clause-live : goal.returns-clause-live
returns-clause-live c = reached_is_live

pub returns-clause-instance : goal.returns-clause-instance
returns-clause-instance c = in_instance

pub returns-clause-reached : goal.returns-clause-reached
returns-clause-reached c = reached
