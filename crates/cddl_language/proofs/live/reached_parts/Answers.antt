use Rattle.cddl_language.proofs.OfLive.Reached.{chosen_there, in_first_there, in_group_there, in_last_there, in_map_there}
use Rattle.cddl_language.proofs.live.reached_parts.Goals as goal

pub returns-clause-reference : goal.returns-clause-reference
returns-clause-reference c = chosen_there

pub returns-clause-group : goal.returns-clause-group
returns-clause-group c = in_group_there

pub returns-clause-first : goal.returns-clause-first
returns-clause-first c = in_first_there

pub returns-clause-last : goal.returns-clause-last
returns-clause-last c = in_last_there

pub returns-clause-map : goal.returns-clause-map
returns-clause-map c = in_map_there
