use Rattle.cddl_language.proofs.MapsFlat.{comes_back_nowhere, has_keys, occurs_well}
use Rattle.cddl_language.proofs.flat_maps_are_right.Goals as goal

pub returns-clause-keys : goal.returns-clause-keys
returns-clause-keys c = has_keys

pub returns-clause-ways : goal.returns-clause-ways
returns-clause-ways c = comes_back_nowhere

pub returns-clause-occurrences : goal.returns-clause-occurrences
returns-clause-occurrences c = occurs_well
