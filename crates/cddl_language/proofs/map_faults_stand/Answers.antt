use Rattle.cddl_language.proofs.MapsStand.{bad_occurrence_stands, no_key_stands, reference_stands, way_back_stands}
use Rattle.cddl_language.proofs.map_faults_stand.Goals as goal

pub returns-clause-keys : goal.returns-clause-keys
returns-clause-keys c = λ rs root r xs t g reached. no_key_stands rs root reached

pub returns-clause-occurrences : goal.returns-clause-occurrences
returns-clause-occurrences c = λ rs root r xs t g reached. bad_occurrence_stands rs root reached

pub returns-clause-ways : goal.returns-clause-ways
returns-clause-ways c = λ rs root r xs t g reached. way_back_stands rs root reached

pub returns-clause-leads : goal.returns-clause-leads
returns-clause-leads c = reference_stands
