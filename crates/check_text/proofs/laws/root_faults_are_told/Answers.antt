use Rattle.check_text.proofs.Staging.{alternatives_told, controller_told, key_told, literal_told, none_told, range_told, recursion_told, shape_told, too_many_told, unwrapping_told}
use Rattle.check_text.proofs.laws.root_faults_are_told.Goals as goal

pub returns-clause-too_many : goal.returns-clause-too_many
returns-clause-too_many c = too_many_told

pub returns-clause-unwrapping : goal.returns-clause-unwrapping
returns-clause-unwrapping c = unwrapping_told

pub returns-clause-recursion : goal.returns-clause-recursion
returns-clause-recursion c = recursion_told

pub returns-clause-literal : goal.returns-clause-literal
returns-clause-literal c = literal_told

pub returns-clause-range : goal.returns-clause-range
returns-clause-range c = range_told

pub returns-clause-controller : goal.returns-clause-controller
returns-clause-controller c = controller_told

pub returns-clause-key : goal.returns-clause-key
returns-clause-key c = key_told

pub returns-clause-shape : goal.returns-clause-shape
returns-clause-shape c = shape_told

pub returns-clause-alternatives : goal.returns-clause-alternatives
returns-clause-alternatives c = alternatives_told

pub returns-clause-accepted : goal.returns-clause-accepted
returns-clause-accepted c = none_told
