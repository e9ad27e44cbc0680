use Rattle.check_instances.specs.Openings.Openings.{IsOpening}
use Rattle.check_instances.proofs.OfOpenings.Joining.{alike_at}
use Rattle.check_instances.proofs.openings.laws.opening_stands.Goals as goal

pub returns : goal.returns
returns c = λ xs t refs openings k r h e. alike_at (IsOpening xs t) refs openings h k r e
