use Rattle.std.proofs.Common.{subst}
use Rattle.check_instances.specs.Found.{IsFound}
use Rattle.cddl_language.specs.Faults.{definitions}
use Rattle.check_root.proofs.OfRootFaults.Few.{few, many}
use Rattle.check_root.proofs.root_faults.instances.too_many.Goals as goal

pub returns-in-Instances : goal.returns-in-Instances
returns-in-Instances c s root t h = few s root t c.in-Instances.field-0.items (subst (IsFound (definitions s) root t) c.in-Instances.is h)

pub returns-in-TooMany : goal.returns-in-TooMany
returns-in-TooMany c s root t h = many s root (subst (IsFound (definitions s) root t) c.in-TooMany.is h)
