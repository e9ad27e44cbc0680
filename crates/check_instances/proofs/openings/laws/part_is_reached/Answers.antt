use Rattle.cddl_language.specs.Kinds.{names_group, opens}
use Rattle.check_instances.proofs.OfOpenings.Parting.{part_reached}
use Rattle.check_instances.proofs.openings.laws.part_is_reached.Goals as goal

pub returns-clause-named : goal.returns-clause-named
returns-clause-named c = λ xs root x r h e. part_reached xs root x (names_group r) h e

pub returns-clause-opened : goal.returns-clause-opened
returns-clause-opened c = λ xs root x r g h e. (part_reached xs root x (opens r g) h e).0

pub returns-clause-group : goal.returns-clause-group
returns-clause-group c = λ xs root x r g h e. (part_reached xs root x (opens r g) h e).1
