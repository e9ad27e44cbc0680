use Rattle.std.proofs.Common.{sym, subst}
use Rattle.cddl_language.specs.Kinds as K
use Rattle.check_instances.specs.Openings.Openings.{IsPart}
use Rattle.check_instances.proofs.OfOpenings.Parting.{part_right}
use Rattle.check_instances.proofs.openings.parts.part_of.Goals as goal

pub returns : goal.returns
returns c = λ xs root refs x is kinds opens h g. subst (IsPart c.args.terms.now refs (K.part_of xs x)) (sym c.part_there.ensures) (part_right c.args.terms.now c.equal_numbers.ensures.reference xs root refs c.args.closed.now is c.args.kinds.now kinds c.args.openings.now opens c.args.row x h g)
